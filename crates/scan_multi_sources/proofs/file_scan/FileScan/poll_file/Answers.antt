use Rattle.std.proofs.Common.{map, refl, subst}
use Rattle.scan_multi_sources.specs.FileView.{slot_view}
use Rattle.scan_multi_sources.specs.MultiScans.{PollsFile, multi_scan}
use Rattle.scan_multi_sources.proofs.Standing.{asked_stands}
use Rattle.scan_multi_sources.proofs.file_scan.FileScan.poll_file.Goals as goal

pub invariant_of-self : goal.invariant_of-self
invariant_of-self g c =
    let i = c.self.inside in
    asked_stands (multi_scan i.source i.request i.numbers (map slot_view i.window.items) i.waiting.items i.row_limit i.given_rows i.delivered) c.self.invariant
    g.O.LayoutReaderFactory.opener c.poll_file.new.self c.args.place c.poll_file.result c.poll_file.ensures

pub returns : goal.returns
returns g c =
    let i = c.self.inside in
    let q = g.O.LayoutReaderFactory.opener in
    subst (λ z. PollsFile q z (multi_scan c.poll_file.new.self i.request i.numbers (map slot_view i.window.items) i.waiting.items i.row_limit i.given_rows i.delivered) c.args.place c.poll_file.result)
    c.self.view_is (c.poll_file.new.self, c.poll_file.ensures, refl)
