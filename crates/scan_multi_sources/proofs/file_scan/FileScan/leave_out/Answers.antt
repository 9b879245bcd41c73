use Rattle.std.proofs.Common.{◌≡◌, ◌<◌, ap, length, sym, subst, map, ◌∙◌}
use Rattle.scan_multi_sources.specs.FileView.{slot_view}
use Rattle.scan_multi_sources.specs.MultiScans.{IsMultiScan, left_out, multi_scan}
use Rattle.scan_multi_sources.proofs.Finding.{map_remove}
use Rattle.scan_multi_sources.proofs.Standing.{left_out_stands}
use Rattle.scan_multi_sources.proofs.file_scan.FileScan.leave_out.Goals as goal

pub invariant_of-self : goal.invariant_of-self
invariant_of-self g c =
    let i = c.self.inside in
    let within = subst (λ z. c.args.at < length z.window) (sym c.self.view_is) c.requires in
    let files = ap (map slot_view) c.remove-skipped.ensures.items ∙ map_remove slot_view i.window.items c.args.at in
    subst (λ ws. IsMultiScan (multi_scan i.source i.request i.numbers ws i.waiting.items i.row_limit i.given_rows i.delivered)) (sym files)
    (left_out_stands (multi_scan i.source i.request i.numbers (map slot_view i.window.items) i.waiting.items i.row_limit i.given_rows i.delivered) c.self.invariant c.args.at within)

pub returns : goal.returns
returns g c =
    let i = c.self.inside in
    let files = ap (map slot_view) c.remove-skipped.ensures.items ∙ map_remove slot_view i.window.items c.args.at in
    subst (λ z. multi_scan i.source i.request i.numbers (map slot_view c.remove-skipped.new.self.items) i.waiting.items i.row_limit i.given_rows i.delivered ≡ left_out z c.args.at)
    c.self.view_is (ap (λ ws. multi_scan i.source i.request i.numbers ws i.waiting.items i.row_limit i.given_rows i.delivered) files)
