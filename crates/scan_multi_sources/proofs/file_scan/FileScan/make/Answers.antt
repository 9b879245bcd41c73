use Rattle.std.proofs.Common.{◌≡◌, None, false, sym, subst, map, ap, rules, ◌∙◌}
use Rattle.scan_layout.specs.Layout.{rows_of}
use Rattle.scan_multi_sources.specs.FileFaults.{file_fault, is_too_many, rows_after}
use Rattle.scan_multi_sources.specs.FileView.{slot_view}
use Rattle.scan_multi_sources.specs.MultiScans.{multi_scan}
use Rattle.scan_multi_sources.proofs.Parting.{of_form, of_over, of_range, part_room}
use Rattle.scan_multi_sources.proofs.Standing.{counted_stands, same_stands}
use Rattle.scan_multi_sources.proofs.file_scan.FileScan.make.Goals as goal

pub split_of-requires-clause-form : goal.split_of-requires-clause-form
split_of-requires-clause-form g c =
    let i = c.self.inside in
    let good = subst (λ z. file_fault z.source.dtype z.request.row_range c.args.place c.args.layout.now.value ≡ None) (sym c.self.view_is) c.requires.good in
    of_form i.source.dtype i.request c.args.place c.args.layout.now.value good

pub split_of-requires-clause-over : goal.split_of-requires-clause-over
split_of-requires-clause-over g c =
    let i = c.self.inside in
    let good = subst (λ z. file_fault z.source.dtype z.request.row_range c.args.place c.args.layout.now.value ≡ None) (sym c.self.view_is) c.requires.good in
    of_over i.source.dtype i.request c.args.place c.args.layout.now.value good c.self.invariant.over

pub split_of-requires-clause-range : goal.split_of-requires-clause-range
split_of-requires-clause-range g c =
    let i = c.self.inside in
    let good = subst (λ z. file_fault z.source.dtype z.request.row_range c.args.place c.args.layout.now.value ≡ None) (sym c.self.view_is) c.requires.good in
    of_range i.source.dtype i.request c.args.place c.args.layout.now.value good c.self.invariant.forward

pub split_of-requires-clause-room : goal.split_of-requires-clause-room
split_of-requires-clause-room g c =
    let i = c.self.inside in
    let l = c.args.layout.now.value in
    let good = subst (λ z. file_fault z.source.dtype z.request.row_range c.args.place l ≡ None) (sym c.self.view_is) c.requires.good in
    let few = subst (λ z. is_too_many z.seat z.given_rows (rows_of l) ≡ false) (sym c.self.view_is) c.requires.few in
    part_room i.request l i.row_limit i.given_rows (of_range i.source.dtype i.request c.args.place l good c.self.invariant.forward) c.self.invariant.room few

pub invariant_of-self : goal.invariant_of-self
invariant_of-self g c =
    let i = c.self.inside in
    same_stands (multi_scan i.source i.request i.numbers (map slot_view i.window.items) i.waiting.items i.row_limit i.given_rows i.delivered) c.self.invariant c.split_of.new.shared c.in_err-split.ensures

pub invariant_of-self-2 : goal.invariant_of-self-2
invariant_of-self-2 g c =
    let i = c.self.inside in
    let l = c.args.layout.now.value in
    let good = subst (λ z. file_fault z.source.dtype z.request.row_range c.args.place l ≡ None) (sym c.self.view_is) c.requires.good in
    let few = subst (λ z. is_too_many z.seat z.given_rows (rows_of l) ≡ false) (sym c.self.view_is) c.requires.few in
    let n : c.row_count.result ≡ rows_of l = search rules in
    let rows = c.rows_after-given.ensures ∙ ap (λ z. rows_after i.row_limit i.given_rows z) n in
    counted_stands (multi_scan i.source i.request i.numbers (map slot_view i.window.items) i.waiting.items i.row_limit i.given_rows i.delivered) c.self.invariant l c.split_of.new.shared c.rows_after-given.result
    (of_range i.source.dtype i.request c.args.place l good c.self.invariant.forward) few c.in_ok-split.ensures.1 rows
