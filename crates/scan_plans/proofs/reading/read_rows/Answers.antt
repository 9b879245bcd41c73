use borrow.Author.Rules.{rules}
use Rattle.std.proofs.Common.{◌≡◌, ◌+◌, length, ◌∙◌}
use Rattle.std.specs.Prelude.{slice_range}
use Rattle.std.specs.List.{items_where_true}
use Rattle.scan_values.specs.Arrays.{of_parts}
use Rattle.scan_plans.proofs.Nodes.{rows_ok}
use Rattle.scan_plans.proofs.reading.read_rows.Goals as goal

pub returns : goal.returns
returns c = λ here.
    let a = c.args.array.now in
    let m = c.args.mask.now in
    let part : c.in_ok-part.part ≡ of_parts a.dtype (slice_range a.items c.args.first (c.args.first + length m)) = search (rules, c.in_ok-part.ensures, c.min-end.ensures, c.len.ensures, c.len-2.ensures) in
    let kept : c.in_ok-kept.kept ≡ of_parts a.dtype (items_where_true m (slice_range a.items c.args.first (c.args.first + length m))) = search (rules, c.in_ok-kept.ensures, part) in
    rows_ok a here c.args.first m c.in_ok-from_array.field-0 c.requires (c.in_ok-from_array.ensures ∙ kept)
