use borrow.Author.Rules.{rules}
use Rattle.std.proofs.Common.{◌≡◌, map, ap, ◌∙◌}
use Rattle.scan_values.specs.Marked.{is_true}
use Rattle.scan_values.specs.Masks.{null_where_false}
use Rattle.scan_values.specs.Val.{marked}
use Rattle.scan_columns.specs.Cells.{vals_in}
use Rattle.scan_columns.proofs.KernelLemmas.{masked_pairs}
use Rattle.scan_columns.proofs.binary.typed_pairs.Goals as goal

pub returns-then-is_mask : goal.returns-then-is_mask
returns-then-is_mask c =
    let vs = vals_in c.args.x.now in
    let ws = vals_in c.args.y.now in
    let made : vals_in c.in_ok-mask.field-0 ≡ null_where_false c.in_ok-truths.field-0 vs = search (rules, c.in_ok-mask.ensures) in
    let truths : c.in_ok-truths.field-0 ≡ map (λ v. is_true (marked v)) ws = search (rules, c.in_ok-truths.ensures) in
    made ∙ ap (λ m. null_where_false m vs) truths ∙ masked_pairs c.args.op vs ws (c.is_mask.ensures c.if-is_mask.true)
