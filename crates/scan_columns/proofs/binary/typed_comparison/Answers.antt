use borrow.Author.Rules.{rules}
use Rattle.std.proofs.Common.{◌≡◌, map, length, replicate, ◌∙◌}
use Rattle.scan_values.specs.DataType.{bool_type}
use Rattle.scan_values.specs.declared.ptype.Nullability.TheVariants.{Nullable}
use Rattle.scan_values.specs.Val.{int_val}
use Rattle.scan_columns.specs.Cells.{vals_in}
use Rattle.scan_columns.specs.Compared.{compare_val}
use Rattle.scan_columns.proofs.Pairing.{with_numbers}
use Rattle.scan_columns.proofs.binary.typed_comparison.Goals as goal

pub returns-in-Some : goal.returns-in-Some
returns-in-Some c =
    let op = c.args.op in
    let vs = vals_in c.args.x.now in
    let ws = vals_in c.args.y.now in
    let made : vals_in c.in_ok-compare.field-0 ≡ map (compare_val op c.in-Some.literal) vs = search (rules, c.in_ok-compare.ensures) in
    let same : ws ≡ replicate (length ws) (int_val c.in-Some.literal) = search (rules, c.in-Some.ensures) in
    made ∙ with_numbers op (bool_type Nullable) c.in-Some.literal vs ws c.requires.compares c.requires.even same
