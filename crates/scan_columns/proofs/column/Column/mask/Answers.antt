use borrow.Author.Rules.{rules}
use Rattle.std.proofs.Common.{◌≡◌}
use Rattle.scan_values.specs.DataType.{with_nullability}
use Rattle.scan_values.specs.declared.ptype.Nullability.TheVariants.{Nullable}
use Rattle.scan_values.specs.Masks.{null_where_false}
use Rattle.scan_values.proofs.Fitting.{fit-null_where_false}
use Rattle.scan_columns.specs.Cells.{vals_in}
use Rattle.scan_columns.proofs.column.Column.mask.Goals as goal

pub invariant_of-result : goal.invariant_of-result
invariant_of-result c =
    let made : vals_in c.in_ok-cells.cells ≡ null_where_false c.args.m.now (vals_in c.self.inside.cells) = search (rules, c.in_ok-cells.ensures) in
    let nullable : c.in_ok-dtype.dtype.value ≡ with_nullability Nullable c.self.inside.dtype.value = search (rules, c.in_ok-dtype.ensures, c.with_nullability-nullable.ensures, c.in_ok-try_clone.ensures) in
    rw (made, nullable) (fit-null_where_false c.args.m.now (vals_in c.self.inside.cells) c.self.inside.dtype.value c.self.invariant)
