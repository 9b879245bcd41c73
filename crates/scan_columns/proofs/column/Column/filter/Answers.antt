use borrow.Author.Rules.{rules}
use Rattle.std.proofs.Common.{◌≡◌}
use Rattle.std.specs.List.{items_where_true}
use Rattle.scan_values.proofs.Fitting.{fit-where_true}
use Rattle.scan_columns.specs.Cells.{vals_in}
use Rattle.scan_columns.proofs.column.Column.filter.Goals as goal

pub invariant_of-result : goal.invariant_of-result
invariant_of-result c =
    let made : vals_in c.in_ok-cells.cells ≡ items_where_true c.args.m.now (vals_in c.self.inside.cells) = search (rules, c.in_ok-cells.ensures) in
    let same : c.in_ok-dtype.dtype.value ≡ c.self.inside.dtype.value = search (rules, c.in_ok-dtype.ensures) in
    rw (made, same) (fit-where_true c.args.m.now (vals_in c.self.inside.cells) c.self.inside.dtype.value c.self.invariant)
