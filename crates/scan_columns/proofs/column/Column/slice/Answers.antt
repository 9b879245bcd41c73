use borrow.Author.Rules.{rules}
use Rattle.std.proofs.Common.{◌≡◌, slice_range}
use Rattle.scan_values.proofs.Fitting.{fit-range}
use Rattle.scan_columns.specs.Cells.{vals_in}
use Rattle.scan_columns.proofs.column.Column.slice.Goals as goal

pub invariant_of-result : goal.invariant_of-result
invariant_of-result c =
    let made : vals_in c.in_ok-cells.cells ≡ slice_range (vals_in c.self.inside.cells) c.args.r.start c.args.r.end = search (rules, c.in_ok-cells.ensures) in
    let same : c.in_ok-dtype.dtype.value ≡ c.self.inside.dtype.value = search (rules, c.in_ok-dtype.ensures) in
    rw (made, same) (fit-range c.args.r.start c.args.r.end (vals_in c.self.inside.cells) c.self.inside.dtype.value c.self.invariant)
