use borrow.Author.Rules.{rules}
use Rattle.std.proofs.Common.{◌≡◌, ◌++◌, true, subst}
use Rattle.scan_values.specs.DataType.{DataType}
use Rattle.scan_values.specs.Val.{vals_of, marked_all}
use Rattle.scan_values.specs.Fits.{fits_all}
use Rattle.scan_columns.specs.Cells.{vals_in}
use Rattle.scan_columns.proofs.FitLemmas.{fit_append}
use Rattle.scan_columns.proofs.column.Column.append.Goals as goal

pub invariant_of-result : goal.invariant_of-result
invariant_of-result c =
    let made : vals_in c.in_ok-cells.cells ≡ vals_in c.self.inside.cells ++ vals_in c.other.inside.cells = search (rules, c.in_ok-cells.ensures) in
    let same : c.other.inside.dtype.value ≡ c.self.inside.dtype.value = search (rules, c.requires, c.self.view_is, c.other.view_is) in
    let fit = subst (λ (d : DataType). fits_all (marked_all (vals_of (vals_in c.other.inside.cells))) d ≡ true) same c.other.invariant in
    rw (made) (fit_append c.self.inside.dtype.value (vals_in c.self.inside.cells) (vals_in c.other.inside.cells) c.self.invariant fit)
