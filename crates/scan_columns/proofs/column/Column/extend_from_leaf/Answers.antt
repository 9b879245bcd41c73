use borrow.Author.Rules.{rules}
use Rattle.std.proofs.Common.{◌≡◌, ◌+◌, ◌++◌, true, length, slice_range, subst, sym, ap, ◌∙◌}
use Rattle.std.specs.List.{items_where_true}
use Rattle.scan_values.specs.Arrays.{ArrayData}
use Rattle.scan_values.specs.DataType.{DataType}
use Rattle.scan_values.specs.Val.{vals_of, marked_all}
use Rattle.scan_values.specs.Fits.{fits_all}
use Rattle.scan_values.proofs.Fitting.{fit-range, fit-where_true}
use Rattle.scan_columns.specs.Cells.{vals_in}
use Rattle.scan_columns.proofs.FitLemmas.{fit_append}
use Rattle.scan_columns.proofs.column.Column.extend_from_leaf.Goals as goal

pub invariant_of-result : goal.invariant_of-result
invariant_of-result c =
    let d = c.self.inside.dtype.value in
    let vs = vals_in c.self.inside.cells in
    let part = slice_range c.args.leaf.now.items c.args.first (c.args.first + length c.args.mask.now) in
    let made : vals_in c.in_ok-cells.cells ≡ vs ++ items_where_true c.args.mask.now part = search (rules, c.in_ok-cells.ensures) in
    let same : c.args.leaf.now.dtype ≡ d = c.requires.dtype ∙ sym (ap (λ (a : ArrayData). a.dtype) c.self.view_is) in
    let fit = subst (λ (t : DataType). fits_all (marked_all (vals_of c.args.leaf.now.items)) t ≡ true) same c.fitted_dtype-fitted.ensures.fit in
    rw (made)
    (fit_append d vs (items_where_true c.args.mask.now part) c.self.invariant
    (fit-where_true c.args.mask.now part d (fit-range c.args.first (c.args.first + length c.args.mask.now) c.args.leaf.now.items d fit)))
