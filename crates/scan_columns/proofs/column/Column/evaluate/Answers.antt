use borrow.Author.Rules.{rules}
use Rattle.std.proofs.Common.{◌≡◌, true, false, map, subst, ap, sym, ◌∙◌}
use Rattle.scan_values.specs.Arrays.{ArrayData}
use Rattle.scan_values.specs.DataType.{DataType}
use Rattle.scan_values.specs.Val.{vals_of, marked, marked_all}
use Rattle.scan_values.specs.Fits.{fits_all}
use Rattle.scan_expr.specs.Infer.{infer}
use Rattle.scan_expr.specs.Eval.{eval}
use Rattle.scan_columns.specs.Cells.{vals_in}
use Rattle.scan_columns.specs.Evaluated.{value_in, overflows_in}
use Rattle.scan_columns.specs.Rows.{given_vals, unnumbered}
use Rattle.scan_columns.proofs.Evaluation.{fit_on, marked_on}
use Rattle.scan_columns.proofs.RowLemmas.{whole_values, whole_overflows}
use Rattle.scan_columns.proofs.column.Column.evaluate.Goals as goal

pub of_fitting-requires : goal.of_fitting-requires
of_fitting-requires c =
    let s = c.args.expr.now.scope in
    let e = c.args.expr.now.expr in
    let vs = vals_in c.self.inside.cells in
    let given : given_vals c.in_ok-given.given ≡ map (value_in s e) (map unnumbered vs) = search (rules, c.in_ok-given.ensures.items) in
    let taken : vals_in c.in_ok-cells.cells ≡ given_vals c.in_ok-given.given = search (rules, c.in_ok-cells.ensures) in
    let none : overflows_in s e (map unnumbered vs) ≡ false = search (rules, c.in_ok-given.ensures.within) in
    let made = taken ∙ given ∙ whole_values s e vs in
    let within = sym (whole_overflows s e vs) ∙ none in
    let typed : c.in_ok-dtype.dtype.value ≡ infer s e = search (rules, c.in_ok-dtype.ensures.ok, c.in_ok-try_clone.ensures, c.dtype.ensures.dtype) in
    let scope : c.self.inside.dtype.value ≡ s = ap (λ (a : ArrayData). a.dtype) c.self.view_is ∙ c.requires.scope in
    let fit = subst (λ (d : DataType). fits_all (marked_all (vals_of vs)) d ≡ true) scope c.self.invariant in
    rw (made, typed) (fit_on s e vs fit c.dtype.ensures.faultless within)

pub returns-clause-items : goal.returns-clause-items
returns-clause-items c =
    let s = c.args.expr.now.scope in
    let e = c.args.expr.now.expr in
    let vs = vals_in c.self.inside.cells in
    let given : given_vals c.in_ok-given.given ≡ map (value_in s e) (map unnumbered vs) = search (rules, c.in_ok-given.ensures.items) in
    let taken : vals_in c.in_ok-cells.cells ≡ given_vals c.in_ok-given.given = search (rules, c.in_ok-cells.ensures) in
    let none : overflows_in s e (map unnumbered vs) ≡ false = search (rules, c.in_ok-given.ensures.within) in
    let made = taken ∙ given ∙ whole_values s e vs in
    let within = sym (whole_overflows s e vs) ∙ none in
    ap (λ (a : ArrayData). map marked a.items) c.of_fitting.ensures ∙ ap (map marked) made ∙ marked_on s e vs within
    ∙ ap (λ (a : ArrayData). map (λ v. eval s e (marked v) 0) a.items) c.self.view_is

pub returns-clause-within : goal.returns-clause-within
returns-clause-within c =
    let s = c.args.expr.now.scope in
    let e = c.args.expr.now.expr in
    let vs = vals_in c.self.inside.cells in
    let none : overflows_in s e (map unnumbered vs) ≡ false = search (rules, c.in_ok-given.ensures.within) in
    rw (← c.self.view_is) (sym (whole_overflows s e vs) ∙ none)

pub returns-in_err-given-clause-overflow : goal.returns-in_err-given-clause-overflow
returns-in_err-given-clause-overflow c = λ h.
    let s = c.args.expr.now.scope in
    let e = c.args.expr.now.expr in
    let vs = vals_in c.self.inside.cells in
    let over : overflows_in s e (map unnumbered vs) ≡ true = search (rules, h) in
    rw (← c.self.view_is) (sym (whole_overflows s e vs) ∙ over)
