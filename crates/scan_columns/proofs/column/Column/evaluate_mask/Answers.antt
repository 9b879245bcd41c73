use borrow.Author.Rules.{rules}
use Rattle.std.proofs.Common.{◌≡◌, true, false, map, ap, sym, ◌∙◌}
use Rattle.scan_values.specs.Arrays.{ArrayData}
use Rattle.scan_values.specs.Marked.{is_true}
use Rattle.scan_values.specs.Val.{marked}
use Rattle.scan_expr.specs.Eval.{eval}
use Rattle.scan_columns.specs.Cells.{vals_in}
use Rattle.scan_columns.specs.Evaluated.{value_in, overflows_in}
use Rattle.scan_columns.specs.Rows.{given_vals, unnumbered}
use Rattle.scan_columns.proofs.Evaluation.{true_on}
use Rattle.scan_columns.proofs.RowLemmas.{whole_values, whole_overflows}
use Rattle.scan_columns.proofs.column.Column.evaluate_mask.Goals as goal

pub returns-clause-truths : goal.returns-clause-truths
returns-clause-truths c =
    let s = c.args.expr.now.scope in
    let e = c.args.expr.now.expr in
    let vs = vals_in c.self.inside.cells in
    let given : given_vals c.in_ok-given.given ≡ map (value_in s e) (map unnumbered vs) = search (rules, c.in_ok-given.ensures.items) in
    let none : overflows_in s e (map unnumbered vs) ≡ false = search (rules, c.in_ok-given.ensures.within) in
    let truths : c.in_ok-truths.field-0 ≡ map (λ v. is_true (marked v)) (vals_in c.as_cells.result.now) = search (rules, c.in_ok-truths.ensures) in
    let made = c.as_cells.ensures ∙ given ∙ whole_values s e vs in
    let within = sym (whole_overflows s e vs) ∙ none in
    truths ∙ ap (map (λ v. is_true (marked v))) made ∙ true_on s e vs within
    ∙ ap (λ (a : ArrayData). map (λ v. is_true (eval s e (marked v) 0)) a.items) c.self.view_is

pub returns-clause-within : goal.returns-clause-within
returns-clause-within c =
    let s = c.args.expr.now.scope in
    let e = c.args.expr.now.expr in
    let vs = vals_in c.self.inside.cells in
    let none : overflows_in s e (map unnumbered vs) ≡ false = search (rules, c.in_ok-given.ensures.within) in
    rw (← c.self.view_is) (sym (whole_overflows s e vs) ∙ none)

pub returns-in_err-given-clause-overflow : goal.returns-in_err-given-clause-overflow
returns-in_err-given-clause-overflow c = λ h.
    let s = c.args.expr.now.scope in
    let e = c.args.expr.now.expr in
    let vs = vals_in c.self.inside.cells in
    let over : overflows_in s e (map unnumbered vs) ≡ true = search (rules, h) in
    rw (← c.self.view_is) (sym (whole_overflows s e vs) ∙ over)
