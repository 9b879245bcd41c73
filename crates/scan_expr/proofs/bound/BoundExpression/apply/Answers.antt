use borrow.Author.Rules.{rules}
use Rattle.std.proofs.Common.{◌≡◌, ◌<◌, refl, ap, ◌∙◌, subst, map, take, length, arith, List, ℕ, true}
use Rattle.std.proofs.Math.Seq.{drop-cons}
use Rattle.std.proofs.Math.ListN.{drop_of_length-le}
use Rattle.std.proofs.lemmas.Grind.{common_steps}
use Rattle.scan_values.specs.DataType.{DataType}
use Rattle.scan_values.specs.Marked.{Marked}
use Rattle.scan_values.specs.Val.{Val, vals_of, marked, marked_all}
use Rattle.scan_values.specs.Fits.{fits_all}
use Rattle.scan_values.specs.Values.{val_of}
use Rattle.scan_values.specs.declared.value.Value.{Value}
use Rattle.scan_expr.specs.Expr.{Expr}
use Rattle.scan_expr.specs.Eval.{eval}
use Rattle.scan_expr.specs.Overflow.{overflows}
use Rattle.scan_expr.proofs.Evals.{mark, marks, marks-map, map-rows, row_overflows, rows_overflow}
use Rattle.scan_expr.proofs.Sound.{all_fit}
use Rattle.scan_expr.proofs.bound.BoundExpression.apply.Goals as goal

all_rows : (s : DataType) (e : Expr) (rows : List Value) (done : List Marked) (items : List Val) (n : ℕ) → done ≡ map (λ v. eval s e (mark v) 0) (take n rows) → take n rows ≡ rows → map val_of rows ≡ items
    → done ≡ map (λ v. eval s e (marked v) 0) items
all_rows s e rows done items n h t i =
    h ∙ ap (map (λ (v : Value). eval s e (mark v) 0)) t ∙ map-rows s e rows ∙ ap (map (λ (v : Val). eval s e (marked v) 0)) i

pub of_fitting-requires : goal.of_fitting-requires
of_fitting-requires c =
    let s = c.args.self.now.scope in
    let e = c.args.self.now.expr in
    let done = all_rows s e c.as_slice-rows.result.now (map mark c.loop-row.items.items) c.args.scope.now.items c.loop-row.row-index c.loop-row.invariant.values (grind (arith, common_steps)) c.as_slice-rows.ensures.items in
    let fit = subst (λ d. fits_all (marked_all (vals_of c.args.scope.now.items)) d ≡ true) c.requires.scope c.as_slice-rows.ensures.fit in
    rw (marks c.loop-row.items.items) (rw done (rw (c.in_ok-dtype.ensures, c.dtype.ensures.dtype) (all_fit s e c.args.scope.now.items fit c.dtype.ensures.faultless)))

pub returns-clause-items : goal.returns-clause-items
returns-clause-items c =
    let s = c.args.self.now.scope in
    let e = c.args.self.now.expr in
    ap (λ a. map marked a.items) c.of_fitting.ensures ∙ marks-map c.loop-row.items.items
    ∙ all_rows s e c.as_slice-rows.result.now (map mark c.loop-row.items.items) c.args.scope.now.items c.loop-row.row-index c.loop-row.invariant.values (grind (arith, common_steps)) c.as_slice-rows.ensures.items

pub returns-clause-within : goal.returns-clause-within
returns-clause-within c =
    let s = c.args.self.now.scope in
    let e = c.args.self.now.expr in
    let rows = c.as_slice-rows.result.now in
    rw (← c.as_slice-rows.ensures.items, ← rows_overflow s e rows) (c.loop-row.invariant.within ∙ ap (row_overflows s e) (drop_of_length-le rows c.loop-row-test.false))

pub returns-in_err-value_at-clause-overflow : goal.returns-in_err-value_at-clause-overflow
returns-in_err-value_at-clause-overflow c = λ h.
    let s = c.args.self.now.scope in
    let e = c.args.self.now.expr in
    let rows = c.as_slice-rows.result.now in
    let i = c.loop-row.row-index in
    let below : i < length rows = c.loop-row-test.true in
    let here : overflows s e (mark c.row-item.result) 0 ≡ true = search (rules, h) in
    rw (← c.as_slice-rows.ensures.items, ← rows_overflow s e rows) (c.loop-row.invariant.within ∙ rw (drop-cons rows i c.row-item.result, ← c.row-item.is, here) refl)
