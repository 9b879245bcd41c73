use borrow.Author.Rules.{rules}
use Rattle.std.proofs.Common.{◌≡◌, IfOk, sym, subst}
use Rattle.scan_values.specs.Marked.{Marked}
use Rattle.scan_values.specs.Val.{vals_of, marked, marked_all}
use Rattle.scan_values.specs.Values.{val_of}
use Rattle.scan_expr.specs.Places.{nth}
use Rattle.scan_expr.proofs.Evals.{mark}
use Rattle.scan_expr.proofs.Placing.{nth-at, nth-past}
use Rattle.scan_expr.proofs.evaluate.field_copy.Goals as goal

pub returns-in-Some : goal.returns-in-Some
returns-in-Some c =
    let e : nth (marked_all (vals_of c.args.values.now)) c.args.place ≡ mark c.in-Some.field.now = rw (← c.as_slice.ensures) (nth-at c.as_slice.result.now c.args.place c.in-Some.field.now c.in-Some.ensures.lookup.3.0 c.in-Some.ensures.lookup.1) in
    let P : Marked → Type 0 = λ m. IfOk c.try_clone.result (λ v. marked (val_of v) ≡ m) in
    let t : P (mark c.in-Some.field.now) = search rules in
    subst P (sym e) t

pub returns-in-None : goal.returns-in-None
returns-in-None c = rw (← c.as_slice.ensures) (sym (nth-past c.as_slice.result.now c.args.place c.in-None.ensures.lookup.3))
