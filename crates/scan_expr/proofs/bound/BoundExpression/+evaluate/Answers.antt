use borrow.Author.Rules.{rules}
use Rattle.std.proofs.Common.{◌≡◌, ◌<◌, true, false, length, refl, sym, ap, ◌∙◌, map, arith}
use Rattle.std.proofs.Math.Seq.{drop-cons}
use Rattle.std.proofs.Math.ListN.{drop_of_length-le}
use Rattle.std.proofs.lemmas.Grind.{common_steps}
use Rattle.scan_expr.specs.Bound.{Bound}
use Rattle.scan_expr.specs.Eval.{eval}
use Rattle.scan_expr.specs.Overflow.{overflows}
use Rattle.scan_expr.proofs.Evals.{mark, eval_pack, part_overflows, pack_overflows}
use Rattle.scan_expr.proofs.bound.BoundExpression.+evaluate.Goals as goal

pub returns-after-loop-child-clause-value : goal.returns-after-loop-child-clause-value
returns-after-loop-child-clause-value t c =
    let all : map mark c.loop-child.items.items ≡ map (λ (b : Bound). eval b.scope b.expr (mark c.args.row.now) c.args.index) c.self.inside.children.items =
    c.loop-child.invariant.values ∙ ap (map (λ (b : Bound). eval b.scope b.expr (mark c.args.row.now) c.args.index)) (grind (arith, common_steps, c.deref-child-items.ensures.value)) in
    rw (c.new.ensures) (rw (← c.self.view_is) (rw c.in-Pack.is (eval_pack c.self.inside.scope.value c.in-Pack.field-0 c.in-Pack.field-1 c.self.inside.children.items (mark c.args.row.now) c.args.index c.loop-child.items.items c.self.invariant.scopes all)))

pub returns-after-loop-child-clause-within : goal.returns-after-loop-child-clause-within
returns-after-loop-child-clause-within t c =
    let items = c.deref-child-items.result.now in
    let v = mark c.args.row.now in
    let none : part_overflows v c.args.index items ≡ false = c.loop-child.invariant.within ∙ ap (part_overflows v c.args.index) (drop_of_length-le items c.loop-child-test.false) in
    let all : part_overflows v c.args.index c.self.inside.children.items ≡ false = ap (part_overflows v c.args.index) (sym c.deref-child-items.ensures.value) ∙ none in
    rw (← c.self.view_is) (rw c.in-Pack.is (pack_overflows c.self.inside.scope.value c.in-Pack.field-0 c.in-Pack.field-1 c.self.inside.children.items v c.args.index c.self.invariant.scopes ∙ all))

pub returns-in_err-evaluate-in-Pack-clause-overflow : goal.returns-in_err-evaluate-in-Pack-clause-overflow
returns-in_err-evaluate-in-Pack-clause-overflow t c = λ h.
    let items = c.deref-child-items.result.now in
    let v = mark c.args.row.now in
    let i = c.loop-child.child-index in
    let k = c.args.index in
    let here : overflows c.child-item.result.scope c.child-item.result.expr v k ≡ true = search (rules, h) in
    let below : i < length items = c.loop-child-test.true in
    let some : part_overflows v k items ≡ true = c.loop-child.invariant.within ∙ rw (drop-cons items i c.child-item.result, ← c.child-item.is, here) refl in
    let all : part_overflows v k c.self.inside.children.items ≡ true = ap (part_overflows v k) (sym c.deref-child-items.ensures.value) ∙ some in
    rw (← c.self.view_is) (rw c.in-Pack.is (pack_overflows c.self.inside.scope.value c.in-Pack.field-0 c.in-Pack.field-1 c.self.inside.children.items v k c.self.invariant.scopes ∙ all))
