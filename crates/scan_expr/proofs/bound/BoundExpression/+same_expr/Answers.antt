use Rattle.std.proofs.Common.{◌≡◌, ◌&&◌, refl, Bool, true, false, [], drop, get_or, sym, ap, ◌∙◌, arith}
use Rattle.std.proofs.Math.ListN.{drop_of_length-le}
use Rattle.scan_expr.specs.Same.{same_expr}
use Rattle.scan_expr.specs.Heads.{op_head, same_head}
use Rattle.scan_expr.proofs.Sames.{same_bounds, same-apply, bounds_turn}
use Rattle.scan_expr.proofs.bound.BoundExpression.+same_expr.Goals as goal

and_false : (a : Bool) → (a && false) ≡ false
and_false true = refl
and_false false = refl

pub returns-then-not-same : goal.returns-then-not-same
returns-then-not-same t c =
    let heads : same_head (op_head c.self.inside.op) (op_head c.other.inside.op) ≡ false = sym c.if-not-same.ensures in
    sym (rw (← c.self.view_is, ← c.other.view_is)
    (same-apply c.self.inside.op c.other.inside.op c.self.inside.children.items c.other.inside.children.items c.self.invariant.arity c.other.invariant.arity ∙ rw heads refl))

pub returns-then-not-same_expr : goal.returns-then-not-same_expr
returns-then-not-same_expr t c =
    let bs = c.deref-child-items.result.now in
    let cs = c.as_slice-others.result.now in
    let i = c.loop-child.child-index in
    let here : same_expr c.child-item.result.expr c.index-others-i.result.expr ≡ false = sym c.if-not-same_expr.ensures in
    let other : c.index-others-i.result ≡ get_or cs i c.index-others-i.result = c.index-others-i.is ∙ ap (λ k. get_or cs k c.index-others-i.result) c.loop-child.invariant.place in
    let differ : same_bounds bs cs ≡ false =
    c.loop-child.invariant.same ∙ rw (bounds_turn bs cs i c.child-item.result c.index-others-i.result (omega (arith, c.loop-child-test.true)) (omega (arith, c.loop-child-test.true, c.loop-child.invariant.even)) c.child-item.is other, here) refl in
    let all : same_bounds c.self.inside.children.items c.other.inside.children.items ≡ false = rw (← c.deref-child-items.ensures.value, ← c.as_slice-others.ensures.value) differ in
    sym (rw (← c.self.view_is, ← c.other.view_is)
    (same-apply c.self.inside.op c.other.inside.op c.self.inside.children.items c.other.inside.children.items c.self.invariant.arity c.other.invariant.arity
    ∙ rw all (and_false (same_head (op_head c.self.inside.op) (op_head c.other.inside.op)))))

pub returns : goal.returns
returns t c =
    let bs = c.deref-child-items.result.now in
    let cs = c.as_slice-others.result.now in
    let i = c.loop-child.child-index in
    let heads : same_head (op_head c.self.inside.op) (op_head c.other.inside.op) ≡ true = sym c.if-not-same.ensures in
    let none : drop i bs ≡ [] = drop_of_length-le bs c.loop-child-test.false in
    let none-2 : drop i cs ≡ [] = drop_of_length-le cs (omega (arith, c.loop-child-test.false, c.loop-child.invariant.even)) in
    let same : same_bounds bs cs ≡ true = c.loop-child.invariant.same ∙ rw (none, none-2) refl in
    let all : same_bounds c.self.inside.children.items c.other.inside.children.items ≡ true = rw (← c.deref-child-items.ensures.value, ← c.as_slice-others.ensures.value) same in
    sym (rw (← c.self.view_is, ← c.other.view_is)
    (same-apply c.self.inside.op c.other.inside.op c.self.inside.children.items c.other.inside.children.items c.self.invariant.arity c.other.invariant.arity ∙ rw (heads, all) refl))
