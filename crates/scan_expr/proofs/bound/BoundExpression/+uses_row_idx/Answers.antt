use Rattle.std.proofs.Common.{◌≡◌, ◌<◌, refl, true, false, length, sym, ap, ◌∙◌}
use Rattle.std.proofs.Math.Seq.{drop-cons}
use Rattle.std.proofs.Math.ListN.{drop_of_length-le}
use Rattle.scan_expr.specs.Expr.{uses_row_index}
use Rattle.scan_expr.specs.Children.{is_row_op}
use Rattle.scan_expr.proofs.Sames.{rows_in, rows-apply}
use Rattle.scan_expr.proofs.bound.BoundExpression.+uses_row_idx.Goals as goal

pub returns-then-uses_row_idx : goal.returns-then-uses_row_idx
returns-then-uses_row_idx t c =
    let items = c.deref-child-items.result.now in
    let i = c.loop-child.child-index in
    let own : is_row_op c.self.inside.op ≡ false = sym c.if-is_row_idx.ensures in
    let here : uses_row_index c.child-item.result.expr ≡ true = sym c.if-uses_row_idx.ensures in
    let h : i < length items = c.loop-child-test.true in
    let some : rows_in items ≡ true = c.loop-child.invariant ∙ rw (drop-cons items i c.child-item.result, ← c.child-item.is, here) refl in
    let all : rows_in c.self.inside.children.items ≡ true = ap rows_in (sym c.deref-child-items.ensures.value) ∙ some in
    sym (rw (← c.self.view_is) (rows-apply c.self.inside.op c.self.inside.children.items c.self.invariant.arity ∙ rw (own, all) refl))

pub returns : goal.returns
returns t c =
    let items = c.deref-child-items.result.now in
    let i = c.loop-child.child-index in
    let own : is_row_op c.self.inside.op ≡ false = sym c.if-is_row_idx.ensures in
    let none : rows_in items ≡ false = c.loop-child.invariant ∙ ap rows_in (drop_of_length-le items c.loop-child-test.false) in
    let all : rows_in c.self.inside.children.items ≡ false = ap rows_in (sym c.deref-child-items.ensures.value) ∙ none in
    sym (rw (← c.self.view_is) (rows-apply c.self.inside.op c.self.inside.children.items c.self.invariant.arity ∙ rw (own, all) refl))
