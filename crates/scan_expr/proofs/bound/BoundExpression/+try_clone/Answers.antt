use Rattle.std.proofs.Common.{◌≡◌, ℕ, length, ap, sym, ◌∙◌, List, arith}
use Rattle.std.proofs.lemmas.Grind.{common_steps}
use Rattle.scan_values.specs.DataType.{DataType}
use Rattle.scan_expr.specs.Bound.{Bound, exprs_of}
use Rattle.scan_expr.specs.Ops.{IsBound}
use Rattle.scan_expr.specs.Children.{IsLike}
use Rattle.scan_expr.specs.Infer.{infer}
use Rattle.scan_expr.specs.Typing.{typing_fault}
use Rattle.scan_expr.specs.declared.bound.Op.{Op}
use Rattle.scan_expr.proofs.bound.BoundExpression.+try_clone.Goals as goal

like : (p q : Op) (bs cs : List Bound) (s t d e : DataType) (ps qs : List ℕ) → IsBound q bs s d ps → IsLike p q → cs ≡ bs → t ≡ s → e ≡ d → qs ≡ ps → IsBound p cs t e qs
like p q bs cs s t d e ps qs b l same scope dtype placed =
    let P : List Bound → DataType → DataType → Type 0 = λ xs x y. IsBound p xs x y qs in
    let here : IsBound p bs s d qs = record { arity = l.arity (length bs) b.arity; scopes = b.scopes; typed = ap (infer s) (l.same (exprs_of bs)) ∙ b.typed; faultless = ap (typing_fault s) (l.same (exprs_of bs)) ∙ b.faultless; placed = placed ∙ b.placed ∙ sym (l.places bs) } in
    rw (same, scope, dtype) here

pub invariant_of-result : goal.invariant_of-result
invariant_of-result t c =
    like c.in_ok-op.op c.self.inside.op c.self.inside.children.items c.loop-child.children.items c.self.inside.scope.value c.in_ok-clone.field-0.value c.self.inside.dtype.value c.in_ok-clone-2.field-0.value
    c.self.inside.places.items c.in_ok-places.places.items
    c.self.invariant c.in_ok-op.ensures (c.loop-child.invariant ∙ (grind (arith, common_steps, c.deref-child-items.ensures.value))) c.in_ok-clone.ensures.cases c.in_ok-clone-2.ensures.cases
    (c.in_ok-places.ensures ∙ c.as_slice.ensures.value)
