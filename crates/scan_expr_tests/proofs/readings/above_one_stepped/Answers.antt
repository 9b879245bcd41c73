use Rattle.std.proofs.Common.{◌≡◌, ℕ, List, ap, sym, subst, ◌∙◌}
use Rattle.scan_values.specs.DataType.{DataType}
use Rattle.scan_expr.specs.declared.op.Unary.TheVariants.{GetItem}
use Rattle.scan_expr.specs.Bound.{Bound, bound_of}
use Rattle.scan_expr.specs.Expr.{Expr, root, unary}
use Rattle.scan_expr.specs.Infer.{infer}
use Rattle.scan_partition.specs.Tighter.{IsTighter}
use Rattle.scan_partition.proofs.Tighter.{tighter-refl}
use Rattle.scan_expr_tests.proofs.readings.above_one_stepped.Goals as goal

-- a field bound over the scope has the dtype that the item has there
same_dtype : (d s : DataType) (part above : Bound) (x y : Expr) (n m : List ℕ) → d ≡ infer part.scope part.expr → part ≡ bound_of s x → x ≡ unary (GetItem m) root → above ≡ bound_of s y → n ≡ m → d ≡ infer above.scope (unary (GetItem n) root)
same_dtype d s part above x y n m h p q a k = h ∙ ap (λ (b : Bound). infer b.scope b.expr) p ∙ ap (infer s) q ∙ sym (ap (λ (b : Bound). infer b.scope (unary (GetItem n) root)) a ∙ ap (λ (l : List ℕ). infer s (unary (GetItem l) root)) k)

own : (d e : DataType) → d ≡ e → IsTighter d e
own d e h = subst (λ (t : DataType). IsTighter d t) h (tighter-refl d)

pub step_into-requires-clause-dtype : goal.step_into-requires-clause-dtype
step_into-requires-clause-dtype c =
    own c.dtype.result.now (infer c.in_ok-above.above.scope (unary (GetItem c.in_ok-from_str.field-0) root))
    (same_dtype c.dtype.result.now c.args.scope.now c.in_ok-part.part c.in_ok-above.above c.in_ok-col.field-0 c.in_ok-above_one.field-0 c.in_ok-from_str.field-0 c.args.text.now c.dtype.ensures.dtype c.in_ok-part.ensures.is c.in_ok-col.ensures c.in_ok-above.ensures.is c.in_ok-from_str.ensures)
