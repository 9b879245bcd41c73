-- Two arrays, one for each of two parts.
use Rattle.std.proofs.Common.{◌≡◌, ℕ, List, [], ◌∷◌, Some, slice_get, length, ap, ◌∙◌, arith}
use Rattle.scan_values.specs.Arrays.{ArrayData}
use Rattle.scan_expr.specs.Bound.{Bound}
use Rattle.scan_expr.specs.Infer.{infer}
use Rattle.scan_partition.specs.Joining.{AreOfParts}

of_same : (p x : Bound) (a : ArrayData) → Some p ≡ Some x → a.dtype ≡ infer p.scope p.expr → a.dtype ≡ infer x.scope x.expr
of_same p x a h t = let e : p ≡ x = cc in t ∙ ap (λ (b : Bound). infer b.scope b.expr) e

pub of_two : (n : ℕ) (ps : List Bound) (p q : Bound) (a b : ArrayData) → length ps ≡ 2 → Some p ≡ slice_get ps 0 → Some q ≡ slice_get ps 1
    → (a.dtype ≡ infer p.scope p.expr) × (length a.items ≡ n) → (b.dtype ≡ infer q.scope q.expr) × (length b.items ≡ n) → AreOfParts n ps (a ∷ b ∷ [])
of_two n [] p q a b l h g s t = absurd (omega arith)
of_two n (x ∷ []) p q a b l h g s t = absurd (omega arith)
of_two n (x ∷ y ∷ z ∷ ps) p q a b l h g s t = absurd (omega arith)
of_two n (x ∷ y ∷ []) p q a b l h g s t = ((of_same p x a h s.0, s.1), ((of_same q y b g t.0, t.1), tt))
