-- Sums with one more value.
use Rattle.std.proofs.Common.{◌≡◌, ℕ, ◌+◌, true, false, List, [], ◌∷◌, ◌++◌, refl, sym, ap, ◌∙◌, arith, ℤ, pos, negsuc, ◌+ℤ◌, unsigned_abs, int_lt}
use Rattle.std.proofs.lemmas.Int.{ints}
use Rattle.scan_values.specs.Val.{Val, int_val}
use Rattle.scan_groups.specs.Order.{number_of}
use Rattle.scan_groups.specs.Rows.{sum_of}
use Rattle.scan_groups.specs.Totals.{is_some_value, IsSum}
use Rattle.scan_groups.specs.declared.sum.Sum.{Sum}

pub sum_push : (vs : List Val) (w : Val) → sum_of (vs ++ w ∷ []) ≡ sum_of vs +ℤ number_of w
sum_push [] w = omega (arith, ints)
sum_push (v ∷ vs) w = let e = sum_push vs w in omega (arith, ints, e)

pub some_push : (vs : List Val) (w : Val) → is_some_value (vs ++ w ∷ []) ≡ true
some_push [] w = refl
some_push (v ∷ vs) w = refl

above : (a b : ℕ) (r s n : ℤ) → int_lt n (pos 0) ≡ false → r +ℤ pos a ≡ s +ℤ pos b → r +ℤ pos (a + unsigned_abs n) ≡ (s +ℤ n) +ℤ pos b
above a b r s (pos m) t h = omega (arith, ints, h)
above a b r s (negsuc m) t h = absurd (grind (arith, ints, t))

below : (a b : ℕ) (r s n : ℤ) → int_lt n (pos 0) ≡ true → r +ℤ pos a ≡ s +ℤ pos b → r +ℤ pos a ≡ (s +ℤ n) +ℤ pos (b + unsigned_abs n)
below a b r s (pos m) t h = absurd (grind (arith, ints, t))
below a b r s (negsuc m) t h = omega (arith, ints, h)

-- with one more that is not negative
pub sum_above : (s : Sum) (vs : List Val) (n : ℤ) (m : ℕ) → int_lt n (pos 0) ≡ false → m ≡ s.above + unsigned_abs n → IsSum s vs → IsSum (record { any = true; near = s.near; above = m; below = s.below }) (vs ++ int_val n ∷ [])
sum_above s vs n m t e h = record { any = sym (some_push vs (int_val n)); parts = ap (λ k. s.near +ℤ pos k) e ∙ above s.above s.below s.near (sum_of vs) n t h.parts ∙ ap (λ z. z +ℤ pos s.below) (sym (sum_push vs (int_val n))) }

-- with one more that is negative
pub sum_below : (s : Sum) (vs : List Val) (n : ℤ) (m : ℕ) → int_lt n (pos 0) ≡ true → m ≡ s.below + unsigned_abs n → IsSum s vs → IsSum (record { any = true; near = s.near; above = s.above; below = m }) (vs ++ int_val n ∷ [])
sum_below s vs n m t e h = record {
  any = sym (some_push vs (int_val n));
  parts = below s.above s.below s.near (sum_of vs) n t h.parts ∙ ap (λ k. (sum_of vs +ℤ n) +ℤ pos k) (sym e) ∙ ap (λ z. z +ℤ pos m) (sym (sum_push vs (int_val n)));
}

near : (r s n z : ℤ) (a b : ℕ) → z ≡ r +ℤ n → r +ℤ pos a ≡ s +ℤ pos b → z +ℤ pos a ≡ (s +ℤ n) +ℤ pos b
near r s n z a b e h = omega (arith, ints, e, h)

-- with one more that what is near has room for
pub sum_near : (s : Sum) (vs : List Val) (n z : ℤ) → z ≡ s.near +ℤ n → IsSum s vs → IsSum (record { any = true; near = z; above = s.above; below = s.below }) (vs ++ int_val n ∷ [])
sum_near s vs n z e h = record {
  any = sym (some_push vs (int_val n));
  parts = near s.near (sum_of vs) n z s.above s.below e h.parts ∙ ap (λ y. y +ℤ pos s.below) (sym (sum_push vs (int_val n)));
}

-- a sum reads the number of a value
pub sum_as : (s : Sum) (vs : List Val) (v : Val) → IsSum s (vs ++ int_val (number_of v) ∷ []) → IsSum s (vs ++ v ∷ [])
sum_as s vs v h = record {
  any = h.any ∙ some_push vs (int_val (number_of v)) ∙ sym (some_push vs v);
  parts = h.parts ∙ ap (λ z. z +ℤ pos s.below) (sum_push vs (int_val (number_of v)) ∙ sym (sum_push vs v));
}
