-- Rows in another order have the same groups.
use Rattle.std.proofs.Common.{◌≡◌, ℕ, inl, inr, false, not, List, [], ◌∷◌, map, get_or, Contains, IsPermutation, refl, sym, ap, ◌∙◌, arith, pos, ◌+ℤ◌}
use Rattle.std.proofs.lemmas.List.Sorted.{IsPermutation-map, length_permutation, All-permutation, Contains-permutation}
use Rattle.std.proofs.lemmas.List.Elements.{All-weaker}
use Rattle.std.proofs.Math.IntN.{+ℤ_comm, +ℤ_assoc}
use Rattle.std.specs.Ordering.{is_gt, is_lt}
use Rattle.scan_values.specs.Val.{Val, null_val, int_val}
use Rattle.scan_groups.specs.Order.{value_cmp, same_key, number_of}
use Rattle.scan_groups.specs.Rows.{Row, group_of, is_null, values_at, sum_of, IsLeast, IsGreatest, OrNull, IsMeasure, AreMeasures, IsKeyOf, AreGroups}
use Rattle.scan_groups.specs.declared.group.Group.{Group}
use Rattle.scan_groups.specs.declared.measure.Measured.{Measured}
use Rattle.scan_groups.specs.declared.measure.Measured.TheVariants.{Count, Values, Sum, Least, Greatest}
use Rattle.scan_groups.proofs.Permuting.{along_permutation, passed_alike}

-- sums
sums_turn : (x y : Val) (vs : List Val) → sum_of (y ∷ x ∷ vs) ≡ sum_of (x ∷ y ∷ vs)
sums_turn x y vs = sym (+ℤ_assoc (number_of y) (number_of x) (sum_of vs)) ∙ ap (λ z. z +ℤ sum_of vs) (+ℤ_comm (number_of y) (number_of x)) ∙ +ℤ_assoc (number_of x) (number_of y) (sum_of vs)

pub sums_alike : (vs ws : List Val) → IsPermutation vs ws → sum_of ws ≡ sum_of vs
sums_alike = along_permutation (λ vs ws. sum_of ws ≡ sum_of vs) (λ vs. refl) (λ x vs ws h. ap (λ z. number_of x +ℤ z) h) sums_turn (λ vs ws us h k. k ∙ h)

-- the values at a place
pub values_alike : (place : ℕ) (xs ys : List Row) → IsPermutation xs ys → IsPermutation (values_at place xs) (values_at place ys)
values_alike place xs ys h =
    let read : Row → Val = λ row. get_or row.read place null_val in
    passed_alike (λ v. not (is_null v)) (map read xs) (map read ys) (IsPermutation-map read xs ys h)

least_alike : (vs ws : List Val) (v : Val) → IsPermutation vs ws → IsLeast vs v → IsLeast ws v
least_alike vs ws v h k = record { among = Contains-permutation vs ws v h k.among; below = All-permutation (λ w. is_gt (value_cmp v w) ≡ false) vs ws h k.below }

greatest_alike : (vs ws : List Val) (v : Val) → IsPermutation vs ws → IsGreatest vs v → IsGreatest ws v
greatest_alike vs ws v h k = record { among = Contains-permutation vs ws v h k.among; above = All-permutation (λ w. is_lt (value_cmp v w) ≡ false) vs ws h k.above }

or_null_alike : (P : List Val → Val → Type 0) → ((vs ws : List Val) (v : Val) → IsPermutation vs ws → P vs v → P ws v)
    → (vs ws : List Val) (v : Val) → IsPermutation vs ws → OrNull P vs v → OrNull P ws v
or_null_alike P along [] [] v h k = k
or_null_alike P along [] (w ∷ ws) v h k = absurd (omega (arith, length_permutation [] (w ∷ ws) h))
or_null_alike P along (u ∷ us) [] v h k = absurd (omega (arith, length_permutation (u ∷ us) [] h))
or_null_alike P along (u ∷ us) (w ∷ ws) v h k = along (u ∷ us) (w ∷ ws) v h k

-- a measure
pub measure_alike : (m : Measured) (xs ys : List Row) (v : Val) → IsPermutation xs ys → IsMeasure xs m v → IsMeasure ys m v
measure_alike Count xs ys v h k = k ∙ ap (λ n. int_val (pos n)) (sym (length_permutation xs ys h))
measure_alike (Values place) xs ys v h k = k ∙ ap (λ n. int_val (pos n)) (sym (length_permutation (values_at place xs) (values_at place ys) (values_alike place xs ys h)))
measure_alike (Sum place) xs ys v h k =
    or_null_alike (λ vs u. u ≡ int_val (sum_of vs)) (λ vs ws u e f. f ∙ ap int_val (sym (sums_alike vs ws e))) (values_at place xs) (values_at place ys) v (values_alike place xs ys h) k
measure_alike (Least place) xs ys v h k = or_null_alike IsLeast least_alike (values_at place xs) (values_at place ys) v (values_alike place xs ys h) k
measure_alike (Greatest place) xs ys v h k = or_null_alike IsGreatest greatest_alike (values_at place xs) (values_at place ys) v (values_alike place xs ys h) k

pub measures_alike : (ms : List Measured) (xs ys : List Row) (vs : List Val) → IsPermutation xs ys → AreMeasures ms xs vs → AreMeasures ms ys vs
measures_alike [] xs ys [] h k = tt
measures_alike [] xs ys (v ∷ vs) h k = k
measures_alike (m ∷ ms) xs ys [] h k = k
measures_alike (m ∷ ms) xs ys (v ∷ vs) h k = (measure_alike m xs ys v h k.0, measures_alike ms xs ys vs h k.1)

-- the key of a group
key_alike : (keys : ℕ) (xs ys : List Row) (k : List Val) → IsPermutation xs ys → IsKeyOf keys xs k → IsKeyOf keys ys k
key_alike keys xs ys k h (inl e) = inl e
key_alike keys xs ys k h (inr c) =
    let keyed : Row → List Val = λ row. row.key in
    inr (Contains-permutation (map keyed xs) (map keyed ys) k (IsPermutation-map keyed xs ys h) c)

-- groups
pub regrouped : (keys : ℕ) (ms : List Measured) (rows others : List Row) (groups : List Group) → IsPermutation rows others → AreGroups keys ms rows groups → AreGroups keys ms others groups
regrouped keys ms rows others groups h k = record {
  rising = k.rising;
  each = All-weaker (λ (g : Group). IsKeyOf keys rows g.key) (λ (g : Group). IsKeyOf keys others g.key) (λ g. key_alike keys rows others g.key h) groups k.each;
  all = All-permutation (λ (row : Row). Contains (map (λ (g : Group). g.key) groups) row.key) rows others h k.all;
  one = k.one;
  measures = All-weaker (λ (g : Group). AreMeasures ms (group_of rows g.key) g.measures) (λ (g : Group). AreMeasures ms (group_of others g.key) g.measures)
      (λ g. measures_alike ms (group_of rows g.key) (group_of others g.key) g.measures (passed_alike (λ (row : Row). same_key row.key g.key) rows others h)) groups k.measures;
}
