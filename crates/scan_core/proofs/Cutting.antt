-- The rows of a range that pass a test, with its start and end.
use Rattle.std.proofs.Common.{◌≡◌, ℕ, zero, suc, ◌+◌, ◌-◌, ◌*◌, ◌%◌, ◌<◌, ◌≤◌, ◌==◌, Bool, true, false, cond, ◌||◌, ◌&&◌, nat_lt, List, [], ◌∷◌, ◌++◌, filter, refl, ap, sym, subst, ◌∙◌, arith, ◌⊎◌, inl, inr, append_assoc}
use Rattle.std.specs.Prelude.{min}
use Rattle.std.proofs.Math.Nat.{min-eq_left, min-eq_right, mod-add-mod, add-mod_right, zero-mod}
use Rattle.std.proofs.lemmas.Nat.{mod-mul-add}
use Rattle.std.specs.List.{range_with_len}
use Rattle.std.specs.declared.ops.Range.{Range}
use Rattle.std.proofs.lemmas.Bool.Decides.{nat_tests}
use Rattle.scan_values.specs.StrictSorted.{is_rising}
use Rattle.scan_values.specs.Selections.{numbers}
use Rattle.scan_core.specs.SplitRanges.{last_from}
use Rattle.scan_core.specs.Boundaries.{is_nth, cut_rows, has_ends}

both : (a b : Bool) → a ≡ true → b ≡ true → (a && b) ≡ true
both true b p q = q
both false b p q = absurd cc

below : (a b : ℕ) → a < b → nat_lt a b ≡ true
below a b h = grind (arith, nat_tests)

same : (a b : ℕ) → a ≡ b → (a == b) ≡ true
same a b h = grind (arith, nat_tests)

differs : (a b : ℕ) → a < b → (a == b) ≡ false
differs a b h = grind (arith, nat_tests)

exceeds : (a b : ℕ) → b < a → (a == b) ≡ false
exceeds a b h = grind (arith, nat_tests)

-- ---- numbers that pass a test rise
-- each number is at least this one
abbrev pub From : ℕ → List ℕ → Type 0
From a [] = Unit {0}
From a (x ∷ xs) = (a ≤ x) × From a xs

from_lower : (a b : ℕ) (xs : List ℕ) → a ≤ b → From b xs → From a xs
from_lower a b [] l h = tt
from_lower a b (x ∷ xs) l h = (omega (arith, h.0, l), from_lower a b xs l h.1)

module _ (p : ℕ → Bool) where
  passed_from : (a k : ℕ) → From a (filter p (range_with_len a k))
  passed_from a zero = tt
  passed_from a (suc k) = by (p a) (from_lower a (a + 1) (filter p (range_with_len (a + 1) k)) (omega arith) (passed_from (a + 1) k))
    where
      by : (b : Bool) → From a (filter p (range_with_len (a + 1) k)) → From a (cond b (a ∷ filter p (range_with_len (a + 1) k)) (filter p (range_with_len (a + 1) k)))
      by true h = (omega arith, h)
      by false h = h

  rises_on : (a : ℕ) (xs : List ℕ) → From (a + 1) xs → is_rising xs ≡ true → is_rising (a ∷ xs) ≡ true
  rises_on a [] h r = refl
  rises_on a (x ∷ xs) h r = both (nat_lt a x) (is_rising (x ∷ xs)) (below a x (omega (arith, h.0))) r

  passed_rise : (a k : ℕ) → is_rising (filter p (range_with_len a k)) ≡ true
  passed_rise a zero = refl
  passed_rise a (suc k) = by (p a) (passed_rise (a + 1) k)
    where
      by : (b : Bool) → is_rising (filter p (range_with_len (a + 1) k)) ≡ true → is_rising (cond b (a ∷ filter p (range_with_len (a + 1) k)) (filter p (range_with_len (a + 1) k))) ≡ true
      by true h = rises_on a (filter p (range_with_len (a + 1) k)) (passed_from (a + 1) k) h
      by false h = h

  -- of numbers up to one that passes the last is that one
  passed_last : (a k x : ℕ) → p (a + k) ≡ true → last_from x (filter p (range_with_len a (suc k))) ≡ a + k
  passed_last a zero x h =
      let here : p a ≡ true = ap p (let z : a ≡ a + 0 = omega arith in z) ∙ h in
      rw here (omega arith)
  passed_last a (suc k) x h =
      let moved : a + 1 + k ≡ a + suc k = omega arith in
      by (p a) (λ y. passed_last (a + 1) k y (ap p moved ∙ h) ∙ moved)
    where
      by : (b : Bool) → ((y : ℕ) → last_from y (filter p (range_with_len (a + 1) (suc k))) ≡ a + suc k)
          → last_from x (cond b (a ∷ filter p (range_with_len (a + 1) (suc k))) (filter p (range_with_len (a + 1) (suc k)))) ≡ a + suc k
      by true h = h a
      by false h = h x

  -- numbers that don't pass are left out
  passed_over : (a d k : ℕ) → ((i : ℕ) → a ≤ i → i < a + d → p i ≡ false) → filter p (range_with_len a (d + k)) ≡ filter p (range_with_len (a + d) k)
  passed_over a zero k none =
      let moved : 0 + k ≡ k = omega arith in
      let here : a ≡ a + 0 = omega arith in
      ap (λ n. filter p (range_with_len a n)) moved ∙ ap (λ n. filter p (range_with_len n k)) here
  passed_over a (suc d) k none =
      let longer : suc d + k ≡ suc (d + k) = omega arith in
      let moved : a + 1 + d ≡ a + suc d = omega arith in
      let here : p a ≡ false = none a (omega arith) (omega arith) in
      let rest = passed_over (a + 1) d k (λ i lo hi. none i (omega (arith, lo)) (omega (arith, hi))) in
      ap (λ n. filter p (range_with_len a n)) longer ∙ ap (λ b. cond b (a ∷ filter p (range_with_len (a + 1) (d + k))) (filter p (range_with_len (a + 1) (d + k)))) here ∙ rest ∙ ap (λ n. filter p (range_with_len n k)) moved

-- ---- the rows of a range
module _ (test : ℕ → Bool) (r : Range ℕ) where
  abbrev pub is_cut : ℕ → Bool
  is_cut row = row == r.start || (row == r.end || test row)

  cut_at_start : is_cut r.start ≡ true
  cut_at_start = rw (same r.start r.start refl) refl

  cut_at_end : is_cut r.end ≡ true
  cut_at_end = by (r.end == r.start)
    where
      by : (b : Bool) → (b || (r.end == r.end || test r.end)) ≡ true
      by true = refl
      by false = rw (same r.end r.end refl) refl

  pub cut_rows_rise : is_rising (cut_rows test r) ≡ true
  cut_rows_rise = passed_rise is_cut r.start (r.end + 1 - r.start)

  -- the start, and then the others
  pub from_start : r.start ≤ r.end → cut_rows test r ≡ r.start ∷ filter is_cut (numbers (r.start + 1) (r.end + 1))
  from_start l =
      let more : r.end + 1 - r.start ≡ suc (r.end + 1 - (r.start + 1)) = omega (arith, l) in
      ap (λ n. filter is_cut (range_with_len r.start n)) more ∙ ap (λ b. cond b (r.start ∷ filter is_cut (numbers (r.start + 1) (r.end + 1))) (filter is_cut (numbers (r.start + 1) (r.end + 1)))) cut_at_start

  last_of : r.start ≤ r.end → (x : ℕ) → last_from x (cut_rows test r) ≡ r.end
  last_of l x =
      let more : r.end + 1 - r.start ≡ suc (r.end - r.start) = omega (arith, l) in
      let there : r.start + (r.end - r.start) ≡ r.end = omega (arith, l) in
      ap (λ n. last_from x (filter is_cut (range_with_len r.start n))) more ∙ passed_last is_cut r.start (r.end - r.start) x (ap is_cut there ∙ cut_at_end) ∙ there

  cut_rows_ends : r.start ≤ r.end → has_ends r.start r.end (cut_rows test r) ≡ true
  cut_rows_ends l =
      let others : List ℕ = filter is_cut (numbers (r.start + 1) (r.end + 1)) in
      let first : has_ends r.start r.end (r.start ∷ others) ≡ true = both (r.start == r.start) (last_from r.start others == r.end) (same r.start r.start refl) (same (last_from r.start others) r.end (sym (ap (last_from 0) (from_start l)) ∙ last_of l 0)) in
      subst (λ z. has_ends r.start r.end z ≡ true) (sym (from_start l)) first

  pub these_rise : (rows : List ℕ) → rows ≡ cut_rows test r → is_rising rows ≡ true
  these_rise rows e = ap is_rising e ∙ cut_rows_rise

  pub these_end : (rows : List ℕ) → r.start ≤ r.end → rows ≡ cut_rows test r → has_ends r.start r.end rows ≡ true
  these_end rows l e = ap (has_ends r.start r.end) e ∙ cut_rows_ends l

  -- to a row that is the next one
  next_cut : (row d : ℕ) → row + d < r.end + 1 → 0 < d → ((i : ℕ) → row < i → i < row + d → is_cut i ≡ false) → is_cut (row + d) ≡ true
      → filter is_cut (numbers (row + 1) (r.end + 1)) ≡ (row + d) ∷ filter is_cut (numbers (row + d + 1) (r.end + 1))
  next_cut row d l some none here =
      let long : r.end + 1 - (row + 1) ≡ (d - 1) + suc (r.end + 1 - (row + d + 1)) = omega (arith, l, some) in
      let over : filter is_cut (range_with_len (row + 1) ((d - 1) + suc (r.end + 1 - (row + d + 1)))) ≡ filter is_cut (range_with_len (row + 1 + (d - 1)) (suc (r.end + 1 - (row + d + 1)))) =
      passed_over is_cut (row + 1) (d - 1) (suc (r.end + 1 - (row + d + 1))) (λ i lo hi. none i (omega (arith, lo)) (omega (arith, hi, some))) in
      let moved : row + 1 + (d - 1) ≡ row + d = omega (arith, some) in
      ap (λ n. filter is_cut (range_with_len (row + 1) n)) long ∙ over ∙ ap (λ n. filter is_cut (range_with_len n (suc (r.end + 1 - (row + d + 1))))) moved
      ∙ ap (λ b. cond b ((row + d) ∷ filter is_cut (numbers (row + d + 1) (r.end + 1))) (filter is_cut (numbers (row + d + 1) (r.end + 1)))) here

-- ---- every so many rows
small_mod : (k n : ℕ) → k < n → k % n ≡ k
small_mod k n l = ap (λ z. z % n) (let z : k ≡ 0 * n + k = omega arith in z) ∙ mod-mul-add 0 n k l

not_zero : (k : ℕ) → 0 < k → (k == 0) ≡ false
not_zero k h = grind (arith, nat_tests)

zero_is : (k : ℕ) → k ≡ 0 → (k == 0) ≡ true
zero_is k h = grind (arith, nat_tests)

after_multiple : (x k n : ℕ) → x % n ≡ 0 → k < n → (x + k) % n ≡ k
after_multiple x k n h l = sym (mod-add-mod x n k) ∙ ap (λ z. (z + k) % n) h ∙ ap (λ z. z % n) (let z : 0 + k ≡ k = omega arith in z) ∙ small_mod k n l

ordered : (a b : ℕ) → (a ≤ b) ⊎ (b < a)
ordered zero b = inl (omega arith)
ordered (suc a) zero = inr (omega arith)
ordered (suc a) (suc b) = elim (ordered a b) [ inl h ↦ inl (omega (arith, h)) | inr h ↦ inr (omega (arith, h)) ]

min_cases : (a b : ℕ) → ((min a b ≡ a) × (a ≤ b)) ⊎ ((min a b ≡ b) × (b < a))
min_cases a b = elim (ordered a b) [ inl h ↦ inl (min-eq_left h, h) | inr h ↦ inr (min-eq_right (omega (arith, h)), h) ]

module _ (n : ℕ) (r : Range ℕ) where
  abbrev pub is_row : ℕ → Bool
  is_row = is_cut (is_nth n r.start) r

  between : (row i : ℕ) → r.start ≤ row → (row - r.start) % n ≡ 0 → row < i → i < row + n → i < r.end → is_row i ≡ false
  between row i lo nth after near inside =
      let apart : i - r.start ≡ (row - r.start) + (i - row) = omega (arith, lo, after) in
      let rest : (i - r.start) % n ≡ i - row = ap (λ z. z % n) apart ∙ after_multiple (row - r.start) (i - row) n nth (omega (arith, after, near)) in
      rw (exceeds i r.start (omega (arith, lo, after)), differs i r.end inside, rest) (not_zero (i - row) (omega (arith, after)))

  again : (row : ℕ) → r.start ≤ row → (row - r.start) % n ≡ 0 → (row + n - r.start) % n ≡ 0
  again row lo nth =
      let apart : row + n - r.start ≡ (row - r.start) + n = omega (arith, lo) in
      ap (λ z. z % n) apart ∙ add-mod_right (row - r.start) n ∙ nth

  row_cut : (row : ℕ) → (row - r.start) % n ≡ 0 → is_row row ≡ true
  row_cut row h = by (row == r.start) (row == r.end)
    where
      by : (a b : Bool) → (a || (b || ((row - r.start) % n == 0))) ≡ true
      by true b = refl
      by false true = refl
      by false false = zero_is ((row - r.start) % n) h

  -- what is left of a row that is the end, or stands a multiple after the start
  abbrev pub AtCut : ℕ → Type 0
  AtCut row = (row ≡ r.end) ⊎ ((row - r.start) % n ≡ 0)

  pub next_row : (row : ℕ) → 0 < n → r.start ≤ row → row < r.end → AtCut row
      → (filter is_row (numbers (row + 1) (r.end + 1)) ≡ (row + min n (r.end - row)) ∷ filter is_row (numbers (row + min n (r.end - row) + 1) (r.end + 1))) × AtCut (row + min n (r.end - row))
  next_row row some lo hi (inl at) = absurd (omega (arith, hi, at))
  next_row row some lo hi (inr nth) = by (min_cases n (r.end - row))
    where
      by : ((min n (r.end - row) ≡ n) × (n ≤ r.end - row)) ⊎ ((min n (r.end - row) ≡ r.end - row) × (r.end - row < n))
          → (filter is_row (numbers (row + 1) (r.end + 1)) ≡ (row + min n (r.end - row)) ∷ filter is_row (numbers (row + min n (r.end - row) + 1) (r.end + 1))) × AtCut (row + min n (r.end - row))
      by (inl c) = rw c.0 (
        next_cut (is_nth n r.start) r row n (omega (arith, hi, c.1)) some (λ i after near. between row i lo nth after near (omega (arith, near, hi, c.1))) (row_cut (row + n) (again row lo nth)),
        inr (again row lo nth),
      )
      by (inr c) =
          let end : row + (r.end - row) ≡ r.end = omega (arith, hi) in
          rw c.0 (
            next_cut (is_nth n r.start) r row (r.end - row) (omega (arith, hi)) (omega (arith, hi)) (λ i after near. between row i lo nth after (omega (arith, near, c.1)) (omega (arith, near, hi))) (ap is_row end ∙ cut_at_end (is_nth n r.start) r),
            inl end,
          )

  pub first_row : (r.start - r.start) % n ≡ 0
  first_row = ap (λ z. z % n) (let z : r.start - r.start ≡ 0 = omega arith in z) ∙ zero-mod n

  pub first_pushed : (old new : List ℕ) → r.start ≤ r.end → old ≡ [] → new ≡ old ++ r.start ∷ [] → new ++ filter is_row (numbers (r.start + 1) (r.end + 1)) ≡ cut_rows (is_nth n r.start) r
  first_pushed old new l none pushed = ap (λ z. z ++ filter is_row (numbers (r.start + 1) (r.end + 1))) (pushed ∙ ap (λ z. z ++ r.start ∷ []) none) ∙ sym (from_start (is_nth n r.start) r l)

  -- one more row is pushed
  pub pushed_row : (made new : List ℕ) (row m : ℕ) → made ++ filter is_row (numbers (row + 1) (r.end + 1)) ≡ cut_rows (is_nth n r.start) r
      → new ≡ made ++ (row + m) ∷ [] → filter is_row (numbers (row + 1) (r.end + 1)) ≡ (row + m) ∷ filter is_row (numbers (row + m + 1) (r.end + 1)) → new ++ filter is_row (numbers (row + m + 1) (r.end + 1)) ≡ cut_rows (is_nth n r.start) r
  pushed_row made new row m h pushed more = ap (λ z. z ++ filter is_row (numbers (row + m + 1) (r.end + 1))) pushed ∙ append_assoc made ((row + m) ∷ []) (filter is_row (numbers (row + m + 1) (r.end + 1))) ∙ ap (λ z. made ++ z) (sym more) ∙ h
