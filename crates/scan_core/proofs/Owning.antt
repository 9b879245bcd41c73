-- The rows of a range that are among others, with its start and end.
use Rattle.std.proofs.Common.{◌≡◌, ℕ, suc, ◌+◌, ◌-◌, ◌<◌, ◌≤◌, ◌==◌, Bool, true, false, ◌||◌, ◌&&◌, nat_lt, nat_le, List, [], ◌∷◌, ◌++◌, length, filter, refl, ap, sym, subst, ◌∙◌, arith, ◌⊎◌, inl, inr, add-one}
use Rattle.std.specs.List.{range_with_len, Contains}
use Rattle.std.specs.List.Sorted.{IsStrictlyIncreasing}
use Rattle.std.specs.Prelude.{slice_index, ◌^◌, if◌then◌else◌, Result, Ok, Err}
use Rattle.std.specs.declared.ops.Range.{Range}
use Rattle.std.proofs.lemmas.Bool.Decides.{nat_tests}
use Rattle.std.proofs.lemmas.List.FromFn.{length-range_with_len, get_or-range_with_len}
use Rattle.std.proofs.lemmas.List.Kept.{IsStrictlyIncreasing-filter}
use Rattle.std.proofs.lemmas.List.Elements.{Contains-append_left, Contains-append_right, Contains-push_cases}
use Rattle.scan_values.specs.StrictSorted.{is_rising}
use Rattle.scan_values.specs.Selections.{numbers, is_among}
use Rattle.scan_values.proofs.Rising.{Above, Above-rest, is_rising-rest}
use Rattle.scan_splits.specs.RowLists.{SameNumbers, shifted}
use Rattle.scan_splits.specs.RowSpans.{RowSpan, span_of}
use Rattle.scan_splits.specs.declared.split_range.SplitRangeFault.{SplitRangeFault}
use Rattle.scan_splits.specs.declared.split_range.SplitRangeFault.TheVariants.{Reversed, Overflow}
use Rattle.scan_core.specs.Boundaries.{cut_rows, is_within}
use Rattle.scan_splits.proofs.Numbers.{here, there, first_or_rest, none_in, filter_from, filter_to, map_from, map_to}
use Rattle.scan_core.proofs.Cutting.{is_cut, cut_rows_rise}

-- ---- rising numbers are given by what is among them
all_above : (x : ℕ) (xs : List ℕ) (n : ℕ) → Above x xs → Contains xs n → x < n
all_above x [] n a h = none_in n h
all_above x (y ∷ ys) n a h = elim (first_or_rest y ys n h) [ inl e ↦ subst (λ z. x < z) e a.0 | inr r ↦ all_above x ys n a.1 r ]

lower : (x y : ℕ) (xs ys : List ℕ) → is_rising (x ∷ xs) ≡ true → is_rising (y ∷ ys) ≡ true → Contains (y ∷ ys) x → y ≤ x
lower x y xs ys r s h = elim (first_or_rest y ys x h) [ inl e ↦ omega (arith, e) | inr q ↦ (let far : y < x = all_above y ys x (Above-rest y ys s) q in omega (arith, far)) ]

-- of what is in the rest
in_rest : (x : ℕ) (xs ys : List ℕ) (n : ℕ) → is_rising (x ∷ xs) ≡ true → (Contains (x ∷ xs) n → Contains (x ∷ ys) n) → Contains xs n → Contains ys n
in_rest x xs ys n r same h =
    let far : x < n = all_above x xs n (Above-rest x xs r) h in
    elim (first_or_rest x ys n (same (there x xs n h))) [ inl e ↦ absurd (omega (arith, e, far)) | inr q ↦ q ]

pub same_rising : (xs ys : List ℕ) → is_rising xs ≡ true → is_rising ys ≡ true → SameNumbers xs ys → xs ≡ ys
same_rising [] [] r s same = refl
same_rising [] (y ∷ ys) r s same = none_in y ((same y).1 (here y ys))
same_rising (x ∷ xs) [] r s same = none_in x ((same x).0 (here x xs))
same_rising (x ∷ xs) (y ∷ ys) r s same =
    let at_least : y ≤ x = lower x y xs ys r s ((same x).0 (here x xs)) in
    let at_most : x ≤ y = lower y x ys xs s r ((same y).1 (here y ys)) in
    let first : x ≡ y = omega (arith, at_least, at_most) in
    rw first (ap (λ zs. y ∷ zs) (same_rising xs ys (is_rising-rest x xs r) (is_rising-rest y ys s) (rests x y xs ys first r s same)))
  where
    rests : (x y : ℕ) (xs ys : List ℕ) → x ≡ y → is_rising (x ∷ xs) ≡ true → is_rising (y ∷ ys) ≡ true → SameNumbers (x ∷ xs) (y ∷ ys) → SameNumbers xs ys
    rests x y xs ys e r s same n = (
      in_rest x xs ys n r (subst (λ z. Contains (x ∷ xs) n → Contains (z ∷ ys) n) (sym e) (same n).0),
      in_rest y ys xs n s (subst (λ z. Contains (y ∷ ys) n → Contains (z ∷ xs) n) e (same n).1),
    )

-- ---- tests
lt_test : (a b : ℕ) → a < b → nat_lt a b ≡ true
lt_test a b h = grind (arith, nat_tests)

le_true : (a b : ℕ) → nat_le a b ≡ true → a ≤ b
le_true a b h = grind (arith, nat_tests)

le_test : (a b : ℕ) → a ≤ b → nat_le a b ≡ true
le_test a b h = grind (arith, nat_tests)

eq_true : (a b : ℕ) → (a == b) ≡ true → a ≡ b
eq_true a b h = grind (arith, nat_tests)

eq_test : (a b : ℕ) → a ≡ b → (a == b) ≡ true
eq_test a b h = grind (arith, nat_tests)

both : (a b : Bool) → a ≡ true → b ≡ true → (a && b) ≡ true
both true b p q = q
both false b p q = absurd cc

first_true : (a b : Bool) → (a && b) ≡ true → a ≡ true
first_true true b h = refl
first_true false b h = h

second_true : (a b : Bool) → (a && b) ≡ true → b ≡ true
second_true true b h = h
second_true false b h = absurd cc

either : (a b : Bool) → (a || b) ≡ true → (a ≡ true) ⊎ (b ≡ true)
either true b h = inl refl
either false b h = inr h

or_first : (a b : Bool) → a ≡ true → (a || b) ≡ true
or_first true b h = refl
or_first false b h = absurd cc

or_second : (a b : Bool) → b ≡ true → (a || b) ≡ true
or_second true b h = refl
or_second false b h = h

pub rising_from : (xs : List ℕ) → IsStrictlyIncreasing xs → is_rising xs ≡ true
rising_from [] h = refl
rising_from (x ∷ []) h = refl
rising_from (x ∷ y ∷ ys) h =
    both (nat_lt x y) (is_rising (y ∷ ys)) (lt_test x y (h 0 (omega arith))) (rising_from (y ∷ ys) (λ k l. rest k l))
  where
    rest : (k : ℕ) → k + 1 < length (y ∷ ys) → slice_index (y ∷ ys) k < slice_index (y ∷ ys) (k + 1)
    rest k l = let next : slice_index (x ∷ y ∷ ys) (suc k) < slice_index (x ∷ y ∷ ys) (suc k + 1) = h (suc k) (omega (arith, l)) in rw add-one (rw add-one at next)

-- ---- what is among numbers
among_is : (xs : List ℕ) (n : ℕ) → is_among xs n ≡ true → Contains xs n
among_is [] n h = absurd cc
among_is (x ∷ xs) n h = elim (either (x == n) (is_among xs n) h) [
  | inl e ↦ subst (λ z. Contains (x ∷ xs) z) (eq_true x n e) (here x xs)
  | inr r ↦ there x xs n (among_is xs n r)
]

is_there : (xs : List ℕ) (n : ℕ) → Contains xs n → is_among xs n ≡ true
is_there [] n h = none_in n h
is_there (x ∷ xs) n h = elim (first_or_rest x xs n h) [
  | inl e ↦ or_first (x == n) (is_among xs n) (eq_test x n e)
  | inr r ↦ or_second (x == n) (is_among xs n) (is_there xs n r)
]

pub in_numbers : (lo k n : ℕ) → Contains (range_with_len lo k) n → (lo ≤ n) × (n < lo + k)
in_numbers lo k n h =
    let len : length (range_with_len lo k) ≡ k = length-range_with_len lo k in
    let low : h.0 < k = subst (λ z. h.0 < z) len h.1 in
    let is : lo + h.0 ≡ n = sym (get_or-range_with_len lo k h.0 n low) ∙ h.2 in
    (omega (arith, is), omega (arith, is, low))

pub to_numbers : (lo k n : ℕ) → lo ≤ n → n < lo + k → Contains (range_with_len lo k) n
to_numbers lo k n a b =
    let low : n - lo < k = omega (arith, a, b) in
    let at : lo + (n - lo) ≡ n = omega (arith, a) in
    (n - lo, subst (λ z. n - lo < z) (sym (length-range_with_len lo k)) low, get_or-range_with_len lo k (n - lo) n low ∙ at)

-- ---- what was pushed, between the start and the end
module _ (r : Range ℕ) (edges added : List ℕ) (order : r.start ≤ r.end) (adds : SameNumbers added (shifted 0 edges)) where
  abbrev pushed : List ℕ
  pushed = ((r.start ∷ []) ++ added) ++ r.end ∷ []

  edge : (n : ℕ) → Contains added n → is_among edges n ≡ true
  edge n h =
      let q = map_from (λ row. 0 + row) edges n ((adds n).0 h) in
      is_there edges n (subst (λ z. Contains edges z) (let z : q.0 ≡ n = omega (arith, q.2) in z) q.1)

  is_added : (n : ℕ) → is_among edges n ≡ true → Contains added n
  is_added n h =
      let at : 0 + n ≡ n = omega arith in
      (adds n).1 (subst (λ z. Contains (shifted 0 edges) z) at (map_to (λ row. 0 + row) edges n (among_is edges n h)))

  cut_of : (n : ℕ) → Contains pushed n → is_cut (is_among edges) r n ≡ true
  cut_of n h = by (r.start) refl h
    where
      by : (s : ℕ) → r.start ≡ s → Contains pushed n → is_cut (is_among edges) r n ≡ true
      by s e g = elim (first_or_rest r.start (added ++ r.end ∷ []) n g) [
        | inl e ↦ or_first (n == r.start) (n == r.end || is_among edges n) (eq_test n r.start (sym e))
        | inr q ↦ or_second (n == r.start) (n == r.end || is_among edges n) (elim (Contains-push_cases added r.end n q) [
          | inl i ↦ or_second (n == r.end) (is_among edges n) (edge n i)
          | inr e ↦ or_first (n == r.end) (is_among edges n) (eq_test n r.end (sym e))
        ])
      ]

  pushed_at : (n : ℕ) → is_cut (is_among edges) r n ≡ true → Contains pushed n
  pushed_at n h = elim (either (n == r.start) (n == r.end || is_among edges n) h) [
    | inl e ↦ subst (λ z. Contains pushed z) (sym (eq_true n r.start e)) (here r.start (added ++ r.end ∷ []))
    | inr q ↦ there r.start (added ++ r.end ∷ []) n (elim (either (n == r.end) (is_among edges n) q) [
      | inl e ↦ Contains-append_right added (r.end ∷ []) n (subst (λ z. Contains (r.end ∷ []) z) (sym (eq_true n r.end e)) (here r.end []))
      | inr a ↦ Contains-append_left added (r.end ∷ []) n (is_added n a)
    ])
  ]

  same_cuts : (sorted : List ℕ) → SameNumbers sorted pushed → SameNumbers (filter (is_within r) sorted) (cut_rows (is_among edges) r)
  same_cuts sorted same n = (there_too, here_too)
    where
      there_too : Contains (filter (is_within r) sorted) n → Contains (cut_rows (is_among edges) r) n
      there_too h =
          let q = filter_from (is_within r) sorted n h in
          let lo : r.start ≤ n = le_true r.start n (first_true (nat_le r.start n) (nat_le n r.end) q.1) in
          let hi : n ≤ r.end = le_true n r.end (second_true (nat_le r.start n) (nat_le n r.end) q.1) in
          filter_to (is_cut (is_among edges) r) (numbers r.start (r.end + 1)) n (to_numbers r.start (r.end + 1 - r.start) n lo (omega (arith, lo, hi, order))) (cut_of n ((same n).0 q.0))

      here_too : Contains (cut_rows (is_among edges) r) n → Contains (filter (is_within r) sorted) n
      here_too h =
          let q = filter_from (is_cut (is_among edges) r) (numbers r.start (r.end + 1)) n h in
          let at = in_numbers r.start (r.end + 1 - r.start) n q.0 in
          filter_to (is_within r) sorted n ((same n).1 (pushed_at n q.1)) (both (nat_le r.start n) (nat_le n r.end) (le_test r.start n at.0) (le_test n r.end (omega (arith, at.1, order))))

  pub own_cuts : (sorted : List ℕ) → IsStrictlyIncreasing sorted → SameNumbers sorted pushed → filter (is_within r) sorted ≡ cut_rows (is_among edges) r
  own_cuts sorted rises same =
      same_rising (filter (is_within r) sorted) (cut_rows (is_among edges) r) (rising_from (filter (is_within r) sorted) (IsStrictlyIncreasing-filter (is_within r) sorted rises)) (cut_rows_rise (is_among edges) r) (same_cuts sorted same)

-- the range as it stands
pub span_is : (r : Range ℕ) (s : RowSpan) → r.start ≤ r.end → Ok s ≡ span_of 0 r → s ≡ record { offset = 0; start = r.start; end = r.end }
span_is r s l e = by (nat_lt r.end r.start) (nat_lt (0 + r.end) (2 ^ 64)) refl e
  where
    by : (b c : Bool) → nat_lt r.end r.start ≡ b → ◌≡◌ {A = Result RowSpan SplitRangeFault} (Ok s) (if b then Err Reversed else (if c then Ok (record { offset = 0; start = r.start; end = r.end }) else Err Overflow)) → s ≡ record { offset = 0; start = r.start; end = r.end }
    by true c t h = absurd cc
    by false true t h = cc
    by false false t h = absurd cc
