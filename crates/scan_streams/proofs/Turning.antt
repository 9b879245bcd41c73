-- What steps do to the splits of a reading.
use Rattle.std.proofs.Common.{◌≡◌, ℕ, suc, zero, List, [], ◌∷◌, ◌++◌, length, map, take, drop, Bool, true, false, ◌||◌, Option, inl, inr, refl, sym, ap, ◌∙◌, subst, arith, append_assoc}
use Rattle.std.specs.Prelude.{◌⊎◌, IsPermutation}
use Rattle.std.specs.List.{flat_map}
use Rattle.std.proofs.lemmas.List.{length-map}
use Rattle.std.proofs.lemmas.List.Sorted.{IsPermutation-append_comm}
use Rattle.scan_segments.specs.Source.{Store}
use Rattle.scan_values.specs.Arrays.{ArrayData}
use Rattle.scan_values.specs.Marked.{Marked}
use Rattle.scan_values.specs.Val.{marked}
use Rattle.scan_plans.specs.Came.{Came}
use Rattle.scan_plans.specs.Futures.{FutureData}
use Rattle.scan_streams.specs.Slots.{slot_at, slot_split}
use Rattle.scan_streams.specs.Splits.{SplitData, read, new_split, one_part, Goes, SomeComesTo, parts_left, clean_left, damage_left, overflow_left, may_want}
use Rattle.scan_streams.specs.Looks.{EachGoes}
use Rattle.scan_streams.specs.Readings.{ring, splits_in}
use Rattle.scan_streams.specs.declared.slot.Slot.{Slot}
use Rattle.scan_streams.proofs.Going.{goes_refl, goes_any, goes_append, hold_split, hold_join, of_split, of_join, parts_append, clean_append, damage_append, overflow_append, may_append, reach_append, some_split, some_left, some_right, alike_refl}

module _ (holds : Option Store) where
  goes_flat : (xs ys : List Slot) → length ys ≡ length xs → ((p : ℕ) → Goes true holds [] (slot_split (slot_at xs p)) (slot_split (slot_at ys p))) → Goes true holds [] (flat_map slot_split xs) (flat_map slot_split ys)
  goes_flat [] [] n h = goes_refl holds true []
  goes_flat [] (y ∷ ys) n h = absurd (omega (arith, n))
  goes_flat (x ∷ xs) [] n h = absurd (omega (arith, n))
  goes_flat (x ∷ xs) (y ∷ ys) n h = goes_append holds true (slot_split x) (slot_split y) (flat_map slot_split xs) (flat_map slot_split ys) (h zero) (goes_flat xs ys (omega (arith, n)) (λ p. h (suc p)))

  goes_drop : (k : ℕ) (xs ys : List Slot) → length ys ≡ length xs → ((p : ℕ) → Goes true holds [] (slot_split (slot_at xs p)) (slot_split (slot_at ys p))) → Goes true holds [] (flat_map slot_split (drop k xs)) (flat_map slot_split (drop k ys))
  goes_drop zero xs ys n h = goes_flat xs ys n h
  goes_drop (suc k) [] [] n h = goes_refl holds true []
  goes_drop (suc k) [] (y ∷ ys) n h = absurd (omega (arith, n))
  goes_drop (suc k) (x ∷ xs) [] n h = absurd (omega (arith, n))
  goes_drop (suc k) (x ∷ xs) (y ∷ ys) n h = goes_drop k xs ys (omega (arith, n)) (λ p. h (suc p))

  goes_take : (k : ℕ) (xs ys : List Slot) → length ys ≡ length xs → ((p : ℕ) → Goes true holds [] (slot_split (slot_at xs p)) (slot_split (slot_at ys p))) → Goes true holds [] (flat_map slot_split (take k xs)) (flat_map slot_split (take k ys))
  goes_take zero xs ys n h = goes_refl holds true []
  goes_take (suc k) [] [] n h = goes_refl holds true []
  goes_take (suc k) [] (y ∷ ys) n h = absurd (omega (arith, n))
  goes_take (suc k) (x ∷ xs) [] n h = absurd (omega (arith, n))
  goes_take (suc k) (x ∷ xs) (y ∷ ys) n h = goes_append holds true (slot_split x) (slot_split y) (flat_map slot_split (take k xs)) (flat_map slot_split (take k ys)) (h zero) (goes_take k xs ys (omega (arith, n)) (λ p. h (suc p)))

  flat_both : (xs ys : List Slot) → flat_map slot_split (xs ++ ys) ≡ flat_map slot_split xs ++ flat_map slot_split ys
  flat_both [] ys = refl
  flat_both (x ∷ xs) ys = ap (λ zs. slot_split x ++ zs) (flat_both xs ys) ∙ sym (append_assoc (slot_split x) (flat_map slot_split xs) (flat_map slot_split ys))

  goes_ring : (k : ℕ) (xs ys : List Slot) → length ys ≡ length xs → ((p : ℕ) → Goes true holds [] (slot_split (slot_at xs p)) (slot_split (slot_at ys p))) → Goes true holds [] (flat_map slot_split (ring k xs)) (flat_map slot_split (ring k ys))
  goes_ring k xs ys n h =
      subst (λ (z : List SplitData × List SplitData). Goes true holds [] z.0 z.1) (λ i. (sym (flat_both (drop k xs) (take k xs)) i, sym (flat_both (drop k ys) (take k ys)) i))
      (goes_append holds true (flat_map slot_split (drop k xs)) (flat_map slot_split (drop k ys)) (flat_map slot_split (take k xs)) (flat_map slot_split (take k ys)) (goes_drop k xs ys n h) (goes_take k xs ys n h))

  -- where each split goes on, all do
  pub goes_slots : (ordered : Bool) (k : ℕ) (xs ys : List Slot) (queue : List FutureData) → length ys ≡ length xs → ((p : ℕ) → Goes true holds [] (slot_split (slot_at xs p)) (slot_split (slot_at ys p))) → Goes ordered holds [] (splits_in k xs queue) (splits_in k ys queue)
  goes_slots ordered k xs ys queue n h =
      goes_any holds ordered (splits_in k xs queue) (splits_in k ys queue)
      (goes_append holds true (flat_map slot_split (ring k xs)) (flat_map slot_split (ring k ys)) (map new_split queue) (map new_split queue) (goes_ring k xs ys n h) (goes_refl holds true (map new_split queue)))

  pub goes_each : (ordered : Bool) (k : ℕ) (xs ys : List Slot) (queue : List FutureData) → EachGoes holds xs ys → Goes ordered holds [] (splits_in k xs queue) (splits_in k ys queue)
  goes_each ordered k xs ys queue e = goes_slots ordered k xs ys queue e.len (λ p. (e.at p).goes)

  -- an array that is there is given
  pub goes_pop : (ordered : Bool) (a : ArrayData) (ss : List SplitData) → Goes ordered holds (map marked a.items) (read a ∷ ss) ss
  goes_pop ordered a ss = record {
    stay = λ store e h. h.1;
    items = λ store e h. alike_refl ordered (one_part (map marked a.items) ++ parts_left store ss);
    clean = λ store e h. alike_refl ordered (one_part (map marked a.items) ++ clean_left store ss);
    overflow = λ store e h. refl;
    damage = λ store e h. refl;
    comes = λ test store e h c. inr c;
    may = λ id h. h;
    dtype = λ d h. h.1;
    reach = let n = length-map a.items marked in omega arith;
  }

  or_comm : (a b : Bool) → (a || b) ≡ (b || a)
  or_comm true true = refl
  or_comm true false = refl
  or_comm false true = refl
  or_comm false false = refl

  -- without an order splits may change places
  pub goes_comm : (a b : List SplitData) → Goes false holds [] (a ++ b) (b ++ a)
  goes_comm a b = record {
    stay = λ store e h. let p = hold_split store a b h in hold_join store b a p.1 p.0;
    items = λ store e h. subst (λ (z : List (List Marked) × List (List Marked)). IsPermutation z.0 z.1) (λ i. (sym (parts_append store a b) i, sym (parts_append store b a) i)) (IsPermutation-append_comm (parts_left store a) (parts_left store b));
    clean = λ store e h. subst (λ (z : List (List Marked) × List (List Marked)). IsPermutation z.0 z.1) (λ i. (sym (clean_append store a b) i, sym (clean_append store b a) i)) (IsPermutation-append_comm (clean_left store a) (clean_left store b));
    overflow = λ store e h. overflow_append store b a ∙ or_comm (overflow_left store b) (overflow_left store a) ∙ sym (overflow_append store a b);
    damage = λ store e h. damage_append store b a ∙ or_comm (damage_left store b) (damage_left store a) ∙ sym (damage_append store a b);
    comes = λ test store e h c. turn test store (some_split test store b a c);
    may = λ id h. may_append a b id ∙ or_comm (may_want a id) (may_want b id) ∙ sym (may_append b a id) ∙ h;
    dtype = λ d h. let p = of_split d a b h in of_join d b a p.1 p.0;
    reach = let m = reach_append a b in let n = reach_append b a in omega arith;
  }
    where
      turn : (test : FutureData → Came → Bool) (store : Store) → SomeComesTo test store b ⊎ SomeComesTo test store a → SomeComesTo test store (a ++ b)
      turn test store (inl c) = some_right test store a b c
      turn test store (inr c) = some_left test store a b c
