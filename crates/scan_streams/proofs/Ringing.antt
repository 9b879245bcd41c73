-- The ring of slots, and the splits once an array is given.
use Rattle.std.proofs.Common.{◌≡◌, ℕ, suc, zero, ◌+◌, ◌<◌, ◌≤◌, List, [], ◌∷◌, ◌++◌, length, set, get_or, map, take, drop, Bool, true, false, nat_lt, Option, inl, inr, refl, sym, ap, ◌∙◌, subst, arith, append_assoc, append-nil}
use Rattle.std.specs.Prelude.{◌⊎◌, if◌then◌else◌}
use Rattle.std.specs.List.{flat_map}
use Rattle.std.proofs.lemmas.Bool.Decides.{nat_tests}
use Rattle.std.proofs.lemmas.Grind.{flat_map-append}
use Rattle.std.proofs.lemmas.List.{get_or_past, drop-set-lt, take_more_set}
use Rattle.scan_segments.specs.Source.{Store}
use Rattle.scan_values.specs.Arrays.{ArrayData}
use Rattle.scan_plans.specs.Futures.{FutureData}
use Rattle.scan_streams.specs.Slots.{slot_at, slot_split, is_done}
use Rattle.scan_streams.specs.Splits.{SplitData, read, new_split, Goes}
use Rattle.scan_streams.specs.Readings.{ring, splits_in, next_slot, later, turn_after}
use Rattle.scan_streams.specs.declared.slot.Slot.{Slot}
use Rattle.scan_streams.specs.declared.slot.Slot.TheVariants as slot
use Rattle.scan_streams.proofs.Handing.{le_or_lt, drop_next}
use Rattle.scan_streams.proofs.Going.{goes_refl, goes_same, goes_then, goes_append}
use Rattle.scan_streams.proofs.Turning.{goes_comm}

-- the ring behind its first
abbrev pub others : {T : Type 0} → ℕ → List T → List T
others k xs = drop (k + 1) xs ++ take k xs

drop_all : {T : Type 0} (xs : List T) (k : ℕ) → length xs ≤ k → drop k xs ≡ []
drop_all [] zero le = refl
drop_all [] (suc k) le = refl
drop_all (x ∷ xs) zero le = absurd (omega arith)
drop_all (x ∷ xs) (suc k) le = drop_all xs k (omega arith)

-- a list at a place and around it
set_parts : {T : Type 0} (xs : List T) (p : ℕ) (y d : T) → p < length xs → (set xs p y ≡ take p xs ++ y ∷ drop (suc p) xs) × (xs ≡ take p xs ++ get_or xs p d ∷ drop (suc p) xs)
set_parts [] p y d lt = absurd (omega arith)
set_parts (x ∷ xs) zero y d lt = (refl, refl)
set_parts (x ∷ xs) (suc p) y d lt = let h = set_parts xs p y d (omega arith) in (ap (λ zs. x ∷ zs) h.0, ap (λ zs. x ∷ zs) h.1)

pub ring_first : {T : Type 0} (k : ℕ) (xs : List T) (d : T) → k < length xs → ring k xs ≡ get_or xs k d ∷ others k xs
ring_first k xs d lt = ap (λ zs. zs ++ take k xs) (drop_next xs k d lt)

-- the ring once its first is another, and the turn is the next one's
pub ring_next : {T : Type 0} (k : ℕ) (xs : List T) (y : T) → k < length xs → ring (turn_after true k (length xs)) (set xs k y) ≡ others k xs ++ y ∷ []
ring_next k xs y lt = go (nat_lt (k + 1) (length xs)) refl
  where
    go : (b : Bool) → nat_lt (k + 1) (length xs) ≡ b → ring (if b then k + 1 else 0) (set xs k y) ≡ others k xs ++ y ∷ []
    go true e =
        let more : k < k + 1 = omega arith in
        ap (λ zs. zs ++ take (k + 1) (set xs k y)) (drop-set-lt (k + 1) xs k y more)
        ∙ ap (λ zs. drop (k + 1) xs ++ zs) (take_more_set xs k y lt)
        ∙ sym (append_assoc (drop (k + 1) xs) (take k xs) (y ∷ []))
    go false e =
        let last : length xs ≤ k + 1 = grind (arith, nat_tests) in
        let behind : length xs ≤ suc k = omega arith in
        append-nil (set xs k y)
        ∙ (set_parts xs k y y lt).0
        ∙ ap (λ zs. take k xs ++ y ∷ zs) (drop_all xs (suc k) behind)
        ∙ ap (λ zs. (zs ++ take k xs) ++ y ∷ []) (sym (drop_all xs (k + 1) last))

started : (queue : List FutureData) → flat_map slot_split (next_slot queue ∷ []) ++ map new_split (later queue) ≡ map new_split queue
started [] = refl
started (f ∷ queue) = refl

flat_next : (xs : List Slot) (queue : List FutureData) → flat_map slot_split (xs ++ next_slot queue ∷ []) ++ map new_split (later queue) ≡ flat_map slot_split xs ++ map new_split queue
flat_next xs queue =
    ap (λ zs. zs ++ map new_split (later queue)) (flat_map-append slot_split xs (next_slot queue ∷ []))
    ∙ append_assoc (flat_map slot_split xs) (flat_map slot_split (next_slot queue ∷ [])) (map new_split (later queue))
    ∙ ap (λ zs. flat_map slot_split xs ++ zs) (started queue)

-- a slot with an array is within the list
pub done_within : (xs : List Slot) (p : ℕ) → is_done (slot_at xs p) ≡ true → p < length xs
done_within xs p h = go (le_or_lt (length xs) p)
  where
    go : (length xs ≤ p) ⊎ (p < length xs) → p < length xs
    go (inr lt) = lt
    go (inl le) = let bad : false ≡ true = sym (ap is_done (get_or_past xs p slot.Empty le)) ∙ h in absurd cc

given_ordered : (k : ℕ) (xs : List Slot) (a : ArrayData) (queue : List FutureData) → k < length xs → slot_at xs k ≡ slot.Done a → splits_in k xs queue ≡ read a ∷ splits_in (turn_after true k (length xs)) (set xs k (next_slot queue)) (later queue)
given_ordered k xs a queue lt is =
    ap (λ zs. flat_map slot_split zs ++ map new_split queue) (ring_first k xs slot.Empty lt ∙ ap (λ s. s ∷ others k xs) is)
    ∙ ap (λ zs. read a ∷ zs) (sym (flat_next (others k xs) queue))
    ∙ ap (λ zs. read a ∷ (flat_map slot_split zs ++ map new_split (later queue))) (sym (ring_next k xs (next_slot queue) lt))

module _ (holds : Option Store) where
  -- without an order: the splits before and behind, those queued, and the next one started with those behind it
  goes_first : (x y q n l : List SplitData) (a : ArrayData) → n ++ l ≡ q → Goes false holds [] ((x ++ (read a ∷ y)) ++ q) (read a ∷ ((x ++ (n ++ y)) ++ l))
  goes_first x y q n l a e =
      goes_then holds false [] ((x ++ (read a ∷ y)) ++ q) (((read a ∷ y) ++ x) ++ q) (read a ∷ ((x ++ (n ++ y)) ++ l))
      (goes_append holds false (x ++ (read a ∷ y)) ((read a ∷ y) ++ x) q q (goes_comm holds x (read a ∷ y)) (goes_refl holds false q))
      (goes_append holds false (read a ∷ []) (read a ∷ []) ((y ++ x) ++ q) ((x ++ (n ++ y)) ++ l) (goes_refl holds false (read a ∷ []))
      (subst (λ (z : List SplitData × List SplitData). Goes false holds [] z.0 z.1) (λ i. (back i, on i))
      (goes_append holds false (y ++ (x ++ n)) ((x ++ n) ++ y) l l (goes_comm holds y (x ++ n)) (goes_refl holds false l))))
    where
      back : (y ++ (x ++ n)) ++ l ≡ (y ++ x) ++ q
      back = ap (λ zs. zs ++ l) (sym (append_assoc y x n)) ∙ append_assoc (y ++ x) n l ∙ ap (λ zs. (y ++ x) ++ zs) e

      on : ((x ++ n) ++ y) ++ l ≡ (x ++ (n ++ y)) ++ l
      on = ap (λ zs. zs ++ l) (append_assoc x n y)

  given_unordered : (p : ℕ) (xs : List Slot) (a : ArrayData) (queue : List FutureData) → p < length xs → slot_at xs p ≡ slot.Done a → Goes false holds [] (splits_in 0 xs queue) (read a ∷ splits_in 0 (set xs p (next_slot queue)) (later queue))
  given_unordered p xs a queue lt is =
      subst (λ (z : List SplitData × List SplitData). Goes false holds [] z.0 (read a ∷ z.1)) (λ i. (sym old i, sym new i))
      (goes_first (flat_map slot_split (take p xs)) (flat_map slot_split (drop (suc p) xs)) (map new_split queue) (slot_split (next_slot queue)) (map new_split (later queue)) a (joined queue))
    where
      joined : (q : List FutureData) → slot_split (next_slot q) ++ map new_split (later q) ≡ map new_split q
      joined [] = refl
      joined (f ∷ q) = refl

      parts : (set xs p (next_slot queue) ≡ take p xs ++ next_slot queue ∷ drop (suc p) xs) × (xs ≡ take p xs ++ slot_at xs p ∷ drop (suc p) xs)
      parts = set_parts xs p (next_slot queue) slot.Empty lt

      old : splits_in 0 xs queue ≡ (flat_map slot_split (take p xs) ++ (read a ∷ flat_map slot_split (drop (suc p) xs))) ++ map new_split queue
      old = ap (λ zs. flat_map slot_split zs ++ map new_split queue) (append-nil xs ∙ parts.1 ∙ ap (λ s. take p xs ++ s ∷ drop (suc p) xs) is) ∙ ap (λ zs. zs ++ map new_split queue) (flat_map-append slot_split (take p xs) (slot.Done a ∷ drop (suc p) xs))

      new : splits_in 0 (set xs p (next_slot queue)) (later queue) ≡ (flat_map slot_split (take p xs) ++ (slot_split (next_slot queue) ++ flat_map slot_split (drop (suc p) xs))) ++ map new_split (later queue)
      new = ap (λ zs. flat_map slot_split zs ++ map new_split (later queue)) (append-nil (set xs p (next_slot queue)) ∙ parts.0) ∙ ap (λ zs. zs ++ map new_split (later queue)) (flat_map-append slot_split (take p xs) (next_slot queue ∷ drop (suc p) xs))

  -- the array in a slot, whose turn it is, comes first
  pub given_first : (ordered : Bool) (k p : ℕ) (xs : List Slot) (a : ArrayData) (queue : List FutureData)
      → p < length xs → slot_at xs p ≡ slot.Done a → (ordered ≡ true → p ≡ k) → (ordered ≡ false → k ≡ 0) → Goes ordered holds [] (splits_in k xs queue) (read a ∷ splits_in (turn_after ordered k (length xs)) (set xs p (next_slot queue)) (later queue))
  given_first true k p xs a queue lt is at zero_is =
      let e : p ≡ k = at refl in
      subst (λ q. Goes true holds [] (splits_in k xs queue) (read a ∷ splits_in (turn_after true k (length xs)) (set xs q (next_slot queue)) (later queue))) (sym e)
      (goes_same holds true (splits_in k xs queue) (read a ∷ splits_in (turn_after true k (length xs)) (set xs k (next_slot queue)) (later queue)) (given_ordered k xs a queue (subst (λ q. q < length xs) e lt) (ap (slot_at xs) (sym e) ∙ is)))
  given_first false k p xs a queue lt is at zero_is =
      subst (λ j. Goes false holds [] (splits_in j xs queue) (read a ∷ splits_in j (set xs p (next_slot queue)) (later queue))) (sym (zero_is refl)) (given_unordered p xs a queue lt is)
