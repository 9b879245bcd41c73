-- Some of the splits that are still to be given.
use Rattle.std.proofs.Common.{◌≡◌, ℕ, suc, zero, ◌+◌, ◌-◌, ◌<◌, ◌≤◌, List, [], ◌∷◌, ◌++◌, map, take, drop, Bool, true, false, ◌||◌, Option, inl, inr, refl, sym, ap, ◌∙◌, subst, arith, append_assoc, append-nil}
use Rattle.std.specs.Prelude.{◌⊎◌}
use Rattle.std.specs.List.{flat_map}
use Rattle.std.proofs.lemmas.Grind.{flat_map-append}
use Rattle.std.proofs.lemmas.List.{get_or-drop, get_or-take}
use Rattle.scan_segments.specs.Source.{Store, SourceState}
use Rattle.scan_plans.specs.Came.{Came}
use Rattle.scan_plans.specs.Futures.{FutureData}
use Rattle.scan_streams.specs.Sources.{SourceMoves}
use Rattle.scan_streams.specs.Slots.{slot_at, slot_split}
use Rattle.scan_streams.specs.Splits.{SplitData, new_split, Goes, AllHold, SomeComesTo, overflow_left, may_want, wants_id, spoils_id}
use Rattle.scan_streams.specs.Looks.{MayAsk, Halts}
use Rattle.scan_streams.specs.Readings.{ring, splits_in}
use Rattle.scan_streams.specs.declared.fault.Halt.{Halt}
use Rattle.scan_streams.specs.declared.fault.Halt.TheVariants as halt
use Rattle.scan_streams.specs.declared.slot.Slot.{Slot}
use Rattle.scan_streams.specs.declared.slot.Slot.TheVariants as slot
use Rattle.scan_streams.proofs.Asking.{moves_weaker, was_before}
use Rattle.scan_streams.proofs.Going.{goes_refl, hold_split, overflow_append, may_append, some_left, some_right}
use Rattle.scan_streams.proofs.Handing.{le_or_lt}

or_left : (a b : Bool) → a ≡ true → (a || b) ≡ true
or_left true b e = refl
or_left false b e = absurd cc

or_right : (a b : Bool) → b ≡ true → (a || b) ≡ true
or_right true b e = refl
or_right false b e = e

-- some splits stand among others
pub record Part (part whole : List SplitData) : Type 0 where
  pub before : List SplitData
  pub behind : List SplitData
  pub is : whole ≡ before ++ (part ++ behind)

pub part_none : (whole : List SplitData) → Part [] whole
part_none whole = record { before = whole; behind = []; is = sym (append-nil whole) }

part_left : (part a b : List SplitData) → Part part a → Part part (a ++ b)
part_left part a b h = record {
  before = h.before;
  behind = h.behind ++ b;
  is = ap (λ zs. zs ++ b) h.is ∙ append_assoc h.before (part ++ h.behind) b ∙ ap (λ zs. h.before ++ zs) (append_assoc part h.behind b);
}

part_right : (part a b : List SplitData) → Part part b → Part part (a ++ b)
part_right part a b h = record {
  before = a ++ h.before;
  behind = h.behind;
  is = ap (λ zs. a ++ zs) h.is ∙ sym (append_assoc a h.before (part ++ h.behind));
}

part_flat : (xs : List Slot) (p : ℕ) → Part (slot_split (slot_at xs p)) (flat_map slot_split xs)
part_flat [] zero = part_none []
part_flat [] (suc p) = part_none []
part_flat (x ∷ xs) zero = record { before = []; behind = flat_map slot_split xs; is = refl }
part_flat (x ∷ xs) (suc p) = part_right (slot_split (slot_at xs p)) (slot_split x) (flat_map slot_split xs) (part_flat xs p)

part_ring : (k : ℕ) (xs : List Slot) (p : ℕ) → Part (slot_split (slot_at xs p)) (flat_map slot_split (ring k xs))
part_ring k xs p = subst (Part (slot_split (slot_at xs p))) (sym (flat_map-append slot_split (drop k xs) (take k xs))) (go (le_or_lt k p))
  where
    go : (k ≤ p) ⊎ (p < k) → Part (slot_split (slot_at xs p)) (flat_map slot_split (drop k xs) ++ flat_map slot_split (take k xs))
    go (inl le) =
        let at : k + (p - k) ≡ p = omega arith in
        let same : slot_at (drop k xs) (p - k) ≡ slot_at xs p = get_or-drop k xs (p - k) slot.Empty ∙ ap (slot_at xs) at in
        part_left (slot_split (slot_at xs p)) (flat_map slot_split (drop k xs)) (flat_map slot_split (take k xs)) (subst (λ s. Part (slot_split s) (flat_map slot_split (drop k xs))) same (part_flat (drop k xs) (p - k)))
    go (inr lt) =
        let same : slot_at (take k xs) p ≡ slot_at xs p = get_or-take k xs p slot.Empty lt in
        part_right (slot_split (slot_at xs p)) (flat_map slot_split (drop k xs)) (flat_map slot_split (take k xs)) (subst (λ s. Part (slot_split s) (flat_map slot_split (take k xs))) same (part_flat (take k xs) p))

-- the split in a slot is among those that are still to be given
pub part_slot : (k : ℕ) (xs : List Slot) (queue : List FutureData) (p : ℕ) → Part (slot_split (slot_at xs p)) (splits_in k xs queue)
part_slot k xs queue p = part_left (slot_split (slot_at xs p)) (flat_map slot_split (ring k xs)) (map new_split queue) (part_ring k xs p)

module _ (part whole : List SplitData) (h : Part part whole) where
  hold_part : (store : Store) → AllHold store whole → AllHold store part
  hold_part store a = (hold_split store part h.behind (hold_split store h.before (part ++ h.behind) (subst (AllHold store) h.is a)).1).0

  some_whole : (test : FutureData → Came → Bool) (store : Store) → SomeComesTo test store part → SomeComesTo test store whole
  some_whole test store c = subst (SomeComesTo test store) (sym h.is) (some_right test store h.before (part ++ h.behind) (some_left test store part h.behind c))

  may_whole : (id : ℕ) → may_want part id ≡ true → may_want whole id ≡ true
  may_whole id m =
      ap (λ ss. may_want ss id) h.is ∙ may_append h.before (part ++ h.behind) id
      ∙ or_right (may_want h.before id) (may_want (part ++ h.behind) id) (may_append part h.behind id ∙ or_left (may_want part id) (may_want h.behind id) m)

  overflow_whole : (store : Store) → overflow_left store part ≡ true → overflow_left store whole ≡ true
  overflow_whole store o =
      ap (overflow_left store) h.is ∙ overflow_append store h.before (part ++ h.behind)
      ∙ or_right (overflow_left store h.before) (overflow_left store (part ++ h.behind)) (overflow_append store part h.behind ∙ or_left (overflow_left store part) (overflow_left store h.behind) o)

  -- what some of the splits may ask for, all may
  pub ask_whole : (holds : Option Store) (id : ℕ) → MayAsk holds part id → MayAsk holds whole id
  ask_whole holds id m = (may_whole id m.0, λ store e a. some_whole (wants_id id) store (m.1 store e (hold_part store a)))

  pub moves_whole : (holds : Option Store) (s t : SourceState) → SourceMoves (MayAsk holds part) s t → SourceMoves (MayAsk holds whole) s t
  moves_whole holds s t m = moves_weaker (MayAsk holds part) (MayAsk holds whole) s t (ask_whole holds) m

  -- why some of the splits are not read any further
  pub halts_whole : (s t : SourceState) (x : Halt) → Halts s t part x → Halts s t whole x
  halts_whole s t (halt.Source id) x = x
  halts_whole s t (halt.Corrupt id) x = λ store e a. some_whole (spoils_id id) store (x store e (hold_part store a))
  halts_whole s t halt.Overflow x = λ store e a. overflow_whole store (x store e (hold_part store a))
  halts_whole s t halt.NoMemory x = tt

-- what splits may ask for that went on, those before may
pub ask_back : (ordered : Bool) (holds : Option Store) (given : List Rattle.scan_values.specs.Marked.Marked) (a b : List SplitData) → Goes ordered holds given a b → (id : ℕ) → MayAsk holds b id → MayAsk holds a id
ask_back ordered holds given a b g id m = (g.may id m.0, λ store e h. g.comes (wants_id id) store e h (m.1 store e (g.stay store e h)))

-- and why they are not read any further
pub halts_back : (ordered : Bool) (May : ℕ → Type 0) (given : List Rattle.scan_values.specs.Marked.Marked) (a b : List SplitData) (s t u : SourceState) (x : Halt) → Goes ordered s.holds given a b → SourceMoves May s t → Halts t u b x → Halts s u a x
halts_back ordered May given a b s t u (halt.Source id) g m x = let f = m.faults in let r = x.0 in (omega arith, sym m.can_fail ∙ x.1, was_before May id s t u m x.2)
halts_back ordered May given a b s t u (halt.Corrupt id) g m x = λ store e h. g.comes (spoils_id id) store e h (x store (m.holds ∙ e) (g.stay store e h))
halts_back ordered May given a b s t u halt.Overflow g m x = λ store e h. sym (g.overflow store e h) ∙ x store (m.holds ∙ e) (g.stay store e h)
halts_back ordered May given a b s t u halt.NoMemory g m x = tt

-- the same once nothing but the source has moved
pub halts_moved : (May : ℕ → Type 0) (splits : List SplitData) (s t u : SourceState) (x : Halt) → SourceMoves May s t → Halts t u splits x → Halts s u splits x
halts_moved May splits s t u x m h = halts_back true May [] splits splits s t u x (goes_refl s.holds true splits) m h
