-- Splits that are polled by workers.
use Rattle.std.specs.Prelude.{◌≡◌, ◌<◌, ◌⊎◌, ℕ, true, false, None, All, List, [], ◌∷◌, ◌++◌, length, map, set}
use Rattle.scan_values.specs.Selections.{is_among}
use Rattle.scan_segments.specs.Source.{Store}
use Rattle.scan_splits.specs.Arrivals.{Arrivals}
use Rattle.scan_splits.specs.Wanted.{no_repeats}
use Rattle.scan_drive.specs.Files.{Part}
use Rattle.scan_drive.specs.Looks.{Looks, is_wait}
use Rattle.scan_drive.specs.Slots.{SlotKeeps, slot_at, is_fresh, nothing, also_if}
use Rattle.scan_drive.specs.Splits.{SplitState, Event}
use Rattle.scan_drive.specs.declared.looking.Found.TheVariants as found
use Rattle.scan_drive.specs.declared.slot.Slot.{Slot}
use Rattle.scan_drive.specs.declared.workers.Job.{Job}

-- some of the places, in the order of their turns
abbrev pub AreInTurn : List ℕ → List ℕ → Type 0
AreInTurn [] turns = Unit {0}
AreInTurn (p ∷ ps) [] = ⊥
AreInTurn (p ∷ ps) (t ∷ turns) = ((p ≡ t) × AreInTurn ps turns) ⊎ AreInTurn (p ∷ ps) turns

module _ {W R : Type 0} where
  -- the places that they are of
  abbrev pub places_of : List (Job W R) → List ℕ
  places_of jobs = map (λ j. j.place) jobs

  -- there are more slots than its place says
  abbrev pub IsWithin : ℕ → Job W R → Type 0
  IsWithin count j = j.place < count

  -- the split that was in a slot, not polled yet
  abbrev pub new_job : ℕ → Slot W R → Job W R
  new_job place slot = record { place = place; slot = slot; found = found.Nothing; seat = None; short = false }

  -- the split at a place is taken out of its slot, or it is none that waits for nothing
  abbrev pub TakesJob : ℕ → List (Job W R) → List (Job W R) → List (Slot W R) → List (Slot W R) → Type 0
  TakesJob place jobs jobs' slots slots' =
      ((is_fresh (slot_at slots place).stage ≡ false) × (jobs' ≡ jobs) × (slots' ≡ slots))
      ⊎ ((place < length slots) × (is_fresh (slot_at slots place).stage ≡ true)
      × (jobs' ≡ jobs ++ new_job place (slot_at slots place) ∷ []) × (slots' ≡ set slots place nothing))

  -- splits that were taken out of their slots
  pub record AreJobs (jobs : List (Job W R)) (old new : List (Slot W R)) : Type 0 where
    pub len : length new ≡ length old
    -- each is the split of its slot
    pub within : All (IsWithin (length old)) jobs
    pub from : All (λ j. j.slot ≡ slot_at old j.place) jobs
    pub once : no_repeats (places_of jobs) ≡ true
    -- their slots have no split, and the others are as before
    pub gone : (place : ℕ) → is_among (places_of jobs) place ≡ true → slot_at new place ≡ nothing
    pub others : (place : ℕ) → is_among (places_of jobs) place ≡ false → slot_at new place ≡ slot_at old place

  -- the slots with these splits at their places
  abbrev pub put_back : List (Job W R) → List (Slot W R) → List (Slot W R)
  put_back [] slots = slots
  put_back (j ∷ jobs) slots = put_back jobs (set slots j.place j.slot)

  -- a list with the places of those that wait for other segments now
  abbrev pub listed : List (Job W R) → List ℕ → List ℕ
  listed [] list = list
  listed (j ∷ jobs) list = listed jobs (also_if (is_wait j.found) j.place list)

module _ {W I R : Type 0} (split : W → SplitState I) (comes : W → Arrivals → Store → Event → Type 0) (items : R → List I) where
  -- a split was polled where it is
  pub record JobPolled (old new : Job W R) : Type 0 where
    pub place_is : new.place ≡ old.place
    pub keeps : (p : Part I) (store : Store) → SlotKeeps split comes items p store old.slot new.slot
    pub looks : Looks split comes items old.slot.stage new.slot.stage new.found
