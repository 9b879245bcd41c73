-- Looks at the splits that are read.
use Rattle.std.specs.Prelude.{◌≡◌, ◌⊎◌, ℕ, Bool, true, false, List, length}
use Rattle.scan_values.specs.Selections.{is_among}
use Rattle.scan_segments.specs.Source.{Store}
use Rattle.scan_splits.specs.Arrivals.{Arrivals}
use Rattle.scan_drive.specs.Lost.{EndsBy}
use Rattle.scan_drive.specs.Splits.{SplitState, Event, SameSplit, Wants}
use Rattle.scan_drive.specs.Runs.{RunData, is_ready}
use Rattle.scan_drive.specs.Slots.{slot_at, is_fresh, is_reading, wanted_in, stage_waits, also_if}
use Rattle.scan_drive.specs.declared.looking.Found.{Found}
use Rattle.scan_drive.specs.declared.looking.Found.TheVariants as found
use Rattle.scan_drive.specs.declared.slot.Slot.{Slot}
use Rattle.scan_drive.specs.declared.slot.Stage.{Stage}
use Rattle.scan_drive.specs.declared.slot.Stage.TheVariants as stage

-- a split waits for other segments now
abbrev pub is_wait : Found → Bool
is_wait found.Nothing = false
is_wait found.Done = false
is_wait found.Waits = true

module _ {W R : Type 0} where
  -- its split is read, or given up
  abbrev pub is_ended : Stage W R → Bool
  is_ended stage.Empty = false
  is_ended (stage.Reads r) = false
  is_ended (stage.Read rows) = true
  is_ended (stage.Halted r h) = true

  -- its split waits for each id that it wants
  pub record WaitsForAll (s : Slot W R) : Type 0 where
    pub reading : is_reading s.stage ≡ true
    pub waits : (id : ℕ) → stage_waits s.stage id ≡ is_among (wanted_in s.stage) id

module _ {W I R : Type 0} (split : W → SplitState I) (comes : W → Arrivals → Store → Event → Type 0) (items : R → List I) where
  -- the split that was there waits for what lacks
  pub record FoundWaits (old new : Stage W R) : Type 0 where
    pub run : RunData W
    pub next : RunData W
    pub was : old ≡ stage.Reads run
    pub now : new ≡ stage.Reads next
    pub ready : is_ready run ≡ true
    pub same : SameSplit split comes run.inbox next.work run.work
    pub inbox : next.inbox ≡ run.inbox
    pub lacking : Wants split comes run.inbox run.work next.wanted

  -- what a look at a slot has found: nothing to poll, and all is as before; a split that has ended; one that waits
  abbrev pub Looks : Stage W R → Stage W R → Found → Type 0
  Looks old new found.Nothing = (new ≡ old) × (is_fresh old ≡ false)
  Looks old new found.Done = (is_fresh old ≡ true) × (is_ended new ≡ true) × EndsBy old new
  Looks old new found.Waits = FoundWaits old new

  -- the split at a place was polled, unless it waits, and the place is listed where it waits for other segments now
  pub record LooksAt (place : ℕ) (list list' : List ℕ) (old new : Slot W R) : Type 0 where
    pub found : Found
    pub file_is : new.file ≡ old.file
    pub looks : Looks old.stage new.stage found
    pub listed : list' ≡ also_if (is_wait found) place list

  -- a slot after all polls, which waits for other segments now where it is listed
  pub record IsPolled (asked : Bool) (old new : Slot W R) : Type 0 where
    pub file_is : new.file ≡ old.file
    pub waits : asked ≡ true → FoundWaits old.stage new.stage
    pub other : asked ≡ false → (new ≡ old) ⊎ ((is_fresh old.stage ≡ true) × (is_ended new.stage ≡ true) × EndsBy old.stage new.stage)

  -- each slot after all polls
  pub record EachPolled (asking : List ℕ) (old new : List (Slot W R)) : Type 0 where
    pub len : length new ≡ length old
    pub at : (place : ℕ) → IsPolled (is_among asking place) (slot_at old place) (slot_at new place)
