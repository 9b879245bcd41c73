-- Which slots wait for what is live at the desk of a file.
use Rattle.std.specs.Prelude.{◌≡◌, ◌≢◌, ℕ, true, List, length, Option, Some}
use Rattle.scan_values.specs.Selections.{is_among}
use Rattle.scan_segments.specs.Source.{Store}
use Rattle.scan_splits.specs.Arrivals.{Arrivals}
use Rattle.scan_drive.specs.Desks.{Waiters, waits}
use Rattle.scan_drive.specs.Files.{Part}
use Rattle.scan_drive.specs.Slots.{slot_at, stage_waits, MayTake, EachKeeps}
use Rattle.scan_drive.specs.Splits.{SplitState, Event}
use Rattle.scan_drive.specs.declared.slot.Slot.{Slot}
use Rattle.scan_drive.specs.declared.slot.Stage.TheVariants as stage

-- one of these ids
abbrev pub Among : List ℕ → ℕ → Type 0
Among ids id = is_among ids id ≡ true

module _ {W R : Type 0} where
  -- those that wait at the desk of a file are splits of it, which wait or are given up; and each that waits does so there
  pub record Linked (file : ℕ) (d : Waiters) (slots : List (Slot W R)) : Type 0 where
    pub file_is : (id place : ℕ) → waits d id place ≡ true → (slot_at slots place).file ≡ file
    pub takes : (id place : ℕ) → waits d id place ≡ true → MayTake id (slot_at slots place)
    pub live : (id place : ℕ) → (slot_at slots place).file ≡ file → stage_waits (slot_at slots place).stage id ≡ true → waits d id place ≡ true

  -- slots after a step of one file: those of other files are as before, and those without a split
  pub record OfFile (file : ℕ) (old new : List (Slot W R)) : Type 0 where
    pub len : length new ≡ length old
    pub files : (place : ℕ) → (slot_at new place).file ≡ (slot_at old place).file
    pub others : (place : ℕ) → (slot_at old place).file ≢ file → slot_at new place ≡ slot_at old place
    pub empty : (place : ℕ) → (slot_at old place).stage ≡ stage.Empty → (slot_at new place).stage ≡ stage.Empty

  -- a step of a file keeps its links, and changes no other file's slots
  abbrev pub StaysLinked : Waiters → Waiters → List (Slot W R) → List (Slot W R) → Type 0
  StaysLinked d e old new = (file : ℕ) → Linked file d old → Linked file e new × OfFile file old new

module _ {W I R : Type 0} (split : W → SplitState I) (comes : W → Arrivals → Store → Event → Type 0) (items : R → List I) where
  -- a step keeps slots as their files have them, whose store is this where it is told
  abbrev pub KeepsTold : Option Store → List (Slot W R) → List (Slot W R) → Type 0
  KeepsTold holds old new = (p : Part I) (store : Store) → holds ≡ Some store → EachKeeps split comes items p store old new
