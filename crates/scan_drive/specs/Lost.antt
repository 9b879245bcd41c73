-- What has arrived for splits, and for what they are given up.
use Rattle.std.specs.Prelude.{◌≡◌, ◌⊎◌, ℕ, Bool, true, false, not, List}
use Rattle.scan_drive.specs.Measures.{is_there}
use Rattle.scan_drive.specs.Slots.{slot_at}
use Rattle.scan_drive.specs.Splits.{lacks}
use Rattle.scan_drive.specs.declared.delivery.DriveFault.{DriveFault}
use Rattle.scan_drive.specs.declared.delivery.DriveFault.TheVariants as fault
use Rattle.scan_drive.specs.declared.slot.Halt.{Halt}
use Rattle.scan_drive.specs.declared.slot.Halt.TheVariants as halt
use Rattle.scan_drive.specs.declared.slot.Slot.{Slot}
use Rattle.scan_drive.specs.declared.slot.Stage.{Stage}
use Rattle.scan_drive.specs.declared.slot.Stage.TheVariants as stage

module _ {W R : Type 0} where
  -- something has arrived of an id for the split in a slot
  abbrev pub has_come : Stage W R → ℕ → Bool
  has_come stage.Empty id = false
  has_come (stage.Reads r) id = not (lacks r.inbox id)
  has_come (stage.Read rows) id = false
  has_come (stage.Halted r h) id = not (lacks r.inbox id)

  -- the split in a slot was given up for this
  abbrev pub IsLost : Halt → Stage W R → Type 0
  IsLost h stage.Empty = ⊥
  IsLost h (stage.Reads r) = ⊥
  IsLost h (stage.Read rows) = ⊥
  IsLost h (stage.Halted r g) = g ≡ h

  -- a poll of a split gives it up over no source, and for an id only of which something has arrived
  abbrev pub HaltsOver : Stage W R → Halt → Type 0
  HaltsOver s (halt.Source id) = ⊥
  HaltsOver s (halt.Corrupt id) = has_come s id ≡ true
  HaltsOver s halt.Overflow = Unit {0}
  HaltsOver s halt.NoMemory = Unit {0}

  -- a split that was polled to its end
  pub record EndsBy (old new : Stage W R) : Type 0 where
    pub there : is_there old ≡ true
    pub came : (id : ℕ) → has_come new id ≡ true → has_come old id ≡ true
    pub halts : (h : Halt) → IsLost h new → HaltsOver old h

  -- A slot after some steps: a split is there only where it was, something has arrived of ids alone that came, it is given up
  -- for its source at ids alone where that failed, and for what is no good where that has arrived.
  pub record Follows (Came Failed : ℕ → Type 0) (old new : Slot W R) : Type 0 where
    pub there : is_there new.stage ≡ true → (is_there old.stage ≡ true) × (new.file ≡ old.file)
    pub came : (id : ℕ) → has_come new.stage id ≡ true → (has_come old.stage id ≡ true) ⊎ Came id
    pub failed : (id : ℕ) → IsLost (halt.Source id) new.stage → IsLost (halt.Source id) old.stage ⊎ Failed id
    pub spoilt : (id : ℕ) → IsLost (halt.Corrupt id) new.stage → IsLost (halt.Corrupt id) old.stage ⊎ ((has_come old.stage id ≡ true) ⊎ Came id)

  -- each slot, by the file that it was of
  abbrev pub EachFollows : (ℕ → ℕ → Type 0) → (ℕ → ℕ → Type 0) → List (Slot W R) → List (Slot W R) → Type 0
  EachFollows Came Failed old new = (place : ℕ)
      → Follows (Came (slot_at old place).file) (Failed (slot_at old place).file) (slot_at old place)
      (slot_at new place)

  -- a split of this file was given up for this
  pub record HasLost (slots : List (Slot W R)) (file : ℕ) (h : Halt) : Type 0 where
    pub place : ℕ
    pub file_is : (slot_at slots place).file ≡ file
    pub lost : IsLost h (slot_at slots place).stage

  -- so one of the splits is why a drive stops
  abbrev pub StopsOver : List (Slot W R) → DriveFault → Type 0
  StopsOver slots fault.NoMemory = Unit {0}
  StopsOver slots (fault.Source file id) = HasLost slots file (halt.Source id)
  StopsOver slots (fault.Corrupt file id) = HasLost slots file (halt.Corrupt id)
  StopsOver slots (fault.Overflow file) = HasLost slots file halt.Overflow
