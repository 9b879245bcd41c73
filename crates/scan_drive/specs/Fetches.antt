-- What polls of live requests bring nearer to the end.
use Rattle.std.specs.Prelude.{◌≡◌, ◌≢◌, ◌<◌, ◌⊎◌, ℕ, true, List}
use Rattle.scan_segments.specs.Source.{SourceState}
use Rattle.scan_drive.specs.Desks.{Waiters, waits}
use Rattle.scan_drive.specs.Measures.{IsNearer}
use Rattle.scan_drive.specs.Slots.{slot_at, stage_waits}
use Rattle.scan_drive.specs.Splits.{SplitState}
use Rattle.scan_drive.specs.declared.slot.Slot.{Slot}

-- places wait for other ids as before
abbrev pub WaitOn : ℕ → Waiters → Waiters → Type 0
WaitOn id d e = (q place : ℕ) → q ≢ id → waits d q place ≡ true → waits e q place ≡ true

module _ {W I R : Type 0} (split : W → SplitState I) where
  -- the source has put off an answer, or each split that waited at the desk for this id is nearer to its end
  abbrev pub BringsNearer : ℕ → SourceState → SourceState → Waiters → List (Slot W R) → List (Slot W R) → Type 0
  BringsNearer id s t d old new =
      (place : ℕ) → waits d id place ≡ true → stage_waits (slot_at old place).stage id ≡ true
      → (t.turns < s.turns) ⊎ IsNearer split (slot_at old place) (slot_at new place)
