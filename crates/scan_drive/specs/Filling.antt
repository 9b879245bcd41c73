-- Which files splits become active of.
use Rattle.std.specs.Prelude.{◌≡◌, ◌<◌, ◌≤◌, ◌⊎◌, ℕ, true, List, length, slice_index_or}
use Rattle.scan_drive.specs.Files.{Item, Told}
use Rattle.scan_drive.specs.Openers.{OpenerState, StaysOpen, IsAdmitted}
use Rattle.scan_drive.specs.Phases.{phase_at, has_left, IsQueued, AllRowsOk}
use Rattle.scan_drive.specs.Runs.{new_run}
use Rattle.scan_drive.specs.Slots.{slot_at}
use Rattle.scan_drive.specs.Turns.{IsTally}
use Rattle.scan_drive.specs.declared.files.ScanFile.{ScanFile}
use Rattle.scan_drive.specs.declared.phase.Phase.{Phase}
use Rattle.scan_drive.specs.declared.phase.Tally.{Tally}
use Rattle.scan_drive.specs.declared.slot.Slot.{Slot}
use Rattle.scan_drive.specs.declared.slot.Stage.TheVariants as stage

module _ {W F : Type 0} where
  -- each file that is counted is open, and all before this one are counted
  pub record AreCounted (first : ℕ) (t : Tally) (ps : List (Phase W F)) : Type 0 where
    pub from : first ≤ t.files
    pub queued : (k : ℕ) → k < t.files → IsQueued (phase_at ps k)

module _ {W R F : Type 0} where
  -- a slot where a split of a file that is counted, and had splits left, has become active
  pub record IsTakenBy (t : Tally) (ps : List (Phase W F)) (new : Slot W R) : Type 0 where
    pub counted : new.file < t.files
    pub had : has_left (phase_at ps new.file) ≡ true
    pub work : W
    pub now : new.stage ≡ stage.Reads (new_run work)

  -- Splits became active of files from one on, up to another: of those that are counted and had some left. What is counted is
  -- what openers tell.
  pub record Fills (first first' : ℕ) (t t' : Tally) (ps qs : List (Phase W F)) (old new : List (Slot W R)) : Type 0 where
    pub grows : t.files ≤ t'.files
    pub queued : (k : ℕ) → IsQueued (phase_at qs k) → IsQueued (phase_at ps k)
    pub left : (k : ℕ) → has_left (phase_at qs k) ≡ true → has_left (phase_at ps k) ≡ true
    pub counted : AreCounted first t ps → AreCounted first' t' qs
    pub rows : (tale : List (Told Item)) → length tale ≡ length ps → AllRowsOk tale ps → IsTally tale t → AllRowsOk tale qs × IsTally tale t'
    pub slots : AreCounted first t ps → (place : ℕ) → (slot_at new place ≡ slot_at old place) ⊎ IsTakenBy t' ps (slot_at new place)

module _ {O S W F I : Type 0} (state : O → OpenerState I) (polls : O → O → Type 0) (admits : O → O → List W → Type 0) where
  -- open files stay open, and the splits of one are those that it had, or one of the polls of its opener gave them
  abbrev pub OpensBy : List (ScanFile O S) → List (ScanFile O S) → List (Phase W F) → List (Phase W F) → Type 0
  OpensBy files files' old new =
      (k : ℕ) → StaysOpen (λ ws. (f : ScanFile O S)
      → IsAdmitted state polls admits (slice_index_or files k f).opener (slice_index_or files' k f).opener ws)
      (phase_at old k) (phase_at new k)
