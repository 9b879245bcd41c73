-- How much is left to be done, at most.
use Rattle.std.specs.Prelude.{◌≡◌, ◌<◌, ◌⊎◌, ◌+◌, ◌*◌, ◌&&◌, ◌++◌, ℕ, Bool, true, false, not, List, [], ◌∷◌, length, if◌then◌else◌}
use Rattle.scan_values.specs.Selections.{is_among}
use Rattle.scan_drive.specs.Runs.{RunData, new_run, is_ready}
use Rattle.scan_drive.specs.Slots.{slot_at}
use Rattle.scan_drive.specs.Splits.{SplitState, lacks}
use Rattle.scan_drive.specs.declared.phase.Phase.{Phase}
use Rattle.scan_drive.specs.declared.phase.Phase.TheVariants as phase
use Rattle.scan_drive.specs.declared.slot.Slot.{Slot}
use Rattle.scan_drive.specs.declared.slot.Stage.{Stage}
use Rattle.scan_drive.specs.declared.slot.Stage.TheVariants as stage

-- how many ids of a list pass a test, each id counted once
abbrev pub distinct : (ℕ → Bool) → List ℕ → ℕ
distinct test [] = 0
distinct test (id ∷ ids) = (if test id && not (is_among ids id) then 1 else 0) + distinct test ids

module _ {W R : Type 0} where
  -- a split is there
  abbrev pub is_there : Stage W R → Bool
  is_there stage.Empty = false
  is_there (stage.Reads r) = true
  is_there (stage.Read rows) = true
  is_there (stage.Halted r h) = true

module _ {W I : Type 0} (split : W → SplitState I) where
  -- how many ids a run may want or wants of which nothing has arrived
  abbrev pub open_ids : RunData W → ℕ
  open_ids r = distinct (lacks r.inbox) ((split r.work).may ++ r.wanted)

  -- a run that waits is polled again once an id has arrived, and one that waits for none at once
  abbrev pub run_steps : RunData W → ℕ
  run_steps r = 3 * open_ids r + (if is_ready r then 2 else 1)

  -- a split that is not active yet
  abbrev pub work_steps : W → ℕ
  work_steps w = run_steps (new_run w) + 1

  -- the same of some splits that are not active yet
  abbrev pub works_steps : List W → ℕ
  works_steps [] = 0
  works_steps (w ∷ ws) = work_steps w + works_steps ws

module _ {W I F : Type 0} (split : W → SplitState I) where
  -- the steps left of the splits of a file that are not active yet
  abbrev pub phase_steps : Phase W F → ℕ
  phase_steps phase.Unopened = 0
  phase_steps (phase.Queued ws rows) = works_steps split ws.items
  phase_steps (phase.Held f) = 0

  -- the same of all files
  abbrev pub phases_steps : List (Phase W F) → ℕ
  phases_steps [] = 0
  phases_steps (p ∷ ps) = phase_steps p + phases_steps ps

module _ {W I R : Type 0} (split : W → SplitState I) where
  -- the steps left of a slot
  abbrev pub stage_steps : Stage W R → ℕ
  stage_steps stage.Empty = 0
  stage_steps (stage.Reads r) = run_steps split r
  stage_steps (stage.Read rows) = 1
  stage_steps (stage.Halted r h) = 0

  -- the same of all slots
  abbrev pub slots_steps : List (Slot W R) → ℕ
  slots_steps [] = 0
  slots_steps (s ∷ ss) = stage_steps s.stage + slots_steps ss

  -- nearer to the end
  abbrev pub IsNearer : Slot W R → Slot W R → Type 0
  IsNearer old new = stage_steps new.stage < stage_steps old.stage

  -- a slot after a step: it is of the same file, a split is there as before, and it is the same or nearer to the end
  pub record Advances (old new : Slot W R) : Type 0 where
    pub file_is : new.file ≡ old.file
    pub there : is_there new.stage ≡ is_there old.stage
    pub nears : (new ≡ old) ⊎ IsNearer old new

  -- each slot is so
  pub record EachAdvances (old new : List (Slot W R)) : Type 0 where
    pub len : length new ≡ length old
    pub at : (place : ℕ) → Advances (slot_at old place) (slot_at new place)
