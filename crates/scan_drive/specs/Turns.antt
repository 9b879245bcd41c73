-- What becomes of the slots as splits become active and are given.
use Rattle.std.specs.Prelude.{◌≡◌, ◌≢◌, ◌<◌, ◌≤◌, ◌+◌, ◌-◌, ◌^◌, ◌⊎◌, ℕ, Bool, true, false, List, [], ◌∷◌, Option, None, Some, length, take}
use Rattle.scan_values.specs.Selections.{is_among}
use Rattle.scan_drive.specs.Files.{Part, Told, AllGive}
use Rattle.scan_drive.specs.Measures.{is_there, slots_steps, phases_steps}
use Rattle.scan_drive.specs.Order.{Rises}
use Rattle.scan_drive.specs.Phases.{phase_at, is_unopened, IsShut}
use Rattle.scan_drive.specs.Runs.{new_run}
use Rattle.scan_drive.specs.Slots.{slot_at, is_read, is_halted}
use Rattle.scan_drive.specs.Splits.{SplitState}
use Rattle.scan_drive.specs.declared.active.Active.{Active}
use Rattle.scan_drive.specs.declared.phase.Phase.{Phase}
use Rattle.scan_drive.specs.declared.phase.Phase.TheVariants as phase
use Rattle.scan_drive.specs.declared.phase.Tally.{Tally}
use Rattle.scan_drive.specs.declared.slot.Slot.{Slot}
use Rattle.scan_drive.specs.declared.slot.Stage.TheVariants as stage

module _ {W R : Type 0} where
  -- each place whose turn comes has a split
  abbrev pub Filled : Active W R → Type 0
  Filled a = (place : ℕ) → is_among a.turns.items place ≡ true → is_there (slot_at a.slots.items place).stage ≡ true

  -- a slot as before, or one whose rows were taken
  abbrev pub IsGone : Slot W R → Slot W R → Type 0
  IsGone old new = (new ≡ old) ⊎ ((is_read old.stage ≡ true) × (new.file ≡ old.file) × (new.stage ≡ stage.Empty))

  -- a slot where a split of one of so many files has become active
  pub record TakesSeat (n : ℕ) (old new : Slot W R) : Type 0 where
    pub was : old.stage ≡ stage.Empty
    pub file : new.file < n
    pub work : W
    pub now : new.stage ≡ stage.Reads (new_run work)

  -- a slot is as before, or a split has become active in it
  abbrev pub IsSeated : ℕ → Slot W R → Slot W R → Type 0
  IsSeated n old new = (new ≡ old) ⊎ TakesSeat n old new

  -- the same splits are active
  abbrev pub SameTurns : Active W R → Active W R → Type 0
  SameTurns old new = (new.slots.items ≡ old.slots.items) × (new.turns.items ≡ old.turns.items)

  -- it is the turn of a split that is neither read nor given up
  pub record FrontWaits (a : Active W R) : Type 0 where
    pub place : ℕ
    pub later : List ℕ
    pub turns : a.turns.items ≡ place ∷ later
    pub unread : is_read (slot_at a.slots.items place).stage ≡ false
    pub wanted : is_halted (slot_at a.slots.items place).stage ≡ false

  -- no split is active, or the one whose turn it is waits
  abbrev pub TurnsWait : Active W R → Type 0
  TurnsWait a = (a.turns.items ≡ []) ⊎ FrontWaits a

module _ {W I R : Type 0} (split : W → SplitState I) where
  -- rows of splits whose turn it was were given
  pub record GivesOn (old new : Active W R) : Type 0 where
    pub at : (place : ℕ) → IsGone (slot_at old.slots.items place) (slot_at new.slots.items place)
    pub filled : Filled old → Filled new
    pub nears : SameTurns old new ⊎ (slots_steps split new.slots.items < slots_steps split old.slots.items)

module _ {W I R F : Type 0} (split : W → SplitState I) where
  -- how much is left of the active splits and of those that are not active yet, from a file on
  abbrev pub seats_steps : ℕ → Active W R → List (Phase W F) → ℕ
  seats_steps first a ps = slots_steps split a.slots.items + phases_steps split ps + (length ps - first)

  -- splits of files from one on became active, up to another, in the order of their files
  pub record SeatsOn (first first' : ℕ) (old new : Active W R) (ps qs : List (Phase W F)) : Type 0 where
    pub at : (place : ℕ) → IsSeated (length ps) (slot_at old.slots.items place) (slot_at new.slots.items place)
    pub filled : Filled old → Filled new
    pub nears : ((first' ≡ first) × (qs ≡ ps) × SameTurns old new) ⊎ (seats_steps first' new qs < seats_steps first old ps)
    pub order : (low : ℕ) → Rises low first old.turns.items old.slots.items → Rises low first' new.turns.items new.slots.items
    pub shut : (k : ℕ) → is_unopened (phase_at qs k) ≡ is_unopened (phase_at ps k)

-- there is no room for one more split, or one is active
abbrev pub IsFull : ℕ → List ℕ → Type 0
IsFull room turns = (room ≤ length turns) ⊎ (0 < length turns)

module _ {W F : Type 0} where
  -- with its rows there would be too many
  abbrev pub IsTooMany : ℕ → Tally → Phase W F → Type 0
  IsTooMany file tally phase.Unopened = ⊥
  IsTooMany file tally (phase.Queued ws rows) = (tally.files ≡ file) × (2 ^ 64 ≤ tally.rows + rows) × (0 < rows)
  IsTooMany file tally (phase.Held f) = ⊥

  -- the rows of this file are counted
  abbrev pub IsCounted : ℕ → Tally → Tally → Phase W F → Type 0
  IsCounted file old new phase.Unopened = new ≡ old
  IsCounted file old new (phase.Queued ws rows) = ((new ≡ old) × (old.files ≢ file))
      ⊎ ((old.files ≡ file) × (new.files ≡ file + 1) × (new.rows ≡ old.rows + rows))
  IsCounted file old new (phase.Held f) = new ≡ old

  -- the rows of this file may be counted, or there would be too many
  abbrev pub FitsIn : ℕ → Tally → Phase W F → Bool → Type 0
  FitsIn file tally p true = IsTooMany file tally p → ⊥
  FitsIn file tally p false = IsTooMany file tally p

  -- the rows of this file are counted, or there would be too many
  abbrev pub Counts : ℕ → Tally → Tally → Phase W F → Bool → Type 0
  Counts file old new p true = IsCounted file old new p
  Counts file old new p false = (new ≡ old) × IsTooMany file old p

  -- no split becomes active: all files are done, there is no room or a split has claimed the last row, or the splits of the
  -- next file are not known or too many
  abbrev pub IsStuck : ℕ → ℕ → Tally → List (Phase W F) → List ℕ → Type 0
  IsStuck room first tally ps turns = (length ps ≤ first) ⊎ (IsFull room turns ⊎ (IsShut (phase_at ps first) ⊎ IsTooMany first tally (phase_at ps first)))

module _ {I : Type 0} where
  -- how many rows a file has, where that is told
  abbrev pub rows_in : Option (Part I) → ℕ
  rows_in None = 0
  rows_in (Some p) = p.row_count

  -- how many rows the files have, as far as that is told
  abbrev pub rows_of : List (Told I) → ℕ
  rows_of [] = 0
  rows_of (t ∷ ts) = rows_in t.part + rows_of ts

  -- these are the rows of the first files
  pub record IsTally (tale : List (Told I)) (t : Tally) : Type 0 where
    pub within : t.files ≤ length tale
    pub sum : AllGive tale → t.rows ≡ rows_of (take t.files tale)
