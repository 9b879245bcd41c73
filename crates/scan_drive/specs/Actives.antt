-- The splits that are active, over all files: in which slots they are, and whose turn it is.
use Rattle.std.specs.Prelude.{◌≡◌, ◌≢◌, ◌<◌, ◌+◌, ◌⊎◌, ◌++◌, ℕ, true, false, List, [], ◌∷◌, length}
use Rattle.std.specs.List.{flat_map}
use Rattle.scan_values.specs.Selections.{is_among}
use Rattle.scan_segments.specs.Source.{Store}
use Rattle.scan_splits.specs.Arrivals.{Arrivals}
use Rattle.scan_splits.specs.Wanted.{no_repeats}
use Rattle.scan_drive.specs.Files.{Group, Told, told_at, IfTold, AllTell}
use Rattle.scan_drive.specs.Runs.{RunData, new_run}
use Rattle.scan_drive.specs.Slots.{slot_at, StageOk, slot_groups}
use Rattle.scan_drive.specs.Splits.{SplitState, Event}
use Rattle.scan_drive.specs.Turns.{FrontWaits}
use Rattle.scan_drive.specs.declared.active.Active.{Active}
use Rattle.scan_drive.specs.declared.active.Front.{Front}
use Rattle.scan_drive.specs.declared.active.Front.TheVariants as front
use Rattle.scan_drive.specs.declared.slot.Halt.{Halt}
use Rattle.scan_drive.specs.declared.slot.Slot.{Slot}
use Rattle.scan_drive.specs.declared.slot.Stage.TheVariants as stage

module _ {W R : Type 0} where
  -- the places of the active splits and those that are free: each once, and there
  pub record AreSeats (turns free : List ℕ) (slots : List (Slot W R)) : Type 0 where
    pub once : no_repeats (turns ++ free) ≡ true
    pub within : (place : ℕ) → is_among (turns ++ free) place ≡ true → place < length slots
    pub empty : (place : ℕ) → is_among turns place ≡ false → (slot_at slots place).stage ≡ stage.Empty

  -- its turns and its free places are such
  abbrev pub Seated : Active W R → Type 0
  Seated a = AreSeats a.turns.items a.free.items a.slots.items

  -- one slot is another, and the others are as before
  pub record Becomes (place : ℕ) (s : Slot W R) (old new : List (Slot W R)) : Type 0 where
    pub at : slot_at new place ≡ s
    pub others : (q : ℕ) → q ≢ place → slot_at new q ≡ slot_at old q

  -- a place that was free, or one more where none was
  abbrev pub IsRoom : ℕ → List ℕ → List ℕ → List (Slot W R) → List (Slot W R) → Type 0
  IsRoom place free free' old new =
      ((free ≡ place ∷ free') × (length new ≡ length old))
      ⊎ ((free ≡ []) × (free' ≡ []) × (place ≡ length old) × (length new ≡ length old + 1))

  -- a split of a file is active at the last turn
  pub record Seats (file : ℕ) (work : W) (old new : Active W R) : Type 0 where
    pub place : ℕ
    pub turns : new.turns.items ≡ old.turns.items ++ place ∷ []
    pub unused : is_among old.turns.items place ≡ false
    pub becomes : Becomes place (record { file = file; stage = stage.Reads (new_run work) }) old.slots.items new.slots.items
    pub seated : Seated new

  -- the split whose turn it is has been read, and its rows are taken
  pub record GivesRows (file : ℕ) (rows : R) (old new : Active W R) : Type 0 where
    pub place : ℕ
    pub turns : old.turns.items ≡ place ∷ new.turns.items
    pub was : slot_at old.slots.items place ≡ record { file = file; stage = stage.Read rows }
    pub becomes : Becomes place (record { file = file; stage = stage.Empty }) old.slots.items new.slots.items
    pub seated : Seated new

  -- the split whose turn it is has been given up
  pub record IsHalted (file : ℕ) (h : Halt) (a : Active W R) : Type 0 where
    pub place : ℕ
    pub later : List ℕ
    pub run : RunData W
    pub turns : a.turns.items ≡ place ∷ later
    pub was : slot_at a.slots.items place ≡ record { file = file; stage = stage.Halted run h }

  -- all is as before
  pub record Stays (old new : Active W R) : Type 0 where
    pub slots : new.slots.items ≡ old.slots.items
    pub turns : new.turns ≡ old.turns
    pub free : new.free ≡ old.free

  -- the split whose turn it is goes behind the others
  pub record Rotates (old new : Active W R) : Type 0 where
    pub place : ℕ
    pub later : List ℕ
    pub turns : old.turns.items ≡ place ∷ later
    pub turned : new.turns.items ≡ later ++ place ∷ []
    pub slots : new.slots.items ≡ old.slots.items
    pub free : new.free ≡ old.free

  -- the split whose turn it is
  abbrev pub IsFront : Active W R → Active W R → Front R → Type 0
  IsFront old new front.Nothing = (old.turns.items ≡ []) × Stays old new
  IsFront old new front.Waits = Stays old new × FrontWaits old
  IsFront old new (front.Rows file rows) = GivesRows file rows old new
  IsFront old new (front.Halted file h) = IsHalted file h old × Stays old new

  -- the same, where it goes behind the others unless its rows are there
  abbrev pub IsNext : Active W R → Active W R → Front R → Type 0
  IsNext old new front.Nothing = (old.turns.items ≡ []) × Stays old new
  IsNext old new front.Waits = Rotates old new × FrontWaits old
  IsNext old new (front.Rows file rows) = GivesRows file rows old new
  IsNext old new (front.Halted file h) = IsHalted file h old × Rotates old new

module _ {W I R : Type 0} (split : W → SplitState I) (comes : W → Arrivals → Store → Event → Type 0) (items : R → List I) where
  -- its file is one of the files, and where that is told the slot is as the file has it
  pub record SlotOk (tale : List (Told I)) (s : Slot W R) : Type 0 where
    pub within : s.file < length tale
    pub stands : IfTold (told_at tale s.file) (λ p store. StageOk split comes items p store s.stage)

  -- each active split is as its file has it
  abbrev pub EachOk : List (Told I) → List ℕ → List (Slot W R) → Type 0
  EachOk tale turns slots = (place : ℕ) → is_among turns place ≡ true → SlotOk tale (slot_at slots place)

  -- so is each active split
  abbrev pub AllOk : List (Told I) → Active W R → Type 0
  AllOk tale a = EachOk tale a.turns.items a.slots.items

  -- the groups that slots have to give, in turn
  abbrev pub groups_in : List (Told I) → List ℕ → List (Slot W R) → List (Group I)
  groups_in tale turns slots = flat_map (λ place. slot_groups split comes items tale (slot_at slots place)) turns

  -- the groups that the active splits have to give
  abbrev pub groups_left : List (Told I) → Active W R → List (Group I)
  groups_left tale a = groups_in tale a.turns.items a.slots.items

  -- slots after a step keep what they have to give, and that they are as their files have them
  pub record Keeps (tale : List (Told I)) (turns : List ℕ) (old new : List (Slot W R)) : Type 0 where
    pub left : AllTell tale → EachOk tale turns old → groups_in tale turns new ≡ groups_in tale turns old
    pub ok : EachOk tale turns old → EachOk tale turns new
