-- The slots of the splits that are read at once, over all files.
use Rattle.std.specs.Prelude.{◌≡◌, ◌+◌, ◌⊎◌, ℕ, Bool, true, false, List, [], ◌∷◌, ◌++◌, Option, None, Some, length, set, take, slice_index_or}
use Rattle.scan_values.specs.Selections.{is_among}
use Rattle.scan_segments.specs.Source.{Store}
use Rattle.scan_splits.specs.Arrivals.{Arrivals, Agrees}
use Rattle.scan_splits.specs.declared.inbox.Arrival.{Arrival}
use Rattle.scan_drive.specs.Splits.{SplitState, Event, Extends}
use Rattle.scan_drive.specs.Runs.{RunData, with_arrival, run_waits, is_ready}
use Rattle.scan_drive.specs.Files.{Part, allows, Group, grouped, Told, told_at, over}
use Rattle.scan_drive.specs.declared.slot.Halt.{Halt}
use Rattle.scan_drive.specs.declared.slot.Halt.TheVariants as halt
use Rattle.scan_drive.specs.declared.slot.Slot.{Slot}
use Rattle.scan_drive.specs.declared.slot.Stage.{Stage}
use Rattle.scan_drive.specs.declared.slot.Stage.TheVariants as stage

module _ {W R : Type 0} where
  -- no split is there
  abbrev pub nothing : Slot W R
  nothing = record { file = 0; stage = stage.Empty }

  -- the slot at a place
  abbrev pub slot_at : List (Slot W R) → ℕ → Slot W R
  slot_at slots place = slice_index_or slots place nothing

  -- a split that is read waits for an id
  abbrev pub stage_waits : Stage W R → ℕ → Bool
  stage_waits stage.Empty id = false
  stage_waits (stage.Reads r) id = run_waits r id
  stage_waits (stage.Read rows) id = false
  stage_waits (stage.Halted r h) id = false

  -- it has a split that waits for nothing
  abbrev pub is_fresh : Stage W R → Bool
  is_fresh stage.Empty = false
  is_fresh (stage.Reads r) = is_ready r
  is_fresh (stage.Read rows) = false
  is_fresh (stage.Halted r h) = false

  -- its split is being read
  abbrev pub is_reading : Stage W R → Bool
  is_reading stage.Empty = false
  is_reading (stage.Reads r) = true
  is_reading (stage.Read rows) = false
  is_reading (stage.Halted r h) = false

  -- reading its split has been given up
  abbrev pub is_halted : Stage W R → Bool
  is_halted stage.Empty = false
  is_halted (stage.Reads r) = false
  is_halted (stage.Read rows) = false
  is_halted (stage.Halted r h) = true

  -- the rows of its split are there
  abbrev pub is_read : Stage W R → Bool
  is_read stage.Empty = false
  is_read (stage.Reads r) = false
  is_read (stage.Read rows) = true
  is_read (stage.Halted r h) = false

  -- its rows are taken, or they are not there
  abbrev pub IsTaken : Slot W R → Slot W R → Option R → Type 0
  IsTaken old new None = (new ≡ old) × (is_read old.stage ≡ false)
  IsTaken old new (Some rows) = (old.stage ≡ stage.Read rows) × (new ≡ record old { stage = stage.Empty })

  -- the ids that the last poll of a split that is read wanted
  abbrev pub wanted_in : Stage W R → List ℕ
  wanted_in stage.Empty = []
  wanted_in (stage.Reads r) = r.wanted
  wanted_in (stage.Read rows) = []
  wanted_in (stage.Halted r h) = []

  -- what arrived of an id is handed to a split that is read
  abbrev pub stage_handed : ℕ → Arrival → Stage W R → Stage W R
  stage_handed id a stage.Empty = stage.Empty
  stage_handed id a (stage.Reads r) = stage.Reads (with_arrival id a r)
  stage_handed id a (stage.Read rows) = stage.Read rows
  stage_handed id a (stage.Halted r h) = stage.Halted r h

  -- a split that is read is given up for this
  abbrev pub stage_given_up : Halt → Stage W R → Stage W R
  stage_given_up h stage.Empty = stage.Empty
  stage_given_up h (stage.Reads r) = stage.Halted r h
  stage_given_up h (stage.Read rows) = stage.Read rows
  stage_given_up h (stage.Halted r g) = stage.Halted r g

  -- an arrival is handed to the split of a slot
  abbrev pub handed : ℕ → Arrival → Slot W R → Slot W R
  handed id a s = record s { stage = stage_handed id a s.stage }

  -- the split of a slot is given up for this
  abbrev pub given_up : Halt → Slot W R → Slot W R
  given_up h s = record s { stage = stage_given_up h s.stage }

  -- each of the slots at these places becomes another
  abbrev pub at_each : (Slot W R → Slot W R) → List ℕ → List (Slot W R) → List (Slot W R)
  at_each f [] slots = slots
  at_each f (p ∷ ps) slots = at_each f ps (set slots p (f (slot_at slots p)))

  -- each of these places has a split that waits for the id, or one that has been given up
  abbrev pub MayTake : ℕ → Slot W R → Type 0
  MayTake id s = is_halted s.stage ≡ false → stage_waits s.stage id ≡ true

  -- so has each of these places
  abbrev pub AllTake : ℕ → List ℕ → List (Slot W R) → Type 0
  AllTake id places slots = (p : ℕ) → is_among places p ≡ true → MayTake id (slot_at slots p)

  -- each split that waits for nothing is at one of these places
  abbrev pub HasFresh : List (Slot W R) → List ℕ → Type 0
  HasFresh slots places = (p : ℕ) → is_fresh (slot_at slots p).stage ≡ true → is_among places p ≡ true

-- one more place in a list, where it is to be
abbrev pub also_if : Bool → ℕ → List ℕ → List ℕ
also_if true place list = list ++ place ∷ []
also_if false place list = list

-- why a split of a file is given up
abbrev pub HaltAt : {I : Type 0} → Part I → Store → Halt → Type 0
HaltAt p store (halt.Source id) = Unit {0}
HaltAt p store (halt.Corrupt id) = p.bad store id ≡ true
HaltAt p store halt.Overflow = p.overflow store ≡ true
HaltAt p store halt.NoMemory = Unit {0}

module _ {W I : Type 0} (split : W → SplitState I) (comes : W → Arrivals → Store → Event → Type 0) where
  -- what has arrived for a run is what the store has, and its split comes to nothing that its file does not
  pub record RunOk (p : Part I) (store : Store) (r : RunData W) : Type 0 where
    pub agrees : Agrees store r.inbox
    pub overflow : (split r.work).overflow store ≡ true → p.overflow store ≡ true
    pub within : (more : Arrivals) (e : Event) → Extends r.inbox more → Agrees store more → comes r.work more store e → allows p store e ≡ true

module _ {W I R : Type 0} (split : W → SplitState I) (comes : W → Arrivals → Store → Event → Type 0) (items : R → List I) where
  -- the rows of the split in a slot; once it is read they are there
  abbrev pub stage_rows : Store → Stage W R → List I
  stage_rows store stage.Empty = []
  stage_rows store (stage.Reads r) = (split r.work).rows store
  stage_rows store (stage.Read rows) = items rows
  stage_rows store (stage.Halted r h) = (split r.work).rows store

  -- so it is with the split in a slot
  abbrev pub StageOk : Part I → Store → Stage W R → Type 0
  StageOk p store stage.Empty = Unit {0}
  StageOk p store (stage.Reads r) = RunOk split comes p store r
  StageOk p store (stage.Read rows) = Unit {0}
  StageOk p store (stage.Halted r h) = RunOk split comes p store r × HaltAt p store h

  -- a slot after a step: the rows of its split are the same, and it is as its file has it
  pub record SlotKeeps (p : Part I) (store : Store) (old new : Slot W R) : Type 0 where
    pub file_is : new.file ≡ old.file
    pub rows : StageOk p store old.stage → stage_rows store new.stage ≡ stage_rows store old.stage
    pub ok : StageOk p store old.stage → StageOk p store new.stage

  -- each slot after a step
  pub record EachKeeps (p : Part I) (store : Store) (old new : List (Slot W R)) : Type 0 where
    pub len : length new ≡ length old
    pub at : (place : ℕ) → SlotKeeps p store (slot_at old place) (slot_at new place)

  -- the group that a slot has to give
  abbrev pub slot_groups : List (Told I) → Slot W R → List (Group I)
  slot_groups tale s = over (told_at tale s.file).store (λ store. grouped s.file (stage_rows store s.stage))

module _ {W I R : Type 0} (items : R → List I) where
  -- how many rows there are of a split that is read
  abbrev pub stage_read : Stage W R → ℕ
  stage_read stage.Empty = 0
  stage_read (stage.Reads r) = 0
  stage_read (stage.Read rows) = length (items rows)
  stage_read (stage.Halted r h) = 0

  -- the same of all slots
  abbrev pub read_rows : List (Slot W R) → ℕ
  read_rows [] = 0
  read_rows (s ∷ ss) = stage_read s.stage + read_rows ss

  -- of a split that is read the first rows are kept
  pub record KeepsFirst (old new : Slot W R) : Type 0 where
    pub rows : R
    pub first : R
    pub most : ℕ
    pub was : old.stage ≡ stage.Read rows
    pub now : new ≡ record { file = old.file; stage = stage.Read first }
    pub taken : items first ≡ take most (items rows)

  -- a slot is as before, or of its split the first rows are kept
  abbrev pub IsTrimmed : Slot W R → Slot W R → Type 0
  IsTrimmed old new = (new ≡ old) ⊎ KeepsFirst old new
