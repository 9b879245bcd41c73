-- What a walk over places does to files and to what is kept of them, and where it ends.
use Rattle.std.specs.Prelude.{◌≡◌, ◌≢◌, ◌⊎◌, ◌<◌, ◌≤◌, ℕ, true, false, List, None, Some, IfSome, All, get_or, length, map, take}
use Rattle.std.specs.List.{slice_get}
use Rattle.scan_values.specs.DataType.{DataType}
use Rattle.scan_values.specs.Selections.{is_among}
use Rattle.scan_expr.specs.Bound.{Bound}
use Rattle.scan_layout.specs.Check.{first_fault}
use Rattle.scan_layout.specs.Layout.{dtype_of, rows_of}
use Rattle.scan_layout.specs.declared.fault.LayoutFault.{LayoutFault}
use Rattle.scan_opener.specs.Opener.{OpenerState, OpenerFailed, Given, skip, layout_of}
use Rattle.scan_drive.specs.declared.files.ScanFile.{ScanFile}
use Rattle.scan_seek.specs.KeptData.{KeptData, unopened, skipped, flawed, ready}
use Rattle.scan_seek.specs.Keeps.{is_open, IsKept, HasRow}
use Rattle.scan_seek.specs.Polls.{IsPolledThrough}
use Rattle.scan_places.specs.declared.fault.PlaceFault.{PlaceFault}
use Rattle.scan_places.specs.declared.fault.PlaceFault.TheVariants as fault
use Rattle.scan_places.specs.declared.place.Place.{Place}

-- what is kept of the file at a place in the list
abbrev pub kept_at : List KeptData → ℕ → KeptData
kept_at kept k = get_or kept k unopened

-- the files that places name
abbrev pub files_of : List Place → List ℕ
files_of places = map (λ (p : Place). p.file) places

-- ---- what an opener gives
-- a layout of the dtype that is well-formed, with the row
abbrev pub GivesRow : DataType → ℕ → Given → Type 0
GivesRow d row skip = ⊥
GivesRow d row (layout_of l) = (first_fault l d ≡ None) × (row < rows_of l)

-- a skipped file, or such a layout with fewer rows
abbrev pub LacksRow : DataType → ℕ → Given → Type 0
LacksRow d row skip = Unit {0}
LacksRow d row (layout_of l) = (first_fault l d ≡ None) × (rows_of l ≤ row)

-- a layout of another dtype
abbrev pub IsOther : DataType → Given → Type 0
IsOther d skip = ⊥
IsOther d (layout_of l) = dtype_of l ≢ d

-- a layout of the dtype with this first fault
abbrev pub IsIll : DataType → LayoutFault → Given → Type 0
IsIll d x skip = ⊥
IsIll d x (layout_of l) = (dtype_of l ≡ d) × (first_fault l d ≡ Some x)

-- ---- one opener
-- it is polled to its end, unless the file is open, and what it gives is kept
pub record OpensOne {O : Type 0} (opener : O → OpenerState) (e : Bound) (old new : O) (kept kept' : KeptData) : Type 0 where
  pub polls : IsPolledThrough (opener old) (opener new)
  pub kept_is : IsKept e (opener new) kept'
  pub still : is_open kept ≡ true → (new ≡ old) × (kept' ≡ kept)

-- why it is not opened
abbrev pub FailsOpening : ℕ → OpenerState → OpenerState → PlaceFault → Type 0
FailsOpening file old new fault.NoMemory = Unit {0}
FailsOpening file old new (fault.Opener f) = (f ≡ file) × OpenerFailed old new
FailsOpening file old new _ = ⊥

-- why an opened file does not have the row of a place
abbrev pub FailsRow : DataType → ℕ → Place → KeptData → PlaceFault → Type 0
FailsRow d number p skipped (fault.NoPlace n) = n ≡ number
FailsRow d number p (ready l e) (fault.NoPlace n) = (n ≡ number) × (rows_of l ≤ p.row)
FailsRow d number p (flawed l) (fault.DTypeMismatch f) = (f ≡ p.file) × (dtype_of l ≢ d)
FailsRow d number p (flawed l) (fault.Layout f x) = (f ≡ p.file) × (dtype_of l ≡ d) × (first_fault l d ≡ Some x)
FailsRow d number p _ _ = ⊥

module _ {O S : Type 0} where
  -- a file and what is kept of it are as they were
  pub record Stays (k : ℕ) (old new : List (ScanFile O S)) (kept kept' : List KeptData) : Type 0 where
    pub file : (f : ScanFile O S) → get_or new k f ≡ get_or old k f
    pub kept_is : kept_at kept' k ≡ kept_at kept k

  -- the file of a place is listed, and has its row
  abbrev pub HasPlaceRow : List (ScanFile O S) → List KeptData → Place → Type 0
  HasPlaceRow files kept p = (p.file < length files) × HasRow (kept_at kept p.file) p.row

  -- a walk that ended at none of these places: what is not open is as it was, and each has its row
  pub record Walked (places : List Place) (old new : List (ScanFile O S)) (kept kept' : List KeptData) : Type 0 where
    pub still : (k : ℕ) → is_open (kept_at kept' k) ≡ false → Stays k old new kept kept'
    pub there : All (HasPlaceRow new kept') places

module _ {O S : Type 0} (opener : O → OpenerState) (e : Bound) where
  -- what is kept of each file is what its opener gives
  abbrev pub AreKept : List (ScanFile O S) → List KeptData → Type 0
  AreKept files kept = (k : ℕ) (f : ScanFile O S) → k < length files → IsKept e (opener (get_or files k f).opener) (kept_at kept k)

  -- the file at a place in the list is opened, and the others stay
  pub record OpensAt (k : ℕ) (old new : List (ScanFile O S)) (kept kept' : List KeptData) : Type 0 where
    pub count : length new ≡ length old
    pub even : length kept' ≡ length kept
    pub source : (f : ScanFile O S) → (get_or new k f).source ≡ (get_or old k f).source
    pub name : (f : ScanFile O S) → (get_or new k f).source_id ≡ (get_or old k f).source_id
    pub opens : (f : ScanFile O S) → OpensOne opener e (get_or old k f).opener (get_or new k f).opener (kept_at kept k) (kept_at kept' k)
    pub others : (j : ℕ) → j ≢ k → Stays j old new kept kept'

  -- What a walk over places of these files does, wherever it ends.
  pub record Walks (named : List ℕ) (old new : List (ScanFile O S)) (kept kept' : List KeptData) : Type 0 where
    pub count : length new ≡ length old
    pub even : length kept' ≡ length new
    -- what is kept of each file is what its opener gives
    pub are_kept : AreKept new kept'
    -- no source is touched, and each opener was polled no more than it put off an answer, and once
    pub source : (k : ℕ) (f : ScanFile O S) → (get_or new k f).source ≡ (get_or old k f).source
    pub name : (k : ℕ) (f : ScanFile O S) → (get_or new k f).source_id ≡ (get_or old k f).source_id
    pub polls : (k : ℕ) (f : ScanFile O S) → IsPolledThrough (opener (get_or old k f).opener) (opener (get_or new k f).opener)
    -- a file that no place names stays, and one that was open
    pub unnamed : (k : ℕ) → is_among named k ≡ false → Stays k old new kept kept'
    pub opened : (k : ℕ) → is_open (kept_at kept k) ≡ true → Stays k old new kept kept'

module _ {O S : Type 0} (opener : O → OpenerState) where
  -- why the file at a place in the list is not opened
  abbrev pub FailsAt : ℕ → List (ScanFile O S) → List (ScanFile O S) → PlaceFault → Type 0
  FailsAt k old new fault.NoMemory = Unit {0}
  FailsAt k old new (fault.Opener f) = (f ≡ k) × ((g : ScanFile O S) → OpenerFailed (opener (get_or old k g).opener) (opener (get_or new k g).opener))
  FailsAt k old new _ = ⊥

  -- the file at a place in the list is there, and this holds of what its opener gives, as far as it tells
  abbrev pub TellsAt : (Given → Type 0) → ℕ → List (ScanFile O S) → Type 0
  TellsAt P k files = (k < length files) × ((f : ScanFile O S) → IfSome (opener (get_or files k f).opener).gives P)

  module _ (e : Bound) where
    -- why there is no row at the place of a number
    abbrev pub FailsPlace : ℕ → Place → List (ScanFile O S) → List (ScanFile O S) → PlaceFault → Type 0
    FailsPlace number p old new fault.NoMemory = Unit {0}
    FailsPlace number p old new (fault.NoPlace n) = (n ≡ number) × ((length old ≤ p.file) ⊎ TellsAt (LacksRow e.scope p.row) p.file old)
    FailsPlace number p old new (fault.Opener f) = (f ≡ p.file) × (p.file < length old)
        × ((g : ScanFile O S) → OpenerFailed (opener (get_or old p.file g).opener) (opener (get_or new p.file g).opener))
    FailsPlace number p old new (fault.DTypeMismatch f) = (f ≡ p.file) × TellsAt (IsOther e.scope) p.file old
    FailsPlace number p old new (fault.Layout f x) = (f ≡ p.file) × TellsAt (IsIll e.scope x) p.file old

    -- there is no row at one of these places, and one at each before it, as far as openers tell
    pub record FailsPlaces (places : List Place) (old new : List (ScanFile O S)) (x : PlaceFault) : Type 0 where
      pub number : ℕ
      pub place : Place
      pub listed : slice_get places number ≡ Some place
      pub before : All (λ (p : Place). TellsAt (GivesRow e.scope p.row) p.file old) (take number places)
      pub cause : FailsPlace number place old new x
