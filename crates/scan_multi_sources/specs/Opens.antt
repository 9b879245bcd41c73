-- What comes of a file that is asked for its layout.
use Rattle.std.specs.Prelude.{◌≡◌, ◌≤◌, ◌<◌, ℕ, List, Option, Some, None}
use Rattle.std.specs.List.{slice_get, slice_set}
use Rattle.scan_layout.specs.Layout.{Layout}
use Rattle.scan_segments.specs.Faults.{Rose}
use Rattle.scan_opener.specs.Opener.{OpenerState, IsPolledOpen}
use Rattle.scan_opener.specs.declared.opener.Opening.{Opening}
use Rattle.scan_opener.specs.declared.opener.Opening.TheVariants as opening
use Rattle.scan_multi_sources.specs.Children.{ChildData, opened, deferred}

-- there is no answer yet, or no memory; the file is skipped; its layout; or its opener failed
pub data Found : Type 0 where
  waits : Found
  short : Found
  skipped : Found
  found : Layout → Found
  fails : Found

-- what an answer of an opener comes to
abbrev pub found_of : Opening → Found
found_of opening.Pending = waits
found_of (opening.Opened l) = found l.value
found_of opening.Skipped = skipped
found_of opening.Failed = fails
found_of opening.NoMemory = short

-- a layout is given, unless memory is short
abbrev pub GivesLayout : Layout → Found → Type 0
GivesLayout l waits = ⊥
GivesLayout l short = Unit {0}
GivesLayout l skipped = ⊥
GivesLayout l (found m) = m ≡ l
GivesLayout l fails = ⊥

module _ {O : Type 0} (opener : O → OpenerState) where
  -- the opener of a file is polled once; a file that is opened gives its layout
  abbrev pub AsksChild : ChildData O → ChildData O → Opening → Type 0
  AsksChild (opened l n) new r = (new ≡ opened l n) × GivesLayout l (found_of r)
  AsksChild (deferred o n) new r = (p : O) × (new ≡ deferred p n) × IsPolledOpen (opener o) (opener p) r

  -- of files the one at a place is asked, where there is one; else none is left
  abbrev pub AsksFile : Option (ChildData O) → List (ChildData O) → List (ChildData O) → ℕ → Opening → Type 0
  AsksFile None old new k r = (new ≡ old) × (r ≡ opening.Skipped)
  AsksFile (Some c) old new k r = (d : ChildData O) × (new ≡ slice_set old k d) × AsksChild c d r

  -- the file at a place is asked
  abbrev pub Asks : List (ChildData O) → List (ChildData O) → ℕ → Opening → Type 0
  Asks old new k r = AsksFile (slice_get old k) old new k r

  -- how often the opener of a file can still put off an answer, and how often it failed
  abbrev pub turns_of : Option (ChildData O) → ℕ
  turns_of None = 0
  turns_of (Some (opened l n)) = 0
  turns_of (Some (deferred o n)) = (opener o).turns

  -- how often its opener failed
  abbrev pub faults_of : Option (ChildData O) → ℕ
  faults_of None = 0
  faults_of (Some (opened l n)) = 0
  faults_of (Some (deferred o n)) = (opener o).faults

  -- the turns of the opener at a place
  abbrev pub turns_at : List (ChildData O) → ℕ → ℕ
  turns_at cs k = turns_of (slice_get cs k)

  -- its count of faults
  abbrev pub faults_at : List (ChildData O) → ℕ → ℕ
  faults_at cs k = faults_of (slice_get cs k)

  -- no opener's turns rose, and no count of faults fell
  pub record Moves (old new : List (ChildData O)) : Type 0 where
    pub turns : (k : ℕ) → turns_at new k ≤ turns_at old k
    pub faults : (k : ℕ) → faults_at old k ≤ faults_at new k

  -- some opener's turns fell
  abbrev pub Waited : List (ChildData O) → List (ChildData O) → Type 0
  Waited old new = (k : ℕ) × (turns_at new k < turns_at old k)

  -- the count of faults of the opener of a file rose
  abbrev pub Failed : List (ChildData O) → List (ChildData O) → ℕ → Type 0
  Failed old new k = Rose (faults_at old k) (faults_at new k)
