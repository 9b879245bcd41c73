-- The desks of files, and what a round does to the files' sources.
use Rattle.std.specs.Prelude.{◌≡◌, ◌<◌, ℕ, true, List, [], Some, length, slice_index_or}
use Rattle.scan_segments.specs.Source.{SourceState, Store, none_live}
use Rattle.scan_splits.specs.Arrivals.{Arrivals}
use Rattle.scan_drive.specs.Desks.{Waiters, Agree}
use Rattle.scan_drive.specs.Files.{Part}
use Rattle.scan_drive.specs.Fetches.{BringsNearer}
use Rattle.scan_drive.specs.Links.{Linked}
use Rattle.scan_drive.specs.Measures.{is_there}
use Rattle.scan_drive.specs.Slots.{slot_at, SlotKeeps}
use Rattle.scan_drive.specs.Sources.{SourceMoves}
use Rattle.scan_drive.specs.Splits.{SplitState, Event}
use Rattle.scan_drive.specs.declared.files.ScanFile.{ScanFile}
use Rattle.scan_drive.specs.declared.slot.Slot.{Slot}

-- the desk of a file
abbrev pub desk_at : List Waiters → ℕ → Waiters
desk_at desks k = slice_index_or desks k []

module _ {W R : Type 0} where
  -- the splits of each file wait at its desk
  abbrev pub EachLinked : List Waiters → List (Slot W R) → Type 0
  EachLinked desks slots = (k : ℕ) → k < length desks → Linked k (desk_at desks k) slots

  -- each split is of one of so many files
  abbrev pub FilesWithin : ℕ → List (Slot W R) → Type 0
  FilesWithin n slots = (place : ℕ) → is_there (slot_at slots place).stage ≡ true → (slot_at slots place).file < n

module _ {O S : Type 0} (source : S → SourceState) where
  -- the live requests of each file's source are those of its desk
  pub record DesksAgree (files : List (ScanFile O S)) (desks : List Waiters) : Type 0 where
    pub len : length desks ≡ length files
    pub at : (k : ℕ) (f : ScanFile O S) → k < length files → Agree (source (slice_index_or files k f).source).live (desk_at desks k)

  -- no request is live
  abbrev pub IsIdle : ScanFile O S → Type 0
  IsIdle f = (source f.source).live ≡ none_live

  -- each source was asked only for what it may be, and nothing else of the files has changed
  pub record SourcesMove (May : ℕ → ℕ → Type 0) (old new : List (ScanFile O S)) : Type 0 where
    pub len : length new ≡ length old
    pub opener : (k : ℕ) (f : ScanFile O S) → (slice_index_or new k f).opener ≡ (slice_index_or old k f).opener
    pub name : (k : ℕ) (f : ScanFile O S) → (slice_index_or new k f).source_id ≡ (slice_index_or old k f).source_id
    pub moves : (k : ℕ) (f : ScanFile O S) → SourceMoves (May k) (source (slice_index_or old k f).source) (source (slice_index_or new k f).source)

-- nothing may be asked of any file
abbrev pub NoneOf : ℕ → ℕ → Type 0
NoneOf k id = ⊥

module _ {O S W I R : Type 0} (source : S → SourceState) (split : W → SplitState I) (comes : W → Arrivals → Store → Event → Type 0) (items : R → List I) where
  -- slots after a step keep the rows of their splits, as far as the stores of their files are told
  abbrev pub SlotsKeep : List (ScanFile O S) → List (Slot W R) → List (Slot W R) → Type 0
  SlotsKeep files old new =
      (f : ScanFile O S) (p : Part I) (store : Store) (place : ℕ) → (source (slice_index_or files (slot_at old place).file f).source).holds ≡ Some store
      → SlotKeeps split comes items p store (slot_at old place) (slot_at new place)

module _ {O S W I R : Type 0} (source : S → SourceState) (split : W → SplitState I) where
  -- the source of this file has put off an answer, or each split that waited for it is nearer to its end
  abbrev pub BringsFileNearer : ℕ → List (ScanFile O S) → List (ScanFile O S) → List Waiters → List (Slot W R) → List (Slot W R) → Type 0
  BringsFileNearer k files files' desks old new =
      (f : ScanFile O S) (id : ℕ) → BringsNearer split id (source (slice_index_or files k f).source)
      (source (slice_index_or files' k f).source) (desk_at desks k) old new
