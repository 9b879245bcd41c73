-- What a drive does to its files, and what they tell meanwhile.
use Rattle.std.specs.Prelude.{◌≡◌, ◌≤◌, ◌<◌, ◌⊎◌, ℕ, true, List, length, map, slice_index_or}
use Rattle.scan_segments.specs.Source.{SourceState, Store}
use Rattle.scan_splits.specs.Arrivals.{Arrivals}
use Rattle.scan_drive.specs.Files.{Told, told_at, AllTell, IfTold}
use Rattle.scan_drive.specs.Openers.{OpenerState, Opens, IsRefused}
use Rattle.scan_drive.specs.Phases.{phase_at, phase_left, PhasesOk}
use Rattle.scan_drive.specs.Sources.{SourceMoves}
use Rattle.scan_drive.specs.Splits.{SplitState, Event}
use Rattle.scan_drive.specs.declared.files.ScanFile.{ScanFile}
use Rattle.scan_drive.specs.declared.phase.Phase.{Phase}
use Rattle.scan_drive.specs.declared.phase.Phase.TheVariants as phase

-- where the file is told, it names the id
abbrev pub IsNamed : {I : Type 0} → Told I → ℕ → Type 0
IsNamed t id = IfTold t (λ p store. p.named store id ≡ true)

module _ {O S : Type 0} where
  -- the sources are as they were
  abbrev pub KeepsSources : List (ScanFile O S) → List (ScanFile O S) → Type 0
  KeepsSources old new = (k : ℕ) (f : ScanFile O S) → (slice_index_or new k f).source ≡ (slice_index_or old k f).source

module _ {O S I : Type 0} (state : O → OpenerState I) (source : S → SourceState) where
  -- what a file's opener and source tell
  abbrev pub tell : ScanFile O S → Told I
  tell f = record { part = (state f.opener).gives; store = (source f.source).holds }

  -- what those of each file tell
  abbrev pub tells : List (ScanFile O S) → List (Told I)
  tells files = map tell files

module _ {O S I : Type 0} (state : O → OpenerState I) (polls : O → O → Type 0) (source : S → SourceState) (If : Type 0) where
  -- a file after calls of its opener and its source, which under a premise was asked only for what the file names
  pub record FileMoves (old new : ScanFile O S) : Type 0 where
    pub opens : Opens state polls old.opener new.opener
    pub source_moves : SourceMoves (λ id. If → IsNamed (tell state source old) id) (source old.source) (source new.source)
    pub name : new.source_id ≡ old.source_id

  -- so is each file, and there are as many
  pub record EachMoves (old new : List (ScanFile O S)) : Type 0 where
    pub len : length new ≡ length old
    pub at : (k : ℕ) (f : ScanFile O S) → FileMoves (slice_index_or old k f) (slice_index_or new k f)

module _ {O S W F I : Type 0} (state : O → OpenerState I) (polls : O → O → Type 0) (refuses : O → O → F → Type 0) where
  -- a file that is not read was not before, or one of the polls of its opener said so
  abbrev pub HoldsWhy : List (ScanFile O S) → List (ScanFile O S) → List (Phase W F) → List (Phase W F) → Type 0
  HoldsWhy files files' old new =
      (k : ℕ) (why : F) → phase_at new k ≡ phase.Held why
      → (phase_at old k ≡ phase.Held why) ⊎ ((f : ScanFile O S)
      → IsRefused state polls refuses (slice_index_or files k f).opener (slice_index_or files' k f).opener why)

module _ {O S W F I : Type 0} (state : O → OpenerState I) where
  -- the openers of these files that have not answered have put it off
  abbrev pub AllWait : ℕ → ℕ → List (ScanFile O S) → List (ScanFile O S) → List (Phase W F) → Type 0
  AllWait first last files files' phases =
      (k : ℕ) → first ≤ k → k < last → phase_at phases k ≡ phase.Unopened
      → (f : ScanFile O S) → (state (slice_index_or files' k f).opener).turns < (state (slice_index_or files k f).opener).turns

module _ {W I F : Type 0} (split : W → SplitState I) (comes : W → Arrivals → Store → Event → Type 0) where
  -- each phase has the groups that it had
  abbrev pub KeepsRest : List (Told I) → List (Phase W F) → List (Phase W F) → Type 0
  KeepsRest tale old new = AllTell tale → (k : ℕ)
      → phase_left split comes k (told_at tale k) (phase_at new k) ≡ phase_left split comes k (told_at tale k)
      (phase_at old k)

  -- the splits of each phase stay as their file has them
  abbrev pub KeepsPhases : List (Told I) → List (Phase W F) → List (Phase W F) → Type 0
  KeepsPhases tale old new = PhasesOk split comes tale old → PhasesOk split comes tale new
