-- How the state of a drive stands for its answer, and what its steps keep.
use Rattle.std.specs.Prelude.{◌≡◌, ◌<◌, ◌≤◌, ◌+◌, ◌++◌, ◌⊎◌, ℕ, true, false, List, [], ◌∷◌, length, slice_index_or}
use Rattle.scan_values.specs.Selections.{is_among}
use Rattle.scan_segments.specs.Source.{SourceState, Store}
use Rattle.scan_splits.specs.Arrivals.{Arrivals}
use Rattle.scan_drive.specs.Actives.{Seated, AllOk, groups_left}
use Rattle.scan_drive.specs.Asks.{IsWantedBy}
use Rattle.scan_drive.specs.Budgets.{IsBudget}
use Rattle.scan_drive.specs.Chunks.{given, HasRoom}
use Rattle.scan_drive.specs.Drives.{FilesWithin}
use Rattle.scan_drive.specs.Files.{Told, told_at, AllTell, answer}
use Rattle.scan_drive.specs.Grants.{AreSame}
use Rattle.scan_drive.specs.Looks.{WaitsForAll}
use Rattle.scan_drive.specs.Measures.{IsNearer}
use Rattle.scan_drive.specs.Moves.{IsNamed, tells}
use Rattle.scan_drive.specs.Openers.{OpenerState}
use Rattle.scan_drive.specs.Phases.{phase_at, SpentBelow, PhasesOk, rest}
use Rattle.scan_drive.specs.Order.{Rises}
use Rattle.scan_drive.specs.Slots.{slot_at, is_fresh, is_reading}
use Rattle.scan_drive.specs.Splits.{SplitState, Event}
use Rattle.scan_drive.specs.Trades.{CacheAgrees}
use Rattle.scan_drive.specs.Turns.{Filled, IsTally, IsTooMany, seats_steps}
use Rattle.scan_drive.specs.Wants.{Cache}
use Rattle.scan_drive.specs.declared.active.Active.{Active}
use Rattle.scan_drive.specs.declared.files.ScanFile.{ScanFile}
use Rattle.scan_drive.specs.declared.phase.Phase.{Phase}
use Rattle.scan_drive.specs.declared.phase.Phase.TheVariants as phase
use Rattle.scan_drive.specs.declared.phase.Tally.{Tally}
use Rattle.scan_drive.specs.declared.round.Drive.{Drive}
use Rattle.scan_drive.specs.declared.slot.Slot.{Slot}

module _ {W R : Type 0} where
  -- the active splits stand in their slots, and each is of one of so many files
  pub record IsReady (n : ℕ) (a : Active W R) : Type 0 where
    pub seated : Seated a
    pub filled : Filled a
    pub within : FilesWithin n a.slots.items

  -- the splits at these places wait for other segments, for which nobody waits yet
  pub record AreAsking (asking : List ℕ) (slots : List (Slot W R)) : Type 0 where
    pub settled : (place : ℕ) → is_fresh (slot_at slots place).stage ≡ false
    pub waiting : (place : ℕ) → is_among asking place ≡ true → WaitsForAll (slot_at slots place)

  -- it is the file of the split whose turn it is
  pub record IsFrontFile (turns : List ℕ) (slots : List (Slot W R)) (k : ℕ) : Type 0 where
    pub place : ℕ
    pub later : List ℕ
    pub turns_are : turns ≡ place ∷ later
    pub file_is : (slot_at slots place).file ≡ k

module _ {W R F : Type 0} where
  -- the state of a drive over so many files, whatever is told of them
  pub record Stands (n : ℕ) (d : Drive W R F) : Type 0 where
    pub lens : length d.phases.items ≡ n
    pub first : d.first ≤ n
    pub below : SpentBelow d.phases.items d.first
    pub ready : IsReady n d.active
    pub room : HasRoom d.left
    pub budget : IsBudget d.ordered d.left d.budget

module _ {W F : Type 0} where
  -- the splits of the first file that has some left never become active
  abbrev pub IsEnd : ℕ → Tally → List (Phase W F) → Type 0
  IsEnd first tally ps = (length ps ≤ first) ⊎ (((why : F) × (phase_at ps first ≡ phase.Held why)) ⊎ IsTooMany first tally (phase_at ps first))

module _ {W I R F : Type 0} (split : W → SplitState I) (comes : W → Arrivals → Store → Event → Type 0) (items : R → List I) where
  -- what was given, what the active splits have to give and what is left of the files are the answer, in order or in none
  pub record Sound (tale : List (Told I)) (d : Drive W R F) : Type 0 where
    pub phases : PhasesOk split comes tale d.phases.items
    pub ok : AllOk split comes items tale d.active
    pub tally : IsTally tale d.tally
    pub sums : AllTell tale → AreSame d.ordered
        (given items d.chunks.items ++ (groups_left split comes items tale d.active ++ rest split comes tale d.phases.items))
        (answer tale)

module _ {W I R : Type 0} where
  -- what the splits at these places want now their files name
  abbrev pub AskNamed : List (Told I) → List ℕ → List (Slot W R) → Type 0
  AskNamed tale asking slots = (k id : ℕ) → IsWantedBy asking slots k id → IsNamed (told_at tale k) id

module _ {O S I : Type 0} (state : O → OpenerState I) (source : S → SourceState) where
  -- each opener and each source tells, files of one name have one store, and the cache tells, and keeps what these have
  pub record IsLawful (files : List (ScanFile O S)) (c : Cache) : Type 0 where
    pub tell : AllTell (tells state source files)
    pub cache : CacheAgrees source files c

  -- how often openers and sources can still put off an answer
  abbrev pub files_turns : List (ScanFile O S) → ℕ
  files_turns [] = 0
  files_turns (f ∷ fs) = (state f.opener).turns + (source f.source).turns + files_turns fs

module _ {O S W I R F : Type 0} (state : O → OpenerState I) (source : S → SourceState) (split : W → SplitState I) where
  -- how much is left to be done at most, while no opener answers
  abbrev pub steps_left : List (ScanFile O S) → Drive W R F → ℕ
  steps_left files d = files_turns state source files + seats_steps split d.first d.active d.phases.items

module _ {O S W I R : Type 0} (source : S → SourceState) (split : W → SplitState I) where
  -- the split at a place is nearer to its end, or the source of its file has put off an answer
  abbrev pub ServesFront : ℕ → List (ScanFile O S) → List (ScanFile O S) → List (Slot W R) → List (Slot W R) → Type 0
  ServesFront place files files' old new =
      IsNearer split (slot_at old place) (slot_at new place)
      ⊎ ((f : ScanFile O S) → (source (slice_index_or files' (slot_at old place).file f).source).turns
      < (source (slice_index_or files (slot_at old place).file f).source).turns)

  -- where the active splits are in the order of their files up to one, this is so of each that is read
  abbrev pub ServesAll : List ℕ → ℕ → List (ScanFile O S) → List (ScanFile O S) → List (Slot W R) → List (Slot W R) → Type 0
  ServesAll turns first files files' old new =
      Rises 0 first turns old → (place : ℕ) → is_among turns place ≡ true → is_reading (slot_at old place).stage ≡ true
      → ServesFront place files files' old new
