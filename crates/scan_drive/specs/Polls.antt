-- How often the openers of files are polled, and how early.
use Rattle.std.specs.Prelude.{◌≡◌, ◌≤◌, ◌<◌, ◌+◌, ◌-◌, ◌⊎◌, ℕ, Bool, true, false, List, Option, length, slice_index_or}
use Rattle.scan_segments.specs.Faults.{Rose}
use Rattle.scan_drive.specs.Drivings.{GivesBefore}
use Rattle.scan_drive.specs.Files.{Told}
use Rattle.scan_drive.specs.Line.{GivesSome}
use Rattle.scan_drive.specs.Openers.{OpenerState, PolledOnce}
use Rattle.scan_drive.specs.Phases.{phase_at, is_unopened}
use Rattle.scan_drive.specs.declared.files.ScanFile.{ScanFile}
use Rattle.scan_drive.specs.declared.phase.Phase.{Phase}
use Rattle.scan_drive.specs.declared.phase.Phase.TheVariants as phase

module _ {O W I F : Type 0} (state : O → OpenerState I) where
  -- the opener of a file that is not open yet is polled once, and others rest
  abbrev pub IsPolledIn : Phase W F → O → O → Type 0
  IsPolledIn phase.Unopened old new = PolledOnce (state old) (state new)
  IsPolledIn (phase.Queued ws rows) old new = new ≡ old
  IsPolledIn (phase.Held f) old new = new ≡ old

-- An opener since the start of a scan, as it was then and as it is. It was polled as often as it put off its answer at most,
-- and once more where its file is open; such an opener was polled.
pub record StandsIn {W I F : Type 0} (p : Phase W F) (first now : OpenerState I) : Type 0 where
  pub grows : first.polled ≤ now.polled
  pub most : now.polled + now.turns + is_unopened p ≤ first.polled + first.turns + 1
  pub rose : is_unopened p ≡ 0 → Rose first.polled now.polled

module _ {O S : Type 0} where
  -- the openers before one file, and from another on, are as they were
  abbrev pub OpenersRest : ℕ → ℕ → List (ScanFile O S) → List (ScanFile O S) → Type 0
  OpenersRest first last old new = (k : ℕ) (f : ScanFile O S) → (k < first) ⊎ (last ≤ k) → (slice_index_or new k f).opener ≡ (slice_index_or old k f).opener

module _ {O S I : Type 0} (state : O → OpenerState I) where
  -- the opener at a place, as it is to the scan
  abbrev pub opener_at : List (ScanFile O S) → ℕ → ScanFile O S → OpenerState I
  opener_at files k f = state (slice_index_or files k f).opener

  -- the openers before one that was polled were polled too, as far as their counts can rise
  abbrev pub PollsFirst : List (ScanFile O S) → List (ScanFile O S) → Type 0
  PollsFirst start now =
      (i j : ℕ) (f : ScanFile O S) → i < j → j < length start → (opener_at start j f).polled < (opener_at now j f).polled
      → Rose (opener_at start i f).polled (opener_at now i f).polled

  -- the openers of so many files at the front were polled, as far as their counts can rise
  abbrev pub AllPolled : ℕ → List (ScanFile O S) → List (ScanFile O S) → Type 0
  AllPolled n start now = (k : ℕ) (f : ScanFile O S) → k < n → Rose (opener_at start k f).polled (opener_at now k f).polled

  -- the openers before that of an open file were polled, as far as their counts can rise
  abbrev pub OpensFirst : {W F : Type 0} → List (ScanFile O S) → List (ScanFile O S) → List (Phase W F) → Type 0
  OpensFirst start now phases =
      (i j : ℕ) (f : ScanFile O S) → i < j → j < length start → is_unopened (phase_at phases j) ≡ 0
      → Rose (opener_at start i f).polled (opener_at now i f).polled

  -- the openers of files since the start of a scan, by the phases of the files
  pub record PollsStand {W F : Type 0} (start now : List (ScanFile O S)) (phases : List (Phase W F)) : Type 0 where
    pub at : (k : ℕ) (f : ScanFile O S) → StandsIn (phase_at phases k) (opener_at start k f) (opener_at now k f)
    pub first : PollsFirst start now
    pub opened : OpensFirst start now phases

  -- no count of polls has fallen
  abbrev pub PollsGrow : List (ScanFile O S) → List (ScanFile O S) → Type 0
  PollsGrow old new = (k : ℕ) (f : ScanFile O S) → (opener_at old k f).polled ≤ (opener_at new k f).polled

  -- the same, whatever the phases are
  pub record PollsFit (start now : List (ScanFile O S)) : Type 0 where
    pub grows : (k : ℕ) (f : ScanFile O S) → (opener_at start k f).polled ≤ (opener_at now k f).polled
    pub most : (k : ℕ) (f : ScanFile O S)
        → (opener_at now k f).polled + (opener_at now k f).turns ≤ (opener_at start k f).polled
        + (opener_at start k f).turns + 1
    pub first : PollsFirst start now

module _ {I R : Type 0} (items : R → List I) where
  -- all rows of the files before this one, but for as many as there are workers, were given; in no order, those of so many
  -- of the files up to it
  abbrev pub GivesUpTo : Bool → ℕ → Option ℕ → List (Told I) → ℕ → Type 0
  GivesUpTo true workers limit tale k = GivesBefore items true limit tale (k + 1 - workers)
  GivesUpTo false workers limit tale k = GivesSome items limit tale k (k + 1 - workers)

module _ {O S I R : Type 0} (state : O → OpenerState I) (items : R → List I) where
  -- an opener was polled only once this was so of its file
  abbrev pub ArePolledLate : Bool → ℕ → Option ℕ → List (Told I) → List (ScanFile O S) → List (ScanFile O S) → Type 0
  ArePolledLate ordered workers limit tale start now =
      (k : ℕ) (f : ScanFile O S) → (opener_at state start k f).polled < (opener_at state now k f).polled
      → GivesUpTo items ordered workers limit tale k

  -- what polls of openers keep since any start: how often they were polled, and under a premise how early
  pub record PollsOn {W F : Type 0} (ordered : Bool) (workers : ℕ) (limit : Option ℕ) (tale : List (Told I)) (If : Type 0)
      (phases : List (Phase W F)) (old new : List (ScanFile O S)) : Type 0 where
    pub grows : PollsGrow state old new
    pub fit : (start : List (ScanFile O S)) → PollsStand state start old phases → PollsFit state start new
    pub late : If → (start : List (ScanFile O S)) → ArePolledLate ordered workers limit tale start old
        → ArePolledLate ordered workers limit tale start new
