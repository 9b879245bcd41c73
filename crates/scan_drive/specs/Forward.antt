-- Files in the order in which they open: places of a drive that are exchanged.
use Rattle.std.specs.Prelude.{◌≡◌, ◌<◌, ◌≤◌, ◌+◌, ◌-◌, ◌++◌, ℕ, Bool, true, List, [], ◌∷◌, Option, length}
use Rattle.std.specs.List.{swap}
use Rattle.std.specs.List.Sorted.{SwapsInRange}
use Rattle.scan_drive.specs.Desks.{Waiters}
use Rattle.scan_drive.specs.Line.{exchanged, placed_by, GivesSome}
use Rattle.scan_drive.specs.Moves.{tells}
use Rattle.scan_drive.specs.Openers.{OpenerState}
use Rattle.scan_drive.specs.Phases.{phase_at, is_unopened}
use Rattle.scan_drive.specs.Polls.{opener_at, AllPolled, PollsFit, ArePolledLate}
use Rattle.scan_drive.specs.Rounds.{IsLawful}
use Rattle.scan_drive.specs.Wants.{Cache}
use Rattle.scan_drive.specs.Windows.{FreesPlaces}
use Rattle.scan_segments.specs.Source.{SourceState}
use Rattle.scan_drive.specs.declared.delivery.DriveFault.{DriveFault}
use Rattle.scan_drive.specs.declared.delivery.DriveFault.TheVariants as fault
use Rattle.scan_drive.specs.declared.files.ScanFile.{ScanFile}
use Rattle.scan_drive.specs.declared.phase.Phase.{Phase}
use Rattle.scan_drive.specs.declared.phase.Phase.TheVariants as phase
use Rattle.scan_drive.specs.declared.round.Drive.{Drive}
use Rattle.scan_drive.specs.declared.settling.RoundFault.{RoundFault}
use Rattle.scan_drive.specs.declared.settling.RoundFault.TheVariants as why

module _ {W F : Type 0} where
  -- these places may be exchanged: the file at the first is not open yet, and that at the second is
  pub record Spare (i j : ℕ) (ps : List (Phase W F)) : Type 0 where
    pub apart : i < j
    pub within : j < length ps
    pub shut : phase_at ps i ≡ phase.Unopened
    pub opened : is_unopened (phase_at ps j) ≡ 0

  -- one after the other may be
  abbrev pub AreSpare : List (ℕ × ℕ) → List (Phase W F) → Type 0
  AreSpare [] ps = Unit {0}
  AreSpare (s ∷ ss) ps = Spare s.0 s.1 ps × AreSpare ss (swap ps s.0 s.1)

module _ {W R F : Type 0} where
  -- a drive with the phases of other places
  pub record Rephased (phases : List (Phase W F)) (old new : Drive W R F) : Type 0 where
    pub phases_are : new.phases.items ≡ phases
    pub active : new.active ≡ old.active
    pub chunks : new.chunks ≡ old.chunks
    pub first : new.first ≡ old.first
    pub tally : new.tally ≡ old.tally
    pub left : new.left ≡ old.left
    pub report : new.report ≡ old.report
    pub ordered : new.ordered ≡ old.ordered
    pub budget : new.budget ≡ old.budget
    pub unclaimed : new.unclaimed ≡ old.unclaimed

  -- Files that are open were brought before those that are not, up to a place: the places that were exchanged stand in the log.
  pub record BringsForward {O S : Type 0} (last : ℕ) (log log' : List (ℕ × ℕ)) (files files' : List (ScanFile O S))
      (desks desks' : List Waiters) (old new : Drive W R F) : Type 0 where
    pub places : List (ℕ × ℕ)
    pub log_is : log' ≡ log ++ places
    pub files_are : files' ≡ exchanged places files
    pub desks_are : desks' ≡ exchanged places desks
    pub rephased : Rephased (exchanged places old.phases.items) old new
    pub spare : AreSpare places old.phases.items
    pub within : SwapsInRange last places
    pub none : places ≡ [] → new ≡ old

  -- the same, among the files whose openers are polled
  pub record KeepsLine {O S : Type 0} (workers : ℕ) (log log' : List (ℕ × ℕ)) (files files' : List (ScanFile O S))
      (desks desks' : List Waiters) (old new : Drive W R F) : Type 0 where
    pub last : ℕ
    pub frees : 0 < last → FreesPlaces workers old.active.turns.items old.active.slots.items old.first last × (old.first < last)
    pub there : last ≤ length files
    pub brings : BringsForward last log log' files files' desks desks' old new

-- a fault of a split of the file at a place, by the file
abbrev pub split_fault_in : (ℕ → ℕ) → DriveFault → DriveFault
split_fault_in f fault.NoMemory = fault.NoMemory
split_fault_in f (fault.Source k id) = fault.Source (f k) id
split_fault_in f (fault.Corrupt k id) = fault.Corrupt (f k) id
split_fault_in f (fault.Overflow k) = fault.Overflow (f k)

module _ {F : Type 0} where
  -- a fault of the file at a place, by the file
  abbrev pub fault_in : (ℕ → ℕ) → RoundFault F → RoundFault F
  fault_in f (why.Split e) = why.Split (split_fault_in f e)
  fault_in f (why.TooManyRows k) = why.TooManyRows (f k)
  fault_in f (why.Refused k e) = why.Refused (f k) e

module _ {O S I : Type 0} (state : O → OpenerState I) where
  -- the places that were exchanged lie among so many at the front, the openers of which were polled
  pub record LineEdge (log : List (ℕ × ℕ)) (start now : List (ScanFile O S)) : Type 0 where
    pub edge : ℕ
    pub within : SwapsInRange edge log
    pub polled : AllPolled state edge start now

module _ {O S R I : Type 0} (state : O → OpenerState I) (source : S → SourceState) (items : R → List I) where
  -- over lawful objects, as many of the files up to one whose opener was polled had been given as that one may wait for
  abbrev pub LineGives : ℕ → Option ℕ → Cache → List (ScanFile O S) → List (ℕ × ℕ) → List (ScanFile O S) → Type 0
  LineGives workers limit c files log now =
      IsLawful state source files c → (k : ℕ) (f : ScanFile O S) → (opener_at state (exchanged log files) k f).polled < (opener_at state now k f).polled
      → GivesSome items limit (tells state source files) (placed_by log k) (placed_by log k + 1 - workers)

  -- how often openers were polled, and how early, where files stand at other places
  pub record LinePolls (ordered : Bool) (workers : ℕ) (limit : Option ℕ) (c : Cache) (files : List (ScanFile O S))
      (log : List (ℕ × ℕ)) (now : List (ScanFile O S)) : Type 0 where
    pub fit : PollsFit state (exchanged log files) now
    pub late : ordered ≡ true → IsLawful state source files c → ArePolledLate state items true workers limit (tells state source files) files now
    pub line : LineEdge state log (exchanged log files) now
    pub gives : LineGives workers limit c files log now
