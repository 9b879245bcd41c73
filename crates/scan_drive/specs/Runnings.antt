-- What a round keeps, and how it ends.
use Rattle.std.specs.Prelude.{◌≡◌, ◌<◌, ◌≤◌, ◌+◌, ℕ, List, [], Option, length}
use Rattle.scan_segments.specs.Source.{SourceState, Store}
use Rattle.scan_splits.specs.Arrivals.{Arrivals}
use Rattle.scan_drive.specs.Actives.{Seated}
use Rattle.scan_drive.specs.Before.{InOrder}
use Rattle.scan_drive.specs.Budgets.{IsBudget}
use Rattle.scan_drive.specs.Chunks.{given}
use Rattle.scan_drive.specs.Desks.{Waiters}
use Rattle.scan_drive.specs.Drives.{EachLinked}
use Rattle.scan_drive.specs.Ends.{IsHeldIn, Stops, limit_in}
use Rattle.scan_drive.specs.Files.{AllTell, answer}
use Rattle.scan_drive.specs.Grants.{AreGiven}
use Rattle.scan_drive.specs.Moves.{HoldsWhy, tells}
use Rattle.scan_drive.specs.Openers.{OpenerState}
use Rattle.scan_drive.specs.Phases.{phase_at, unopened}
use Rattle.scan_drive.specs.Polls.{PollsStand}
use Rattle.scan_drive.specs.Rounds.{Stands, Sound, steps_left}
use Rattle.scan_drive.specs.Splits.{SplitState, Event}
use Rattle.scan_drive.specs.Trades.{CacheAgrees}
use Rattle.scan_drive.specs.Traffic.{capped_report}
use Rattle.scan_drive.specs.Wants.{Cache}
use Rattle.scan_drive.specs.declared.files.ScanFile.{ScanFile}
use Rattle.scan_drive.specs.declared.phase.Phase.TheVariants as phase
use Rattle.scan_drive.specs.declared.round.Drive.{Drive}
use Rattle.scan_drive.specs.declared.rounds.Round.{Round}
use Rattle.scan_drive.specs.declared.rounds.Round.TheVariants as round
use Rattle.scan_drive.specs.declared.settling.RoundFault.{RoundFault}

module _ {W R F : Type 0} where
  -- nothing is opened and nothing is given
  pub record Starts (n : ℕ) (limit : Option ℕ) (d : Drive W R F) : Type 0 where
    pub lens : length d.phases.items ≡ n
    pub shut : (k : ℕ) → phase_at d.phases.items k ≡ phase.Unopened
    pub first : d.first ≡ 0
    pub seated : Seated d.active
    pub turns : d.active.turns.items ≡ []
    pub chunks : d.chunks.items ≡ []
    pub tally : (d.tally.files ≡ 0) × (d.tally.rows ≡ 0)
    pub left : d.left ≡ limit
    pub report : d.report ≡ capped_report 0 0 0
    pub budget : IsBudget d.ordered limit d.budget

module _ {O S W I R F : Type 0} (state : O → OpenerState I) (polls : O → O → Type 0) (refuses : O → O → F → Type 0)
    (source : S → SourceState) (split : W → SplitState I) (comes : W → Arrivals → Store → Event → Type 0)
    (items : R → List I) where
  -- a drive after a round: so many openers have answered, and it is as sound as it was where the cache agrees with the files
  pub record GoesOn (answered : ℕ) (files files' : List (ScanFile O S)) (desks : List Waiters) (c : Cache) (old new : Drive W R F) : Type 0 where
    pub stands : Stands (length files) new
    pub links : EachLinked desks new.active.slots.items
    pub limit : limit_in split comes items new ≡ limit_in split comes items old
    pub opened : unopened new.phases.items + answered ≤ unopened old.phases.items
    pub why : HoldsWhy state polls refuses files files' old.phases.items new.phases.items
    pub sound : CacheAgrees source files c → Sound split comes items (tells state source files) old → Sound split comes items (tells state source files) new
    pub order : InOrder old → InOrder new
    pub ordered : new.ordered ≡ old.ordered
    pub polled : (start : List (ScanFile O S)) → PollsStand state start files old.phases.items → PollsStand state start files' new.phases.items

  -- what a round has come to
  abbrev pub RoundIs : Round → List (ScanFile O S) → List (ScanFile O S) → List Waiters → Cache → Drive W R F → Drive W R F → Type 0
  RoundIs round.More files files' desks c old new = GoesOn 0 files files' desks c old new
      × (steps_left state source split files' new < steps_left state source split files old)
  RoundIs round.Opened files files' desks c old new = GoesOn 1 files files' desks c old new
  RoundIs round.Done files files' desks c old new =
      AllTell (tells state source files) → Sound split comes items (tells state source files) old
      → AreGiven old.ordered (limit_in split comes items old) (answer (tells state source files)) (given items new.chunks.items)

  -- why a round ends without all rows: so it was once openers were polled and splits had become active
  pub record StopsIn (files files' : List (ScanFile O S)) (old new : Drive W R F) (e : RoundFault F) : Type 0 where
    pub mid : Drive W R F
    pub limit : limit_in split comes items mid ≡ limit_in split comes items old
    pub why : HoldsWhy state polls refuses files files' old.phases.items mid.phases.items
    pub held : IsHeldIn mid.phases.items e
    pub sound : Sound split comes items (tells state source files) old → Sound split comes items (tells state source files) mid
    pub stops : Sound split comes items (tells state source files) old → Stops split comes items (tells state source files) mid new e

  -- what rounds have come to, where the cache agreed with the files at first
  abbrev pub RunIs : Round → List (ScanFile O S) → List (ScanFile O S) → List Waiters → Cache → Drive W R F → Drive W R F → Type 0
  RunIs round.More files files' desks c old new = ⊥
  RunIs round.Opened files files' desks c old new = GoesOn 1 files files' desks c old new
  RunIs round.Done files files' desks c old new =
      CacheAgrees source files c → AllTell (tells state source files) → Sound split comes items (tells state source files) old
      → AreGiven old.ordered (limit_in split comes items old) (answer (tells state source files)) (given items new.chunks.items)

  -- why rounds end without all rows, where the cache agreed with the files at first
  pub record StopsRun (files files' : List (ScanFile O S)) (c : Cache) (old new : Drive W R F) (e : RoundFault F) : Type 0 where
    pub mid : Drive W R F
    pub limit : limit_in split comes items mid ≡ limit_in split comes items old
    pub why : HoldsWhy state polls refuses files files' old.phases.items mid.phases.items
    pub held : IsHeldIn mid.phases.items e
    pub sound : CacheAgrees source files c → Sound split comes items (tells state source files) old → Sound split comes items (tells state source files) mid
    pub stops : CacheAgrees source files c → Sound split comes items (tells state source files) old
        → Stops split comes items (tells state source files) mid new e
