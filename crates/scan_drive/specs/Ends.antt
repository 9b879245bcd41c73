-- How a drive ends.
use Rattle.std.specs.Prelude.{Bool, true, false, ◌≡◌, ◌≢◌, ◌<◌, ◌≤◌, ◌⊎◌, ℕ, List, [], Option, length}
use Rattle.scan_segments.specs.Source.{Store}
use Rattle.scan_splits.specs.Arrivals.{Arrivals}
use Rattle.scan_splits.specs.Wanted.{no_repeats}
use Rattle.scan_drive.specs.Actives.{AllOk}
use Rattle.scan_drive.specs.Asks.{EachLinkedBut}
use Rattle.scan_drive.specs.Desks.{Waiters}
use Rattle.scan_drive.specs.Drives.{EachLinked}
use Rattle.scan_drive.specs.Losses.{HaltsStay}
use Rattle.scan_drive.specs.Measures.{slots_steps}
use Rattle.scan_drive.specs.Chunks.{HasRoom, given, limit_of, IsCause, KeepsFiles}
use Rattle.scan_drive.specs.Files.{Told, count}
use Rattle.scan_drive.specs.Order.{KeepsOrder}
use Rattle.scan_drive.specs.Phases.{phase_at}
use Rattle.scan_drive.specs.Rounds.{Stands, Sound, AreAsking, AskNamed, IsEnd}
use Rattle.scan_drive.specs.Splits.{SplitState, Event}
use Rattle.scan_drive.specs.Turns.{TurnsWait, IsTooMany}
use Rattle.scan_drive.specs.declared.phase.Phase.{Phase}
use Rattle.scan_drive.specs.declared.phase.Phase.TheVariants as phase
use Rattle.scan_drive.specs.declared.phase.Tally.{Tally}
use Rattle.scan_drive.specs.declared.round.Drive.{Drive}
use Rattle.scan_drive.specs.declared.settling.End.{End}
use Rattle.scan_drive.specs.declared.settling.End.TheVariants as end
use Rattle.scan_drive.specs.declared.delivery.DriveFault.TheVariants as fault
use Rattle.scan_drive.specs.declared.settling.RoundFault.{RoundFault}
use Rattle.scan_drive.specs.declared.settling.RoundFault.TheVariants as why

module _ {W F : Type 0} where
  -- why one file is not read is taken, and the others are as before
  pub record Forgets (file : ℕ) (old new : List (Phase W F)) : Type 0 where
    pub len : length new ≡ length old
    pub here : phase_at new file ≡ phase.Unopened
    pub others : (k : ℕ) → k ≢ file → phase_at new k ≡ phase_at old k

  -- what there is where no split is active
  abbrev pub EndIs : ℕ → Tally → List (Phase W F) → List (Phase W F) → End F → Type 0
  EndIs first tally old new end.Done = (new ≡ old) × (length old ≤ first)
  EndIs first tally old new end.TooMany = (new ≡ old) × IsTooMany first tally (phase_at old first)
  EndIs first tally old new (end.Refused f) = (phase_at old first ≡ phase.Held f) × Forgets first old new
  EndIs first tally old new end.Open = (new ≡ old) × (IsEnd first tally old → ⊥)

  -- where a file is not read, this is why
  abbrev pub IsHeldIn : List (Phase W F) → RoundFault F → Type 0
  IsHeldIn ps (why.Split e) = Unit {0}
  IsHeldIn ps (why.TooManyRows file) = Unit {0}
  IsHeldIn ps (why.Refused file f) = phase_at ps file ≡ phase.Held f

module _ {F : Type 0} where
  -- whether what a round has given is known where it ends with this fault: that it is a front of what may be given
  abbrev pub gives_first : Bool → RoundFault F → Bool
  gives_first ordered (why.Split fault.NoMemory) = false
  gives_first ordered (why.Split (fault.Source file id)) = ordered
  gives_first ordered (why.Split (fault.Corrupt file id)) = ordered
  gives_first ordered (why.Split (fault.Overflow file)) = ordered
  gives_first ordered (why.TooManyRows file) = true
  gives_first ordered (why.Refused file f) = true

module _ {W I R F : Type 0} (split : W → SplitState I) (comes : W → Arrivals → Store → Event → Type 0) (items : R → List I) where
  -- how many rows may be given in all
  abbrev pub limit_in : Drive W R F → Option ℕ
  limit_in d = limit_of (count (given items d.chunks.items)) d.left

  -- all that stands before the fault was given, and more rows might be
  abbrev pub StopsAt : List (Told I) → Drive W R F → Drive W R F → Type 0
  StopsAt tale old new = Sound split comes items tale new × HasRoom new.left × (limit_in new ≡ limit_in old)

  -- why a drive ends without all rows: a split was given up for a cause, or all is given before a file that is not read
  abbrev pub Stops : List (Told I) → Drive W R F → Drive W R F → RoundFault F → Type 0
  Stops tale old new (why.Split e) = IsCause tale e
  Stops tale old new (why.TooManyRows file) = StopsAt tale old new × (new.active.turns.items ≡ [])
      × (file ≡ new.first) × IsTooMany file new.tally (phase_at new.phases.items file)
  Stops tale old new (why.Refused file f) = StopsAt tale old new × (new.active.turns.items ≡ []) × (file ≡ new.first)
      × (phase_at old.phases.items file ≡ phase.Held f)

  -- splits were polled and their rows given: these places wait for other segments now
  pub record Settles (asking : List ℕ) (old new : Drive W R F) : Type 0 where
    pub phases : new.phases.items ≡ old.phases.items
    pub first : new.first ≡ old.first
    pub tally : new.tally ≡ old.tally
    pub report : new.report ≡ old.report
    pub ordered : new.ordered ≡ old.ordered
    pub files : KeepsFiles old.active.slots.items old.chunks.items new.chunks.items
    pub stands : (n : ℕ) → Stands n old → Stands n new
    pub halts : HaltsStay old.active.slots.items new.active.slots.items
    pub asks : AreAsking asking new.active.slots.items
    pub once : no_repeats asking ≡ true
    pub links : (desks : List Waiters) → EachLinked desks old.active.slots.items → EachLinkedBut asking desks new.active.slots.items
    pub named : (tale : List (Told I)) → AllOk split comes items tale old.active → AskNamed tale asking new.active.slots.items
    pub sound : (tale : List (Told I)) → Sound split comes items tale old → Sound split comes items tale new
    pub limit : limit_in new ≡ limit_in old
    pub order : KeepsOrder old.active new.active
    pub waits : TurnsWait new.active
    pub goes : new.active.turns.items ≡ [] → IsEnd new.first new.tally new.phases.items → ⊥
    pub steps : (slots_steps split new.active.slots.items < slots_steps split old.active.slots.items)
        ⊎ ((slots_steps split new.active.slots.items ≤ slots_steps split old.active.slots.items)
        × (new.active.turns.items ≡ old.active.turns.items))
