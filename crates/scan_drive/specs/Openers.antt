-- What an opener of a file is to a drive, and what a poll of it answers.
use Rattle.std.specs.Prelude.{◌≡◌, ◌≤◌, ◌<◌, ◌⊎◌, ℕ, Bool, true, false, List, [], ◌∷◌, All, map, Option, IfSome}
use Rattle.scan_segments.specs.Faults.{RaisedBy}
use Rattle.scan_segments.specs.Source.{Store}
use Rattle.scan_splits.specs.Arrivals.{Arrivals}
use Rattle.scan_drive.specs.Files.{Part, Told, Tells}
use Rattle.scan_drive.specs.Phases.{phase_left, PhaseOk, IsQueued}
use Rattle.scan_drive.specs.Runs.{new_run}
use Rattle.scan_drive.specs.Slots.{RunOk}
use Rattle.scan_drive.specs.Splits.{SplitState, Event}
use Rattle.scan_drive.specs.declared.opening.Opening.{Opening}
use Rattle.scan_drive.specs.declared.opening.Opening.TheVariants as opening
use Rattle.scan_drive.specs.declared.phase.Phase.{Phase}
use Rattle.scan_drive.specs.declared.phase.Phase.TheVariants as phase

-- what it gives, where it tells; how often it failed and was polled, up to the greatest number that is kept; at most so
-- often it can still put off an answer
pub record OpenerState (I : Type 0) : Type 0 where
  pub gives : Option (Part I)
  pub faults : ℕ
  pub polled : ℕ
  pub turns : ℕ

-- after some polls it gives the same, its faults do not fall and its turns do not rise
pub record OpenerMoves {I : Type 0} (old new : OpenerState I) : Type 0 where
  pub gives : new.gives ≡ old.gives
  pub faults : old.faults ≤ new.faults
  pub turns : new.turns ≤ old.turns

-- one poll was made
pub record PolledOnce {I : Type 0} (old new : OpenerState I) : Type 0 where
  pub moves : OpenerMoves old new
  pub polled : RaisedBy 1 old.polled new.polled
  pub grows : old.polled ≤ new.polled

-- a flag as a number
abbrev pub as_number : Bool → ℕ
as_number true = 1
as_number false = 0

module _ {W I : Type 0} (split : W → SplitState I) (comes : W → Arrivals → Store → Event → Type 0) where
  -- the splits of a file, in order: they have its rows, and come to nothing that it does not
  pub record AreSplits (p : Part I) (rows : ℕ) (ws : List W) : Type 0 where
    pub count : rows ≡ p.row_count
    pub splits : (store : Store) → map (λ w. (split w).rows store) ws ≡ p.splits store
    pub ok : (store : Store) → All (λ w. RunOk split comes p store (new_run w)) ws

module _ {O W I F : Type 0} (split : W → SplitState I) (comes : W → Arrivals → Store → Event → Type 0)
    (state : O → OpenerState I) (refuses : O → O → F → Type 0)
    (admits : O → O → List W → Type 0) where
  -- the answer of a poll
  abbrev pub PollsOpen : O → O → Opening W F → Type 0
  PollsOpen old new opening.Pending = PolledOnce (state old) (state new) × ((state new).turns < (state old).turns)
  PollsOpen old new (opening.Opened ws rows) = PolledOnce (state old) (state new)
      × IfSome (state old).gives (λ p. AreSplits split comes p rows ws.items) × admits old new ws.items
  PollsOpen old new (opening.Refused f) = PolledOnce (state old) (state new) × refuses old new f
  PollsOpen old new opening.NoMemory = PolledOnce (state old) (state new)

module _ {O : Type 0} (polls : O → O → Type 0) where
  -- one poll after the other, with the opener after each
  abbrev pub Chain : O → List O → O → Type 0
  Chain old [] new = new ≡ old
  Chain old (o ∷ os) new = polls old o × Chain o os new

  -- some polls
  pub record SomePolls (old new : O) : Type 0 where
    pub between : List O
    pub chain : Chain old between new

module _ {O I : Type 0} (state : O → OpenerState I) (polls : O → O → Type 0) where
  -- an opener after some polls
  pub record Opens (old new : O) : Type 0 where
    pub moves : OpenerMoves (state old) (state new)
    pub polled : SomePolls polls old new

module _ {O W F : Type 0} (refuses : O → O → F → Type 0) where
  -- a file that is not read waits with what its opener said
  abbrev pub IsHeldFor : O → O → Phase W F → Phase W F → Type 0
  IsHeldFor old new p phase.Unopened = Unit {0}
  IsHeldFor old new p (phase.Queued ws rows) = Unit {0}
  IsHeldFor old new p (phase.Held f) = (p ≡ phase.Held f) ⊎ refuses old new f

module _ {W F : Type 0} (Said : List W → Type 0) where
  -- the splits of an open file are those that it had, or this is said of them
  abbrev pub IsOpen : Phase W F → Phase W F → Type 0
  IsOpen p phase.Unopened = Unit {0}
  IsOpen p (phase.Queued ws rows) = (p ≡ phase.Queued ws rows) ⊎ Said ws.items
  IsOpen p (phase.Held f) = Unit {0}

  -- and an open file stays open
  pub record StaysOpen (old new : Phase W F) : Type 0 where
    pub said : IsOpen old new
    pub stays : IsQueued old → IsQueued new

module _ {O F I : Type 0} (state : O → OpenerState I) (polls : O → O → Type 0) (refuses : O → O → F → Type 0) where
  -- one of the polls said that the file is not read
  pub record IsRefused (old new : O) (f : F) : Type 0 where
    pub before : O
    pub after : O
    pub opens : Opens state polls old before
    pub said : refuses before after f
    pub later : Opens state polls after new

module _ {O W I : Type 0} (state : O → OpenerState I) (polls : O → O → Type 0) (admits : O → O → List W → Type 0) where
  -- one of the polls gave these splits of the file
  pub record IsAdmitted (old new : O) (ws : List W) : Type 0 where
    pub before : O
    pub after : O
    pub opens : Opens state polls old before
    pub said : admits before after ws
    pub later : Opens state polls after new

module _ {W I F : Type 0} (split : W → SplitState I) (comes : W → Arrivals → Store → Event → Type 0) where
  -- the groups of a file that is told are the same, and its splits are as it has them
  pub record PhaseKeeps (gives : Option (Part I)) (old new : Phase W F) : Type 0 where
    pub left : (place : ℕ) (t : Told I) → t.part ≡ gives → Tells t → phase_left split comes place t new ≡ phase_left split comes place t old
    pub ok : (t : Told I) → t.part ≡ gives → PhaseOk split comes t old → PhaseOk split comes t new
