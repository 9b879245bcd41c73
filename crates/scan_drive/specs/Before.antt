-- What was given before the turn of a file.
use Rattle.std.specs.Prelude.{◌≡◌, ◌⊎◌, ℕ, true, List, [], Option}
use Rattle.scan_segments.specs.Source.{Store}
use Rattle.scan_splits.specs.Arrivals.{Arrivals}
use Rattle.scan_drive.specs.Drivings.{GivesBefore}
use Rattle.scan_drive.specs.Files.{Told, AllTell}
use Rattle.scan_drive.specs.Order.{Rises}
use Rattle.scan_drive.specs.Rounds.{IsFrontFile, Sound}
use Rattle.scan_drive.specs.Splits.{SplitState, Event}
use Rattle.scan_drive.specs.declared.delivery.DriveFault.TheVariants as fault
use Rattle.scan_drive.specs.declared.round.Drive.{Drive}
use Rattle.scan_drive.specs.declared.settling.RoundFault.{RoundFault}
use Rattle.scan_drive.specs.declared.settling.RoundFault.TheVariants as why
use Rattle.scan_drive.specs.declared.slot.Slot.{Slot}

module _ {W R : Type 0} where
  -- the file below which all is given: that of the split whose turn it is, or else this one
  abbrev pub IsDone : List ℕ → List (Slot W R) → ℕ → ℕ → Type 0
  IsDone turns slots first k = ((turns ≡ []) × (k ≡ first)) ⊎ IsFrontFile turns slots k

module _ {W R F : Type 0} where
  -- the splits are active in the order of their files, up to the first that has some left
  abbrev pub InOrder : Drive W R F → Type 0
  InOrder d = Rises 0 d.first d.active.turns.items d.active.slots.items

module _ {W I R F : Type 0} (split : W → SplitState I) (comes : W → Arrivals → Store → Event → Type 0) (items : R → List I) where
  -- all tell, and the state of a drive stands for its answer, with the active splits in order
  abbrev pub SoundInOrder : List (Told I) → Drive W R F → Type 0
  SoundInOrder tale d = AllTell tale × Sound split comes items tale d × InOrder d

module _ {I R : Type 0} (items : R → List I) where
  -- where a fault is of a file, all rows of the files before it were given in order, and there was room for more
  abbrev pub StopsBefore : {F : Type 0} → Option ℕ → List (Told I) → RoundFault F → Type 0
  StopsBefore limit tale (why.Split fault.NoMemory) = Unit {0}
  StopsBefore limit tale (why.Split (fault.Source k id)) = GivesBefore items true limit tale k
  StopsBefore limit tale (why.Split (fault.Corrupt k id)) = GivesBefore items true limit tale k
  StopsBefore limit tale (why.Split (fault.Overflow k)) = GivesBefore items true limit tale k
  StopsBefore limit tale (why.TooManyRows k) = GivesBefore items true limit tale k
  StopsBefore limit tale (why.Refused k e) = GivesBefore items true limit tale k
