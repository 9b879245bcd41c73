-- Splits that are divided among workers.
use Rattle.std.specs.Prelude.{ℕ, None, All, List, [], ◌∷◌, ◌++◌}
use Rattle.std.specs.List.{AllZip}
use Rattle.scan_pool.specs.Seats.{IsIdle}
use Rattle.scan_pool.specs.declared.seat.Seat.{Seat}
use Rattle.scan_segments.specs.Source.{Store}
use Rattle.scan_splits.specs.Arrivals.{Arrivals}
use Rattle.scan_drive.specs.Claimed.{JobWorked}
use Rattle.scan_drive.specs.Splits.{SplitState, Event}
use Rattle.scan_drive.specs.declared.batch.Batch.{Batch}
use Rattle.scan_drive.specs.declared.workers.Job.{Job}

-- nothing is out of any seat
abbrev pub AreFree : {T : Type 0} → List (Seat T) → Type 0
AreFree seats = All IsIdle seats

module _ {W R : Type 0} where
  -- the splits of batches, those of the last batch first
  abbrev pub splits_in : List (Batch W R) → List (Job W R)
  splits_in [] = []
  splits_in (b ∷ bs) = splits_in bs ++ b.jobs.items

module _ {W I R : Type 0} (split : W → SplitState I) (comes : W → Arrivals → Store → Event → Type 0) (items : R → List I) where
  -- each split of a batch was polled
  abbrev pub BatchWorked : Batch W R → Batch W R → Type 0
  BatchWorked old new = AllZip (JobWorked split comes items None) old.jobs.items new.jobs.items
