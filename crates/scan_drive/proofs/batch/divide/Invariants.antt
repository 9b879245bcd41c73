use Rattle.std.proofs.Common.{◌≡◌, ◌++◌, length}
use Rattle.scan_drive.specs.Batches.{splits_in}
use Rattle.scan_drive.proofs.batch.divide.Given as goal

-- the splits that are not taken off are the first ones
abbrev pub invariant-loop-jobs : goal.invariant-loop-jobs
invariant-loop-jobs g l = record {
  all : l.jobs.items ++ splits_in l.batches.items ≡ l.fn.jobs.items;
}

abbrev pub decreases-loop-jobs : goal.decreases-loop-jobs
decreases-loop-jobs g l = length l.jobs.items
