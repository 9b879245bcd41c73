use Rattle.std.proofs.Common.{◌≡◌, ◌++◌, length}
use Rattle.scan_drive.specs.Batches.{splits_in}
use Rattle.scan_drive.proofs.batch.gather.Given as goal

-- the splits of the batches that are left come behind
abbrev pub invariant-loop-batch : goal.invariant-loop-batch
invariant-loop-batch g l = record {
  all : l.jobs.items ++ splits_in l.batches.items ≡ splits_in l.fn.batches.items;
}

abbrev pub decreases-loop-batch : goal.decreases-loop-batch
decreases-loop-batch g l = length l.batches.items
