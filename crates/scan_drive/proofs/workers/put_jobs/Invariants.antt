use Rattle.std.proofs.Common.{◌≡◌, length}
use Rattle.std.specs.Prelude.{All}
use Rattle.std.specs.Vec.Iter.{into_iter_items}
use Rattle.scan_drive.specs.Workers.{IsWithin, listed, put_back}
use Rattle.scan_drive.proofs.workers.put_jobs.Given as goal

abbrev pub invariant-loop-job : goal.invariant-loop-job
invariant-loop-job g l = record {
  within : All (IsWithin (length l.slots.items)) (into_iter_items l.job-iterator);
  slots : put_back (into_iter_items l.job-iterator) l.slots.items ≡ put_back l.fn.jobs.items l.fn.slots.items;
  asking : listed (into_iter_items l.job-iterator) l.asking.items ≡ listed l.fn.jobs.items l.fn.asking.items;
}
