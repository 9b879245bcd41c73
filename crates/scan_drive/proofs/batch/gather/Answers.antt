use Rattle.scan_drive.proofs.Batching.{batch_first, batch_moved}
use Rattle.scan_drive.proofs.batch.gather.Goals as goal

pub loop-batch-init : goal.loop-batch-init
loop-batch-init g c = record { all = batch_first _ _ _ c.in-Some.ensures.items }

pub loop-batch-preserved : goal.loop-batch-preserved
loop-batch-preserved g c = record { all = batch_moved _ _ _ c.loop-batch.jobs.items _ _ c.in-Some-pop.ensures.items c.in_ok-append.ensures.items c.loop-batch.invariant.all }
