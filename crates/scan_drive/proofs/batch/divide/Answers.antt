use Rattle.std.proofs.Common.{◌≡◌, ◌++◌, ◌∙◌, List, ap, append-nil, refl}
use Rattle.scan_drive.specs.Batches.{splits_in}
use Rattle.scan_drive.specs.declared.workers.Job.{Job}
use Rattle.scan_drive.proofs.Batching.{all_off, last_off}
use Rattle.scan_drive.proofs.batch.divide.Goals as goal

pub loop-jobs-init : goal.loop-jobs-init
loop-jobs-init g c =
    let jobs : List (Job g.row.W.Denot g.row.R.Denot) = c.args.jobs.items in
    record { all = ap (λ bs. jobs ++ splits_in bs) c.new-batches.ensures.items ∙ append-nil jobs }

pub loop-jobs-preserved : goal.loop-jobs-preserved
loop-jobs-preserved g c = record { all = last_off _ _ _ c.loop-jobs.jobs.items _ c.args.jobs.items _ c.in_ok-push.ensures.items c.in_ok-last.ensures.tail c.in_ok-last.ensures.items c.loop-jobs.invariant.all }

pub returns : goal.returns
returns g c = all_off _ _ _ c.loop-jobs.jobs.items c.args.jobs.items c.in_ok-push-2.ensures.items refl c.loop-jobs.invariant.all
