use Rattle.std.proofs.Common.{List, Global}
use Rattle.std.specs.declared.vec.Vec.{Vec}
use Rattle.scan_drive.specs.Batches.{AreFree}
use Rattle.scan_drive.specs.declared.workers.Job.{Job}
use Rattle.scan_drive.proofs.Batching.{still_ok, zip_ok}
use Rattle.scan_drive.proofs.batch.poll_jobs.Goals as goal

pub returns-clause-free : goal.returns-clause-free
returns-clause-free g c = still_ok c.gather.result (AreFree c.run_all.new.seats) c.in_ok-run_all.ensures.idle

pub returns-clause-done : goal.returns-clause-done
returns-clause-done g c =
    let of : Vec (Job g.row.W.Denot g.row.W-Rows.Denot) Global → List (Job g.row.W.Denot g.row.W-Rows.Denot) = λ v. v.items in
    zip_ok g.W.SplitWork.split g.W.SplitWork.comes g.W.SplitWork.items of c.gather.result c.in_ok-batches.batches.items c.run_all.new.works.items c.args.jobs.items c.in_ok-batches.ensures c.gather.ensures c.in_ok-run_all.ensures.done
