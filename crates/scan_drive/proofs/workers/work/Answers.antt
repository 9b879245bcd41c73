use Rattle.std.proofs.Common.{◌≡◌, ◌<◌, arith, get_or, length, subst, sym}
use Rattle.std.specs.Prelude.{option_copied}
use Rattle.std.proofs.lemmas.List.{get_or_default}
use Rattle.scan_drive.specs.Claimed.{IsSeated, JobWorked}
use Rattle.scan_drive.specs.declared.workers.Job.{Job}
use Rattle.scan_drive.proofs.Working.{next_same, one_done, rest_same}
use Rattle.scan_drive.proofs.workers.work.Goals as goal

pub poll_job-requires-clause-seat : goal.poll_job-requires-clause-seat
poll_job-requires-clause-seat g c κs lives =
    let first = c.args.jobs.now in
    let now = c.loop-i.jobs in
    let i = c.loop-i.i in
    let d : Job g.row.W.Denot g.row.W-Rows.Denot = c.index-jobs-i.result in
    let x : Job g.row.W.Denot g.row.W-Rows.Denot = get_or now i d in
    let lt : i < length now = omega (arith, c.loop-i-test.true, c.loop-i.auto.jobs, c.loop-i.auto.i-end) in
    let within : i < length first = omega (arith, c.loop-i-test.true, c.loop-i.auto.i-end) in
    let at : x ≡ get_or now i x = get_or_default now i d x lt in
    subst (IsSeated (option_copied c.args.limit)) (sym (next_same first now i x lt at c.loop-i.invariant.others d)) (c.requires.seats i d within)

pub loop-i-preserved : goal.loop-i-preserved
loop-i-preserved g c =
    let first = c.args.jobs.now in
    let now = c.loop-i.jobs in
    let i = c.loop-i.i in
    let d : Job g.row.W.Denot g.row.W-Rows.Denot = c.index-jobs-i.result in
    let x : Job g.row.W.Denot g.row.W-Rows.Denot = get_or now i d in
    let y : Job g.row.W.Denot g.row.W-Rows.Denot = c.poll_job.new.job in
    let lt : i < length now = omega (arith, c.loop-i-test.true, c.loop-i.auto.jobs, c.loop-i.auto.i-end) in
    let at : x ≡ get_or now i x = get_or_default now i d x lt in
    record {
      worked = one_done (JobWorked g.W.SplitWork.split g.W.SplitWork.comes g.W.SplitWork.items (option_copied c.args.limit)) first now i x y lt at c.poll_job.ensures c.loop-i.invariant.worked c.loop-i.invariant.others;
      others = rest_same first now i y c.loop-i.invariant.others;
    }
