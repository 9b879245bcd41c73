use Rattle.std.proofs.Common.{◌≡◌, ◌<◌, ◌∙◌, arith, get_or, length}
use Rattle.std.proofs.lemmas.List.{get_or_default}
use Rattle.scan_drive.specs.Claimed.{all_joined}
use Rattle.scan_drive.specs.declared.workers.Job.{Job}
use Rattle.scan_drive.proofs.Claiming.{IsJoined, next_joined, own_seat}
use Rattle.scan_drive.proofs.Working.{next_same, one_done, rest_same}
use Rattle.scan_drive.proofs.workers.join_jobs.Goals as goal

pub join_job-requires-clause-seated : goal.join_job-requires-clause-seated
join_job-requires-clause-seated g c =
    let first = c.args.jobs.now in
    let now = c.loop-i.jobs in
    let i = c.loop-i.i in
    let d : Job g.row.W.Denot g.row.R.Denot = c.index-jobs-i.result in
    let x : Job g.row.W.Denot g.row.R.Denot = get_or now i d in
    let lt : i < length now = omega (arith, c.loop-i-test.true, c.loop-i.auto.jobs, c.loop-i.auto.i-end) in
    let within : i < length first = omega (arith, c.loop-i-test.true, c.loop-i.auto.i-end) in
    let at : x ≡ get_or now i x = get_or_default now i d x lt in
    own_seat c.args.limit.now x (get_or first i d) (next_same first now i x lt at c.loop-i.invariant.others d) (c.requires.seated i d within)

pub loop-i-preserved : goal.loop-i-preserved
loop-i-preserved g c =
    let first = c.args.jobs.now in
    let now = c.loop-i.jobs in
    let i = c.loop-i.i in
    let d : Job g.row.W.Denot g.row.R.Denot = c.index-jobs-i.result in
    let x : Job g.row.W.Denot g.row.R.Denot = get_or now i d in
    let y : Job g.row.W.Denot g.row.R.Denot = c.join_job.new.job in
    let lt : i < length now = omega (arith, c.loop-i-test.true, c.loop-i.auto.jobs, c.loop-i.auto.i-end) in
    let within : i < length first = omega (arith, c.loop-i-test.true, c.loop-i.auto.i-end) in
    let at : x ≡ get_or now i x = get_or_default now i d x lt in
    record {
      own = c.in_ok-join_job.ensures.own ∙ c.loop-i.invariant.own;
      seat = next_joined first i x (all_joined first c.args.seat.now) c.loop-i.seat c.join_job.new.seat within
          (next_same first now i x lt at c.loop-i.invariant.others x) c.in_ok-join_job.ensures.seat c.loop-i.invariant.seat;
      joined = one_done IsJoined first now i x y lt at c.in_ok-join_job.ensures.job c.loop-i.invariant.joined c.loop-i.invariant.others;
      others = rest_same first now i y c.loop-i.invariant.others;
    }
