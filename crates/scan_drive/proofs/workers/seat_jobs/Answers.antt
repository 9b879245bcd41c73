use Rattle.std.proofs.Common.{◌≡◌, ◌<◌, ◌∙◌, arith, ap, get_or, length}
use Rattle.std.proofs.lemmas.List.{get_or_default}
use Rattle.scan_limit.specs.Seats.{SeatState}
use Rattle.scan_drive.specs.Claimed.{seated}
use Rattle.scan_drive.specs.declared.workers.Job.{Job}
use Rattle.scan_drive.proofs.Claiming.{one_split, room_more}
use Rattle.scan_drive.proofs.Working.{one_done, rest_same}
use Rattle.scan_drive.proofs.workers.seat_jobs.Goals as goal

pub seat_job-requires-clause-own : goal.seat_job-requires-clause-own
seat_job-requires-clause-own g c = ap (λ (s : SeatState). s.budget) c.loop-i.invariant.seat ∙ c.requires.own

pub seat_job-requires-clause-room : goal.seat_job-requires-clause-room
seat_job-requires-clause-room g c =
    let within : c.loop-i.i < length c.args.jobs.now = omega (arith, c.loop-i-test.true, c.loop-i.auto.i-end) in
    room_more c.args.room c.loop-i.i (length c.args.jobs.now) c.args.seat.now c.loop-i.seat within c.requires.room c.loop-i.invariant.seat

pub loop-i-preserved : goal.loop-i-preserved
loop-i-preserved g c =
    let first = c.args.jobs.now in
    let now = c.loop-i.jobs in
    let i = c.loop-i.i in
    let d : Job g.row.W.Denot g.row.R.Denot = c.index-jobs-i.result in
    let x : Job g.row.W.Denot g.row.R.Denot = get_or now i d in
    let y : Job g.row.W.Denot g.row.R.Denot = c.seat_job.new.job in
    let lt : i < length now = omega (arith, c.loop-i-test.true, c.loop-i.auto.jobs, c.loop-i.auto.i-end) in
    let at : x ≡ get_or now i x = get_or_default now i d x lt in
    record {
      seat = one_split c.args.room i c.args.seat.now c.loop-i.seat c.seat_job.new.seat c.loop-i.invariant.seat c.in_ok-seat_job.ensures.seat;
      given = one_done (λ (a b : Job g.row.W.Denot g.row.R.Denot). b ≡ seated c.args.limit.now c.args.room a) first now i x y lt at c.in_ok-seat_job.ensures.job c.loop-i.invariant.given c.loop-i.invariant.others;
      others = rest_same first now i y c.loop-i.invariant.others;
    }
