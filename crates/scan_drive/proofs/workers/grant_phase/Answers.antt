use Rattle.std.proofs.Common.{◌≤◌, ◌∙◌, ap, length}
use Rattle.std.specs.Prelude.{◌*◌}
use Rattle.scan_limit.specs.Seats.{SeatState}
use Rattle.scan_drive.proofs.Claiming.{all_seated, given_seats, phase_ends, phase_grants, phase_whole}
use Rattle.scan_drive.proofs.workers.grant_phase.Goals as goal

pub seat_jobs-requires-clause-room : goal.seat_jobs-requires-clause-room
seat_jobs-requires-clause-room g c = c.room_for_each-room.ensures

pub run_phase-requires-clause-seats : goal.run_phase-requires-clause-seats
run_phase-requires-clause-seats g c κs lives =
    given_seats c.into_parts-limit.result.0 c.room_for_each-room.result c.args.jobs.now c.seat_jobs.new.jobs c.seat_jobs.auto.jobs c.in_ok-seat_jobs.ensures.jobs

pub join_jobs-requires-clause-seated : goal.join_jobs-requires-clause-seated
join_jobs-requires-clause-seated g c =
    all_seated g.W.SplitWork.split g.W.SplitWork.comes g.W.SplitWork.items c.into_parts-limit.result.0 c.seat_jobs.new.jobs c.run_phase.new.jobs c.run_phase.auto.jobs c.run_phase.ensures

pub join_jobs-requires-clause-own : goal.join_jobs-requires-clause-own
join_jobs-requires-clause-own g c = ap (λ (s : SeatState). s.budget) c.in_ok-seat_jobs.ensures.seat ∙ c.into_parts-limit.ensures.own

pub of_parts-requires-clause-own : goal.of_parts-requires-clause-own
of_parts-requires-clause-own g c = c.in_ok-join_jobs.ensures.own ∙ ap (λ (s : SeatState). s.budget) c.in_ok-seat_jobs.ensures.seat ∙ c.into_parts-limit.ensures.own

pub of_parts-requires-clause-whole : goal.of_parts-requires-clause-whole
of_parts-requires-clause-whole g c =
    let split = g.W.SplitWork.split in
    let comes = g.W.SplitWork.comes in
    let items = g.W.SplitWork.items in
    let b = c.into_parts-limit.result.0 in
    let room = c.room_for_each-room.result in
    let js = c.args.jobs.now in
    let ks = c.run_phase.new.jobs in
    let ls = c.join_jobs.new.jobs in
    let fits : room * length js ≤ c.into_parts-limit.result.1.room = c.room_for_each-room.ensures in
    phase_whole split comes items b room js ks ls c.into_parts-limit.result.1 c.join_jobs.new.seat
    (phase_ends split comes items b room js c.seat_jobs.new.jobs ks ls c.into_parts-limit.result.1 c.seat_jobs.new.seat c.join_jobs.new.seat fits c.seat_jobs.auto.jobs c.run_phase.auto.jobs c.join_jobs.auto.jobs
    c.in_ok-seat_jobs.ensures.seat c.in_ok-seat_jobs.ensures.jobs c.run_phase.ensures c.in_ok-join_jobs.ensures.jobs c.in_ok-join_jobs.ensures.seat)
    c.into_parts-limit.ensures.whole

pub returns : goal.returns
returns g c =
    let split = g.W.SplitWork.split in
    let comes = g.W.SplitWork.comes in
    let items = g.W.SplitWork.items in
    let b = c.into_parts-limit.result.0 in
    let room = c.room_for_each-room.result in
    let js = c.args.jobs.now in
    let ks = c.run_phase.new.jobs in
    let ls = c.join_jobs.new.jobs in
    let fits : room * length js ≤ c.into_parts-limit.result.1.room = c.room_for_each-room.ensures in
    phase_grants split comes items b room js ks ls c.into_parts-limit.result.1 c.join_jobs.new.seat c.args.budget c.of_parts.result
    (phase_ends split comes items b room js c.seat_jobs.new.jobs ks ls c.into_parts-limit.result.1 c.seat_jobs.new.seat c.join_jobs.new.seat fits c.seat_jobs.auto.jobs c.run_phase.auto.jobs c.join_jobs.auto.jobs
    c.in_ok-seat_jobs.ensures.seat c.in_ok-seat_jobs.ensures.jobs c.run_phase.ensures c.in_ok-join_jobs.ensures.jobs c.in_ok-join_jobs.ensures.seat)
    c.into_parts-limit.ensures.counts c.of_parts.ensures
