use Rattle.std.proofs.Common.{◌<◌, ◌≤◌, ◌∷◌, ◌+◌, ◌∙◌, ap, arith, drop, length, sym}
use Rattle.scan_drive.specs.Workers.{places_of}
use Rattle.scan_drive.proofs.Handing.{drop_next}
use Rattle.scan_drive.proofs.Working.{all_taken, all_turns, fresh_next, jobs_next, none_after, turn_next}
use Rattle.scan_drive.proofs.workers.take_jobs.Goals as goal

pub loop-i-preserved : goal.loop-i-preserved
loop-i-preserved g c =
    let inv = c.loop-i.invariant in
    let turns = c.args.turns.now.items in
    let i = c.loop-i.i in
    let place = c.index.result.now in
    let lt : i < length turns = omega (arith, c.loop-i-test.true, c.len-i-end.ensures, c.args.turns.now.ok) in
    let jobs = c.loop-i.jobs.items in
    let jobs' = c.take_job.new.jobs.items in
    let now = c.loop-i.slots.items in
    let next = c.take_job.new.slots.items in
    record {
      jobs = jobs_next place jobs jobs' c.args.slots.now.items now next inv.jobs c.in_ok-take_job.ensures;
      fresh = fresh_next place jobs jobs' now next (drop i turns) (drop (i + 1) turns) (drop_next turns i place lt ∙ ap (λ p. p ∷ drop (i + 1) turns) (sym c.index.ensures)) inv.fresh c.in_ok-take_job.ensures;
      order = turn_next place i turns jobs jobs' now next lt c.index.ensures c.in_ok-take_job.ensures inv.order;
    }

pub returns-clause-all : goal.returns-clause-all
returns-clause-all g c =
    let turns = c.args.turns.now.items in
    let le : length turns ≤ c.loop-i.i = omega (arith, c.loop-i-test.false, c.len-i-end.ensures, c.args.turns.now.ok) in
    all_taken c.loop-i.jobs.items c.args.slots.now.items c.loop-i.slots.items (drop c.loop-i.i turns) (none_after turns c.loop-i.i le) c.loop-i.invariant.jobs c.loop-i.invariant.fresh

pub returns-clause-order : goal.returns-clause-order
returns-clause-order g c =
    let turns = c.args.turns.now.items in
    all_turns (places_of c.loop-i.jobs.items) turns c.loop-i.i (omega (arith, c.loop-i-test.false, c.len-i-end.ensures, c.args.turns.now.ok)) c.loop-i.invariant.order
