use Rattle.crossbeam_queue.specs.Passes.{view, IsPassOf}
use Rattle.scan_pool.specs.Boxes.{IsKept}
use Rattle.scan_pool.proofs.seat.put.Given as goal

-- the mail is still to be put in
abbrev pub invariant-loop : goal.invariant-loop
invariant-loop g l = IsPassOf l.line l.pass × IsKept g.T.Work.done l.mail (view l.pass)
