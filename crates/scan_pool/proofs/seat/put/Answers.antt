use Rattle.scan_pool.proofs.Turns.{second_of, kept_on}
use Rattle.scan_pool.proofs.seat.put.Goals as goal

pub loop-preserved : goal.loop-preserved
loop-preserved g c = let back = c.in-Err.ensures.put in
    (c.try_put.ensures.own, kept_on g.T.Work.done c.loop.mail c.in-Err.back _ _ (second_of c.loop.invariant) back.0 back.1)
