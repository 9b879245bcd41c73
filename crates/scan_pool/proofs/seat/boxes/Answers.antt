use Rattle.std.proofs.Common.{sym, subst}
use Rattle.std.specs.Prelude.{All}
use Rattle.std.proofs.lemmas.List.Elements.{All-push}
use Rattle.scan_pool.specs.Seats.{IsIdle, IsServing}
use Rattle.scan_pool.proofs.seat.boxes.Goals as goal

pub loop-preserved : goal.loop-preserved
loop-preserved g c = record {
  seats = subst (All IsIdle) (sym c.in_ok-push.ensures.items) (All-push IsIdle _ _ c.loop.invariant.seats c.in_ok-seat.ensures.0);
  servers = subst (All IsServing) (sym c.in_ok-push-2.ensures.items) (All-push IsServing _ _ c.loop.invariant.servers c.in_ok-seat.ensures.1);
}
