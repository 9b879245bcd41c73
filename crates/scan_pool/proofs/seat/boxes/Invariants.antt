use Rattle.std.specs.Prelude.{All}
use Rattle.scan_pool.specs.Seats.{IsIdle, IsServing}
use Rattle.scan_pool.proofs.seat.boxes.Given as goal

abbrev pub invariant-loop : goal.invariant-loop
invariant-loop g l = record { seats : All IsIdle l.seats.items; servers : All IsServing l.servers.items }
