use Rattle.scan_pool.specs.Seats.{IsServing}
use Rattle.scan_pool.proofs.seat.Server.serve_until.Given as goal

-- nothing is taken out
abbrev pub invariant-loop : goal.invariant-loop
invariant-loop g l = IsServing l.self
