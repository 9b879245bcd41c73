use Rattle.std.specs.Prelude.{All}
use Rattle.scan_pool.specs.Seats.{IsIdle}
use Rattle.scan_workers_tests.proofs.pool.phases.Given as goal

abbrev pub invariant-loop : goal.invariant-loop
invariant-loop l = All IsIdle l.seats
