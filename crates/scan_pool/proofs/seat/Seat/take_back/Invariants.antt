use Rattle.scan_pool.specs.Seats.{IsOut}
use Rattle.scan_pool.proofs.seat.Seat.take_back.Given as goal

-- what was out is out
abbrev pub invariant-loop : goal.invariant-loop
invariant-loop g l = ((b : g.row.T.Denot) × IsOut b l.self) × ((b : g.row.T.Denot) → IsOut b l.initial.self → IsOut b l.self)
