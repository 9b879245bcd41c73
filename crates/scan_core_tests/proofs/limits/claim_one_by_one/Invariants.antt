use Rattle.std.proofs.Common.{◌≡◌, ◌+◌}
use Rattle.scan_core_tests.proofs.limits.claim_one_by_one.Given as goal

-- one row was claimed in each round so far
abbrev pub invariant-loop : goal.invariant-loop
invariant-loop l = record {
  own : (l.seat.budget ≡ l.limit) × (l.seat.budget ≡ l.initial.seat.budget);
  room : l.seat.room + l.counter ≡ l.initial.seat.room;
  claimed : l.seat.claimed ≡ l.initial.seat.claimed + l.counter;
}
