use Rattle.std.proofs.Common.{◌≤◌, ◌<◌, ℕ, take}
use Rattle.std.specs.Prelude.{All}
use Rattle.scan_groups.proofs.adding.last_of.Given as goal

abbrev pub invariant-loop-place : goal.invariant-loop-place
invariant-loop-place l = record {
  past : All (λ p. p ≤ l.last) (take l.place-index l.places);
  least : (n : ℕ) → 0 < n → All (λ p. p < n) l.places → l.last < n;
}
