use Rattle.std.proofs.Common.{◌≡◌, ◌≤◌, ◌<◌, ℕ, All, true, map}
use Rattle.scan_values.specs.Selections.{is_among}
use Rattle.scan_drive.proofs.drive.desks_by_file.Given as goal

abbrev pub invariant-loop-place : goal.invariant-loop-place
invariant-loop-place l = record {
  within : All (λ p. p.1 < l.last) l.found.items;
  all : (k : ℕ) → l.first ≤ k → k < l.place → is_among (map (λ p. p.1) l.found.items) k ≡ true;
}
