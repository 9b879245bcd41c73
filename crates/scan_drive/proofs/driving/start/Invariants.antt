use Rattle.std.proofs.Common.{◌≡◌, ℕ, length}
use Rattle.scan_drive.specs.Phases.{phase_at}
use Rattle.scan_drive.specs.declared.phase.Phase.TheVariants as phase
use Rattle.scan_drive.proofs.driving.start.Given as goal

abbrev pub invariant-loop : goal.invariant-loop
invariant-loop g l = record {
  len : length l.phases.items ≡ l.counter;
  shut : (k : ℕ) → phase_at l.phases.items k ≡ phase.Unopened;
}
