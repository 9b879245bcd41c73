use Rattle.std.proofs.Common.{◌≡◌, ◌+◌, ◌≤◌, length}
use Rattle.scan_values.specs.Masks.{true_count}
use Rattle.scan_values.proofs.mask.count_true.Given as goal

abbrev pub invariant-loop-rest : goal.invariant-loop-rest
invariant-loop-rest l =
    record {
      same : l.count + true_count l.rest ≡ true_count l.bits;
      within : l.count + length l.rest ≤ length l.bits;
    }

abbrev pub decreases-loop-rest : goal.decreases-loop-rest
decreases-loop-rest l = length l.rest
