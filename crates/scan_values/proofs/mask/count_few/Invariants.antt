use Rattle.std.proofs.Common.{◌≡◌, ◌+◌, ◌≤◌, drop}
use Rattle.scan_values.specs.Masks.{true_count}
use Rattle.scan_values.proofs.mask.count_few.Given as goal

abbrev pub invariant-loop-bit : goal.invariant-loop-bit
invariant-loop-bit l =
    record {
      same : l.count + true_count (drop l.bit-index l.bits) ≡ true_count l.bits;
      within : l.count ≤ l.bit-index;
    }
