use Rattle.std.proofs.Common.{◌≡◌, ◌+◌, ◌≤◌, ◌++◌, take, drop, length, vec_len}
use Rattle.scan_values.specs.Masks.{true_count, by_rank}
use Rattle.scan_values.proofs.mask.keep_ranked.Given as goal

abbrev pub invariant-loop-i : goal.invariant-loop-i
invariant-loop-i l =
    record {
      long : vec_len l.bits ≡ l.i-end;
      within : l.rank ≤ l.i;
      left : l.rank + true_count (drop l.i l.bits.items) ≡ length l.others;
      same : take l.i l.bits.items ++ by_rank (drop l.i l.bits.items) (drop l.rank l.others) ≡ by_rank l.initial.bits.items l.others;
    }
