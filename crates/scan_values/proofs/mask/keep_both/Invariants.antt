use Rattle.std.proofs.Common.{◌≡◌, ◌++◌, take, drop, vec_len}
use Rattle.scan_values.specs.Masks.{both_true}
use Rattle.scan_values.proofs.mask.keep_both.Given as goal

abbrev pub invariant-loop-i : goal.invariant-loop-i
invariant-loop-i l =
    record {
      long : vec_len l.bits ≡ l.i-end;
      same : take l.i l.bits.items ++ both_true (drop l.i l.bits.items) (drop l.i l.others) ≡ both_true l.initial.bits.items l.others;
    }
