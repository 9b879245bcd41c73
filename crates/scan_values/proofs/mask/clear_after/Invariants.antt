use Rattle.std.proofs.Common.{◌≡◌, ◌++◌, take, drop, vec_len}
use Rattle.scan_values.specs.Masks.{limited}
use Rattle.scan_values.proofs.mask.clear_after.Given as goal

abbrev pub invariant-loop-i : goal.invariant-loop-i
invariant-loop-i l =
    record {
      long : vec_len l.bits ≡ l.i-end;
      same : take l.i l.bits.items ++ limited l.left (drop l.i l.bits.items) ≡ limited l.n l.initial.bits.items;
    }
