use Rattle.std.proofs.Common.{◌≡◌, ◌++◌, take, drop, map, not, vec_len}
use Rattle.scan_columns.proofs.slots.flipped.Given as goal

abbrev pub invariant-loop-i : goal.invariant-loop-i
invariant-loop-i l =
    record {
      long : vec_len l.bits ≡ l.i-end;
      same : take l.i l.bits.items ++ map not (drop l.i l.bits.items) ≡ map not l.initial.bits.items;
    }
