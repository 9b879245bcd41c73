use Rattle.std.proofs.Common.{◌≡◌, ◌++◌, take, drop, vec_len, length}
use Rattle.scan_widen.specs.Slots.{or_zero}
use Rattle.scan_widen.proofs.widen.or_zero.Given as goal

abbrev pub invariant-loop-i : goal.invariant-loop-i
invariant-loop-i l = record {
  long : vec_len l.numbers ≡ length l.valid;
  same : take l.i l.numbers.items ++ or_zero (drop l.i l.numbers.items) (drop l.i l.valid) ≡ or_zero l.initial.numbers.items l.valid;
}
