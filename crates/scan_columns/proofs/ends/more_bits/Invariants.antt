use Rattle.std.proofs.Common.{◌≡◌, ◌++◌, replicate}
use Rattle.scan_columns.proofs.ends.more_bits.Given as goal

abbrev pub invariant-loop-i : goal.invariant-loop-i
invariant-loop-i l = l.bits.items ≡ l.fn.bits.items ++ replicate l.i l.bit
