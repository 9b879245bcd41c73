use Rattle.std.proofs.Common.{◌≡◌, ◌+ℤ◌, drop, map}
use Rattle.vortex_scan.specs.Values.Val.{int_val}
use Rattle.uses.specs.Sums.{sum_of}
use Rattle.uses.proofs.sum.added.Given as goal

abbrev pub invariant-loop-number : goal.invariant-loop-number
invariant-loop-number l = l.sum +ℤ sum_of (map int_val (drop l.number-index l.numbers)) ≡ l.fn.first +ℤ sum_of (map int_val l.numbers)
