use Rattle.std.proofs.Common.{◌≡◌, length, take, map}
use Rattle.scan_values.specs.Val.{int_val}
use Rattle.scan_groups.specs.Totals.{Adds, IsSumOf, no_sum}
use Rattle.scan_groups.proofs.adding.sum_numbers.Given as goal

abbrev pub invariant-loop-i : goal.invariant-loop-i
invariant-loop-i l = record {
  long : length l.sums.items ≡ length l.fn.sums.items;
  more : Adds IsSumOf no_sum (take l.i l.places) (take l.i (map int_val l.numbers)) l.fn.sums.items l.sums.items;
}
