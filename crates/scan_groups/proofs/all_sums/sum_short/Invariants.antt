use Rattle.std.proofs.Common.{◌≡◌, ◌≤◌, ◌+◌, ◌*◌, ◌^◌, length, take, map}
use Rattle.std.specs.Prelude.{All}
use Rattle.scan_values.specs.Val.{int_val}
use Rattle.scan_groups.specs.Totals.{Adds, IsSumOf, no_sum}
use Rattle.scan_groups.specs.Within.{IsWithin}
use Rattle.scan_groups.proofs.all_sums.sum_short.Given as goal

abbrev pub invariant-loop-i : goal.invariant-loop-i
invariant-loop-i l = record {
  long : length l.sums.items ≡ length l.fn.sums.items;
  bound : l.i ≤ length l.places;
  most : All (IsWithin (l.most + l.i * 2 ^ 31)) l.sums.items;
  more : Adds IsSumOf no_sum (take l.i l.places) (take l.i (map int_val l.numbers)) l.fn.sums.items l.sums.items;
}
