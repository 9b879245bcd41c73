use Rattle.std.proofs.Common.{◌≡◌, ◌<◌, ℕ, false, map, drop}
use Rattle.std.specs.List.{range_with_len}
use Rattle.scan_values.specs.Arrays.{ArrayData}
use Rattle.scan_values.specs.Val.{marked}
use Rattle.scan_expr.specs.Overflow.{overflows}
use Rattle.scan_expr.proofs.Evals.{mark}
use Rattle.scan_partition.specs.Joining.{row_at, joined_at}
use Rattle.scan_partition.proofs.join.joined.Given as goal

abbrev pub invariant-loop-number : goal.invariant-loop-number
invariant-loop-number l = record {
  columns : l.columns.items ≡ map (drop l.number) (map (λ (a : ArrayData). a.items) l.fn.arrays.items);
  items : map mark l.items.items ≡ map (joined_at l.root l.fn.arrays.items) (range_with_len 0 l.number);
  within : (r : ℕ) → r < l.number → overflows l.root.scope l.root.expr (marked (row_at l.fn.arrays.items r)) r ≡ false;
}
