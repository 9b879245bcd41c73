use Rattle.std.proofs.Common.{◌≡◌, ◌+◌, ◌++◌, drop, length, slice_range}
use Rattle.std.specs.List.{items_where_true}
use Rattle.scan_columns.proofs.leaf.ints_by_row.Given as goal

abbrev pub invariant-loop-i : goal.invariant-loop-i
invariant-loop-i l =
    l.made ++ items_where_true (drop l.i l.mask) (drop l.i (slice_range l.leaf.items l.first (l.first + length l.mask))) ≡ l.fn.ints ++ items_where_true l.mask (slice_range l.leaf.items l.first (l.first + length l.mask))
