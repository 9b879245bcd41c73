use Rattle.std.proofs.Common.{◌≡◌, ◌+◌, ◌++◌, drop, map, length}
use Rattle.std.specs.List.{items_where_true, slice_range}
use Rattle.scan_values.specs.Values.{val_of}
use Rattle.scan_spelling.proofs.column.LeafColumn.picked_from.Given as goal

abbrev pub invariant-loop-i : goal.invariant-loop-i
invariant-loop-i l =
    map val_of l.items.items ++ items_where_true (drop l.i l.mask) (drop l.i (slice_range l.self.items l.first (l.first + length l.mask))) ≡ items_where_true l.mask (slice_range l.self.items l.first (l.first + length l.mask))
