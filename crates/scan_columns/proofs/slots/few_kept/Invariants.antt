use Rattle.std.proofs.Common.{◌≡◌, ◌++◌, drop}
use Rattle.std.specs.List.{items_where_true}
use Rattle.scan_columns.proofs.slots.few_kept.Given as goal

abbrev pub invariant-loop-i : goal.invariant-loop-i
invariant-loop-i g l = l.made.items ++ items_where_true (drop l.i l.bits) (drop l.i l.items) ≡ items_where_true l.bits l.items
