use Rattle.std.proofs.Common.{◌≡◌, ◌≤◌, ◌++◌, drop}
use Rattle.std.specs.List.{items_where_true}
use Rattle.scan_columns.specs.Nested.{sizes, sums, Rises}
use Rattle.scan_columns.proofs.ends.kept_ends.Given as goal

abbrev pub invariant-loop-i : goal.invariant-loop-i
invariant-loop-i l = record {
  made : l.made.items ++ sums l.last (items_where_true (drop l.i l.bits) (sizes l.start (drop l.i l.ends))) ≡ sums 0 (items_where_true l.bits (sizes 0 l.ends));
  rises : Rises l.start (drop l.i l.ends);
  moved : l.last ≤ l.start;
}
