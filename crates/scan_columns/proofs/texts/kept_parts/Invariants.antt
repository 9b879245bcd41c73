use Rattle.std.proofs.Common.{◌≡◌, ◌≤◌, ◌+◌, ◌++◌, drop, length}
use Rattle.std.specs.List.{items_where_true}
use Rattle.scan_columns.specs.Nested.{sizes, Rises, total, spread}
use Rattle.scan_columns.proofs.texts.kept_parts.Given as goal

abbrev pub invariant-loop-i : goal.invariant-loop-i
invariant-loop-i l = record {
  rises : Rises l.start (drop l.i l.ends);
  whole : l.start + total (sizes l.start (drop l.i l.ends)) ≡ length l.bytes;
  same : l.made.items ++ items_where_true (spread (drop l.i l.bits) (sizes l.start (drop l.i l.ends))) (drop l.start l.bytes) ≡ items_where_true (spread l.bits (sizes 0 l.ends)) l.bytes;
}
