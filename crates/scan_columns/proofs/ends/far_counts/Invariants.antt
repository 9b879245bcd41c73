use Rattle.std.proofs.Common.{◌≡◌, ◌++◌, drop, map, pos}
use Rattle.scan_columns.specs.Nested.{sizes, Rises}
use Rattle.scan_columns.proofs.ends.far_counts.Given as goal

abbrev pub invariant-loop-end : goal.invariant-loop-end
invariant-loop-end l = record {
  made : l.made.items ++ map pos (sizes l.start (drop l.end-index l.ends)) ≡ map pos (sizes 0 l.ends);
  rises : Rises l.start (drop l.end-index l.ends);
}
