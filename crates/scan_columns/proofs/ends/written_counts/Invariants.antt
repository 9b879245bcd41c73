use Rattle.std.proofs.Common.{◌≡◌, ◌<◌, ◌^◌, ◌++◌, take, drop, vec_len, length, map, pos}
use Rattle.scan_columns.specs.Nested.{sizes, Rises}
use Rattle.scan_columns.specs.LastEnds.{last_from}
use Rattle.scan_columns.proofs.ends.written_counts.Given as goal

abbrev pub invariant-loop-i : goal.invariant-loop-i
invariant-loop-i l = record {
  rises : Rises l.start (drop l.i l.ends);
  low : last_from l.start (drop l.i l.ends) < 2 ^ 63;
  long : vec_len l.made ≡ length l.ends;
  same : take l.i l.made.items ++ map pos (sizes l.start (drop l.i l.ends)) ≡ map pos (sizes 0 l.ends);
}
