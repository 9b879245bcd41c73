use Rattle.std.proofs.Common.{◌≡◌, ◌<◌, ◌^◌, ◌++◌, take, drop, vec_len, length, map, pos}
use Rattle.scan_columns.specs.Nested.{sizes, Rises}
use Rattle.scan_plans.specs.ListItems.{last_from}
use Rattle.scan_plans.proofs.sizes.written_sizes.Given as goal

abbrev pub invariant-loop-i : goal.invariant-loop-i
invariant-loop-i l = record {
  rises : Rises l.before (drop l.i l.ends);
  low : last_from l.before (drop l.i l.ends) < 2 ^ 63;
  long : vec_len l.made ≡ length l.ends;
  same : take l.i l.made.items ++ map pos (sizes l.before (drop l.i l.ends)) ≡ map pos (sizes l.fn.start l.ends);
}
