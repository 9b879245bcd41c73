use Rattle.std.proofs.Common.{◌≡◌, ◌++◌, drop, map}
use Rattle.scan_values.specs.Values.{val_of}
use Rattle.scan_columns.specs.Nested.{sizes, Rises}
use Rattle.scan_plans.specs.ListItems.{length_val}
use Rattle.scan_plans.proofs.lists.size_values.Given as goal

abbrev pub invariant-loop-end : goal.invariant-loop-end
invariant-loop-end l = record {
  made : map val_of l.made.items ++ map length_val (sizes l.before (drop l.end-index l.ends)) ≡ map length_val (sizes l.start l.ends);
  rises : Rises l.before (drop l.end-index l.ends);
}
