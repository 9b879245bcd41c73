use Rattle.std.proofs.Common.{◌≡◌, ◌++◌, drop, map}
use Rattle.scan_values.specs.Values.{val_of}
use Rattle.scan_columns.specs.Typed.{typed}
use Rattle.scan_columns.specs.Nested.{sizes, Rises, cuts, list_of}
use Rattle.scan_columns.proofs.lists.lists_from.Given as goal

abbrev pub invariant-loop-i : goal.invariant-loop-i
invariant-loop-i l = record {
  made : map val_of l.made.items ++ typed list_of (cuts (sizes l.start (drop l.i l.ends)) l.rest) (drop l.i l.valid) ≡ typed list_of (cuts (sizes 0 l.ends) (map val_of l.fn.values.items)) l.valid;
  rises : Rises l.start (drop l.i l.ends);
}
