use Rattle.std.proofs.Common.{◌≡◌, ◌++◌, map}
use Rattle.std.specs.Vec.Iter.{into_iter_items}
use Rattle.scan_columns.specs.Cells.{vals_in}
use Rattle.scan_columns.proofs.picks.followed.Given as goal

abbrev pub invariant-loop-other : goal.invariant-loop-other
invariant-loop-other l = map vals_in l.made.items ++ map vals_in (into_iter_items l.other-iterator) ≡ map vals_in l.fn.columns.items ++ map vals_in l.fn.others.items
