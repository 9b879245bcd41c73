use Rattle.std.proofs.Common.{◌≡◌, ◌≤◌, ◌++◌, map}
use Rattle.std.specs.Vec.Iter.{into_iter_items}
use Rattle.scan_columns.specs.Cells.{vals_in, deepest}
use Rattle.scan_columns.proofs.cells.+into_values.Given as goal

abbrev pub invariant-Structs::into_values-loop-field : goal.invariant-Structs::into_values-loop-field
invariant-Structs::into_values-loop-field l = record {
  columns : l.columns.items ++ map vals_in (into_iter_items l.field-iterator) ≡ map vals_in (into_iter_items l.initial.field-iterator);
  falls : deepest (into_iter_items l.field-iterator) ≤ l.fn.self.depth;
}
