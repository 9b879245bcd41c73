use Rattle.std.proofs.Common.{◌≡◌, ◌≤◌, ◌++◌, length, map}
use Rattle.std.specs.Vec.Iter.{into_iter_items, into_iter_len}
use Rattle.scan_columns.specs.Cells.{vals_in, deepest}
use Rattle.scan_columns.proofs.StructLemmas.{extended}
use Rattle.scan_columns.proofs.cells.+append.Given as goal

abbrev pub invariant-Structs::append-loop-field : goal.invariant-Structs::append-loop-field
invariant-Structs::append-loop-field l = record {
  fields : map vals_in l.made.items ++ extended (map vals_in (into_iter_items l.field-iterator)) (map vals_in (into_iter_items l.rest)) ≡ extended (map vals_in (into_iter_items l.initial.field-iterator)) (map vals_in (into_iter_items l.initial.rest));
  count : length (into_iter_items l.initial.rest) ≡ length (into_iter_items l.initial.field-iterator);
  even : length (into_iter_items l.rest) ≡ length (into_iter_items l.field-iterator);
  len : into_iter_len l.field-iterator ≡ length (into_iter_items l.field-iterator);
  falls : deepest (into_iter_items l.field-iterator) ≤ l.fn.self.depth;
}
