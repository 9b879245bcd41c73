use Rattle.std.proofs.Common.{◌≡◌, ◌++◌, map}
use Rattle.std.specs.Vec.Iter.{into_iter_items}
use Rattle.scan_columns.specs.Cells.{vals_in}
use Rattle.scan_columns.specs.Parts.{AllFitting, items_of}
use Rattle.scan_columns.proofs.parts.cells_of.Given as goal

abbrev pub invariant-loop-column : goal.invariant-loop-column
invariant-loop-column l = record {
  items : map vals_in l.made.items ++ map items_of (into_iter_items l.column-iterator) ≡ map items_of l.fn.columns.items;
  fit : AllFitting (into_iter_items l.column-iterator) → AllFitting l.fn.columns.items;
}
