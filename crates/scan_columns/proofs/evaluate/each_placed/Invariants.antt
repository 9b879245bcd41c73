use Rattle.std.proofs.Common.{◌≡◌, ◌++◌, drop, length, map}
use Rattle.std.specs.List.{list_any}
use Rattle.scan_columns.specs.Cells.{vals_in}
use Rattle.scan_columns.specs.Rows.{beside, picked, AreBelow, part_rows, bound_in, bound_overflows_in}
use Rattle.scan_columns.proofs.evaluate.each_placed.Given as goal

abbrev pub invariant-loop-part : goal.invariant-loop-part
invariant-loop-part l = record {
  values : picked (beside l.columns l.made.items) l.places.items ++ map (bound_in (part_rows (map vals_in l.columns) l.len)) (drop l.part-index l.parts) ≡ map (bound_in (part_rows (map vals_in l.columns) l.len)) l.parts;
  below : AreBelow (length (beside l.columns l.made.items)) l.places.items;
  within : list_any (bound_overflows_in (part_rows (map vals_in l.columns) l.len)) l.parts ≡ list_any (bound_overflows_in (part_rows (map vals_in l.columns) l.len)) (drop l.part-index l.parts);
}
