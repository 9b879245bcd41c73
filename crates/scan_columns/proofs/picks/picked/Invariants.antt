use Rattle.std.proofs.Common.{◌≡◌, ◌++◌, drop, map, length}
use Rattle.scan_columns.specs.Cells.{vals_in}
use Rattle.scan_columns.specs.Rows.{picked}
use Rattle.scan_columns.proofs.picks.picked.Given as goal

abbrev pub invariant-loop-i : goal.invariant-loop-i
invariant-loop-i l = record {
  values : map vals_in l.made.items ++ picked (map vals_in l.columns) (drop l.i l.places) ≡ picked (map vals_in l.initial.columns) l.places;
  count : length l.columns ≡ length l.initial.columns;
}
