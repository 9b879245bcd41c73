use Rattle.std.proofs.Common.{◌≡◌, ◌++◌, drop, map}
use Rattle.scan_columns.specs.Cells.{vals_in}
use Rattle.scan_columns.proofs.structs.copied_cells.Given as goal

abbrev pub invariant-loop-cell : goal.invariant-loop-cell
invariant-loop-cell l = map vals_in l.made.items ++ map vals_in (drop l.cell-index l.cells) ≡ map vals_in l.cells
