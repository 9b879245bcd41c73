use Rattle.scan_table.proofs.Columned.{AreLent}
use Rattle.scan_table.proofs.lent.int_cells.Given as goal

abbrev pub invariant-loop-i : goal.invariant-loop-i
invariant-loop-i l = AreLent l.cells.items l.ints l.i
