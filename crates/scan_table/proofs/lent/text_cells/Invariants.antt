use Rattle.scan_columns.specs.Texts.{texts_in}
use Rattle.scan_table.proofs.Columned.{AreLent}
use Rattle.scan_table.proofs.lent.text_cells.Given as goal

abbrev pub invariant-loop-i : goal.invariant-loop-i
invariant-loop-i l = AreLent l.cells.items (texts_in l.texts) l.i
