use Rattle.std.proofs.Common.{drop}
use Rattle.scan_columns.specs.Cells.{vals_in}
use Rattle.scan_lines.specs.Heads.{lines_of_rows}
use Rattle.scan_run.proofs.Sending.{SentSoFar}
use Rattle.scan_run.proofs.print.write_rows.Given as goal

abbrev pub invariant-loop-i : goal.invariant-loop-i
invariant-loop-i g l =
    SentSoFar (lines_of_rows l.heads l.front l.rows (vals_in l.cells)) l.fn.piece l.piece (lines_of_rows l.heads l.front (drop l.i l.rows) (drop l.i (vals_in l.cells)))
    (g.O.Output.output l.fn.output) (g.O.Output.output l.output)
