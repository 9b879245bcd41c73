use Rattle.std.proofs.Common.{length, map}
use Rattle.scan_columns.specs.Cells.{vals_in}
use Rattle.scan_table.proofs.Columned.{HaveReadTo}
use Rattle.scan_table.proofs.rows.read_all.Given as goal

abbrev pub invariant-loop-measure : goal.invariant-loop-measure
invariant-loop-measure l = HaveReadTo l.places (length l.places) (map vals_in l.columns) l.measure l.fn.groups l.groups
