use Rattle.std.proofs.Common.{drop}
use Rattle.scan_columns.specs.Joined.{AreAsLong}
use Rattle.scan_expr_tests.proofs.table.are_long.Given as goal

abbrev pub invariant-loop-column : goal.invariant-loop-column
invariant-loop-column l = AreAsLong l.len (drop l.column-index l.columns) → AreAsLong l.len l.columns
