use Rattle.std.proofs.Common.{◌≡◌, ◌++◌, drop}
use Rattle.scan_table.proofs.Lines.{truths}
use Rattle.scan_table.proofs.program.line_dtype.Given as goal

abbrev pub invariant-loop-i : goal.invariant-loop-i
invariant-loop-i l = l.dtypes.items ++ truths (drop l.i l.names.items) ≡ truths l.names.items
