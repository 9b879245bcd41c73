use Rattle.std.proofs.Common.{◌≡◌, length}
use Rattle.scan_import.proofs.guess.dtypes_of.Given as goal

abbrev pub invariant-loop-column : goal.invariant-loop-column
invariant-loop-column l = length l.dtypes.items ≡ l.column-index
