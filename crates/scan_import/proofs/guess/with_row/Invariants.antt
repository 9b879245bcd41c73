use Rattle.std.proofs.Common.{◌≡◌, length}
use Rattle.scan_import.proofs.guess.with_row.Given as goal

abbrev pub invariant-loop-i : goal.invariant-loop-i
invariant-loop-i l = length l.columns.items ≡ length l.fn.columns.items
