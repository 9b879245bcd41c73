use Rattle.std.proofs.Common.{◌≡◌, ◌++◌, drop}
use Rattle.scan_columns.proofs.kept.narrow_of.Given as goal

abbrev pub invariant-loop-number : goal.invariant-loop-number
invariant-loop-number l = l.made.items ++ drop l.number-index l.numbers ≡ l.numbers
