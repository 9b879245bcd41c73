use Rattle.std.proofs.Common.{◌≡◌, ◌-◌, drop}
use Rattle.scan_values.specs.StrictSorted.{is_rising}
use Rattle.scan_values.proofs.selection.is_rising.Given as goal

abbrev pub invariant-loop-i : goal.invariant-loop-i
invariant-loop-i l = is_rising l.v ≡ is_rising (drop (l.i - 1) l.v)
