use Rattle.std.proofs.Common.{◌≡◌, true, take}
use Rattle.std.specs.Prelude.{All}
use Rattle.scan_groups.specs.Within.{IsShort}
use Rattle.scan_groups.proofs.all_sums.are_short.Given as goal

abbrev pub invariant-loop-i : goal.invariant-loop-i
invariant-loop-i l = l.short ≡ true → All IsShort (take l.i l.numbers)
