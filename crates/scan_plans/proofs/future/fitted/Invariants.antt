use Rattle.std.proofs.Common.{◌≡◌, ◌++◌, ◌-◌, drop}
use Rattle.scan_plans.specs.Projecting.{padded}
use Rattle.scan_plans.proofs.future.fitted.Given as goal

abbrev pub invariant-loop-i : goal.invariant-loop-i
invariant-loop-i l = l.made.items ++ padded (l.len - l.i) (drop l.i l.mask) ≡ padded l.len l.mask
