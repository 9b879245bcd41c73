use Rattle.scan_plans.proofs.OffsetChecks.{Checking}
use Rattle.scan_plans.proofs.offsets.Offsets.checked.Given as goal

abbrev pub invariant-loop-i : goal.invariant-loop-i
invariant-loop-i l = Checking l.self l.first l.numbers l.i l.before l.made.items
