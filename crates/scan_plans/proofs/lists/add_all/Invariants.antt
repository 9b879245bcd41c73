use Rattle.std.proofs.Common.{drop}
use Rattle.scan_plans.proofs.ListWants.{Adding}
use Rattle.scan_plans.proofs.lists.add_all.Given as goal

abbrev pub invariant-loop-id : goal.invariant-loop-id
invariant-loop-id l = Adding l.fn.wants l.wants (drop l.id-index l.items) l.ids
