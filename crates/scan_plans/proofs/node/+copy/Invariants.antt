use Rattle.std.proofs.Common.{◌≡◌, ◌++◌, drop}
use Rattle.scan_plans.proofs.node.+copy.Given as goal

abbrev pub invariant-PlanNodes::try_clone-loop-node : goal.invariant-PlanNodes::try_clone-loop-node
invariant-PlanNodes::try_clone-loop-node l = l.copies.items ++ drop l.node-index l.self ≡ l.self
