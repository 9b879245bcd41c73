use Rattle.std.proofs.Common.{drop}
use Rattle.scan_plans.specs.PlanTree.{plans}
use Rattle.scan_plans.specs.Came.{came}
use Rattle.scan_plans.specs.Meaning.{true_rows}
use Rattle.scan_plans.proofs.Gathering.{Gathers}
use Rattle.scan_plans.proofs.node.+collect.Given as goal

abbrev pub invariant-PlanNodes::collect-loop-node : goal.invariant-PlanNodes::collect-loop-node
invariant-PlanNodes::collect-loop-node l = Gathers l.fn.wants l.wants (plans (drop l.node-index l.node-items)) (plans l.self) (came l.inbox) (true_rows l.first l.mask)
