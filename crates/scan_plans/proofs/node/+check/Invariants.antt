use Rattle.std.proofs.Common.{drop}
use Rattle.scan_plans.specs.PlanTree.{plans}
use Rattle.scan_plans.specs.Came.{came}
use Rattle.scan_plans.specs.Meaning.{true_rows}
use Rattle.scan_plans.proofs.Checked.{Inspected}
use Rattle.scan_plans.proofs.node.+check.Given as goal

abbrev pub invariant-PlanNodes::check-loop-node : goal.invariant-PlanNodes::check-loop-node
invariant-PlanNodes::check-loop-node l = Inspected (plans (drop l.node-index l.node-items)) (plans l.self) (came l.inbox) (true_rows l.first l.mask)
