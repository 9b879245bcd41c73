use Rattle.scan_plans.specs.Came.{came}
use Rattle.scan_plans.specs.Meaning.{true_rows}
use Rattle.scan_plans.proofs.Columns.{Filled}
use Rattle.scan_plans.proofs.node.+read.Given as goal

abbrev pub invariant-PlanNodes::read-loop-node : goal.invariant-PlanNodes::read-loop-node
invariant-PlanNodes::read-loop-node l = Filled l.node-index l.self (came l.inbox) (true_rows l.first l.mask) l.columns.items
