use Rattle.std.proofs.Common.{◌+◌, ◌*◌, drop}
use Rattle.std.specs.Fmt.{IsPlainFormatter}
use Rattle.scan_values.proofs.Left.{Left}
use Rattle.scan_plans.specs.PlanTree.{plans, tree_size, trees_size}
use Rattle.scan_plans.specs.Shown.{shown_trees}
use Rattle.scan_plans.proofs.shown.+show.Given as goal

abbrev pub decreases-show_node : goal.decreases-show_node
decreases-show_node g l = 3 * tree_size l.node.now

abbrev pub decreases-show_below : goal.decreases-show_below
decreases-show_below g l = 3 * tree_size l.node.now + 1

abbrev pub decreases-show_nodes : goal.decreases-show_nodes
decreases-show_nodes g l = 3 * trees_size (plans l.nodes.now) + 2

abbrev pub invariant-show_nodes-loop-node : goal.invariant-show_nodes-loop-node
invariant-show_nodes-loop-node g l =
    IsPlainFormatter l.initial.f → Left g.W.Write.write_str_gives l.initial.f (shown_trees l.depth (plans l.node-items))
    (shown_trees l.depth (plans (drop l.node-index l.node-items))) l.f
