use Rattle.std.proofs.Common.{◌+◌, ◌*◌, ◌≤◌, ◌<◌, List, true, refl, ap, ◌∙◌, subst, arith, rules}
use Rattle.std.proofs.Math.ListN.{drop_of_length-le}
use Rattle.std.proofs.Output.{has_written_of_eq}
use Rattle.scan_plans.specs.PlanTree.{PlanTree, plans, tree_size, trees_size}
use Rattle.scan_plans.specs.Shown.{shown_below, shown_trees}
use Rattle.scan_values.proofs.Left.{begun, goes_on, ended}
use Rattle.scan_plans.proofs.Showing.{next_plan}
use Rattle.scan_plans.proofs.shown.+show.Goals as goal

pub show_nodes-loop-node-init : goal.show_nodes-loop-node-init
show_nodes-loop-node-init g t c = λ p. begun g.W.Write.write_str_gives _ _ p

pub show_nodes-show_below-requires : goal.show_nodes-show_below-requires
show_nodes-show_below-requires g t c =
    let items = c.deref-node-items.ensures.value ∙ c.nodes.view_is in
    let e = (next_plan c.args.depth c.deref-node-items.result.now c.loop-node.node-index c.node-item.result c.loop-node-test.true c.node-item.is).0 in
    let fits : tree_size c.node-item.result + 1 ≤ trees_size (plans c.args.nodes.now) = subst (λ (ps : List PlanTree). tree_size c.node-item.result + 1 ≤ trees_size (plans ps)) items e in
    let smaller : 3 * tree_size c.node-item.result + 1 < 3 * trees_size (plans c.args.nodes.now) + 2 = omega (arith, fits) in
    search rules

pub show_nodes-loop-node-preserved : goal.show_nodes-loop-node-preserved
show_nodes-loop-node-preserved g t c =
    λ p.
    let so_far = c.loop-node.invariant p in
    goes_on g.W.Write.write_str_gives _ _ _ _ (shown_below c.args.depth c.node-item.result) _ _
    (next_plan c.args.depth c.deref-node-items.result.now c.loop-node.node-index c.node-item.result c.loop-node-test.true c.node-item.is).1
    so_far (c.in_ok-show_below.ensures so_far.wrote.plain (refl {a = true}))

pub show_nodes-returns : goal.show_nodes-returns
show_nodes-returns g t c =
    λ p ok.
    has_written_of_eq g.W.Write.write_str_gives _ _ _ _ (ap (λ (ps : List PlanTree). shown_trees c.args.depth (plans ps)) (c.deref-node-items.ensures.value ∙ c.nodes.view_is))
    (ended g.W.Write.write_str_gives _ _ _ _
    (ap (λ (ps : List PlanTree). shown_trees c.args.depth (plans ps)) (drop_of_length-le c.deref-node-items.result.now c.loop-node-test.false))
    (c.loop-node.invariant p))
