use Rattle.std.proofs.Common.{◌≡◌, ◌+◌, ◌*◌, map, take}
use Rattle.scan_expr.specs.Expr.{expr_size}
use Rattle.scan_expr.specs.Bound.{bound_of, exprs_of}
use Rattle.scan_partition.specs.Planted.{list_planted}
use Rattle.scan_partition.specs.Leaves.{groups_in, leaves_from, scope_in}
use Rattle.scan_partition.proofs.Planting.{sizes}
use Rattle.scan_partition.proofs.root.+planting.Given as goal

abbrev pub decreases-plant : goal.decreases-plant
decreases-plant l = 3 * expr_size l.expr.now.expr + 2

abbrev pub decreases-plant_parts : goal.decreases-plant_parts
decreases-plant_parts l = 3 * expr_size l.expr.now.expr + 1

abbrev pub decreases-plant_all : goal.decreases-plant_all
decreases-plant_all l = 3 * sizes (exprs_of l.exprs.now) + 3

abbrev pub invariant-plant_all-loop-expr : goal.invariant-plant_all-loop-expr
invariant-plant_all-loop-expr l = record {
  made : l.planted.items ≡ map (bound_of (scope_in l.leaves)) ((list_planted (groups_in l.leaves) (leaves_from l.at l.leaves) (exprs_of (take l.expr-index l.exprs))).0);
  left : leaves_from l.next l.leaves ≡ (list_planted (groups_in l.leaves) (leaves_from l.at l.leaves) (exprs_of (take l.expr-index l.exprs))).1;
}
