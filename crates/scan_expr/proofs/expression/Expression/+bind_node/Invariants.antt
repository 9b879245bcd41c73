use Rattle.scan_expr.proofs.Binds.{AreBound}
use Rattle.scan_expr.proofs.expression.Expression.+bind_node.Given as goal

abbrev pub invariant-loop-part : goal.invariant-loop-part
invariant-loop-part l = AreBound l.scope.value l.part-items l.part-index l.bound.items
