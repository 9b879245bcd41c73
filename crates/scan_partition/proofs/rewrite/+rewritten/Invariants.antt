use Rattle.std.proofs.Common.{◌≡◌, map, take}
use Rattle.scan_expr.specs.Expr.{expr_size}
use Rattle.scan_expr.specs.Bound.{bound_of}
use Rattle.scan_partition.specs.Rewrite.{rewritten}
use Rattle.scan_partition.specs.Rewritings.{rules_of}
use Rattle.scan_partition.proofs.rewrite.+rewritten.Given as goal

abbrev pub decreases-rewritten : goal.decreases-rewritten
decreases-rewritten l = expr_size l.expr.now.expr

abbrev pub invariant-loop-part : goal.invariant-loop-part
invariant-loop-part l = l.made.items ≡ map (λ b. bound_of l.scope.value (rewritten (rules_of l.what l.scope.value) b.expr)) (take l.part-index l.parts)
