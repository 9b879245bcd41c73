use Rattle.std.proofs.Common.{◌≡◌, drop}
use Rattle.std.specs.List.{list_any}
use Rattle.scan_expr.specs.Expr.{expr_size}
use Rattle.scan_expr.specs.Bound.{exprs_of}
use Rattle.scan_plans.specs.Formed.{reads}
use Rattle.scan_readers.proofs.reading.+reads_scope.Given as goal

abbrev pub decreases-reads_scope : goal.decreases-reads_scope
decreases-reads_scope l = expr_size l.expr.now.expr

abbrev pub invariant-loop-part : goal.invariant-loop-part
invariant-loop-part l = list_any (reads l.fn.expr.scope) (exprs_of l.parts) ≡ list_any (reads l.fn.expr.scope) (exprs_of (drop l.part-index l.parts))
