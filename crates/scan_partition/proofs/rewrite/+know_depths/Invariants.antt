use Rattle.std.proofs.Common.{drop}
use Rattle.scan_expr.specs.Expr.{expr_size}
use Rattle.scan_partition.proofs.KnownDepths.{AllKnown}
use Rattle.scan_partition.proofs.rewrite.+know_depths.Given as goal

abbrev pub decreases-know_depths : goal.decreases-know_depths
decreases-know_depths l = expr_size l.expr.now.expr

abbrev pub invariant-loop-part : goal.invariant-loop-part
invariant-loop-part l = AllKnown (drop l.part-index l.parts) → AllKnown l.parts
