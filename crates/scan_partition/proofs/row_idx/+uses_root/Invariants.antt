use Rattle.std.proofs.Common.{◌≡◌, drop}
use Rattle.scan_expr.specs.Expr.{expr_size}
use Rattle.scan_partition.proofs.RootUses.{any_root}
use Rattle.scan_partition.proofs.row_idx.+uses_root.Given as goal

abbrev pub decreases-uses_root : goal.decreases-uses_root
decreases-uses_root l = expr_size l.expr.now.expr

abbrev pub invariant-loop-part : goal.invariant-loop-part
invariant-loop-part l = any_root l.parts ≡ any_root (drop l.part-index l.parts)
