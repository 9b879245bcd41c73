use Rattle.std.proofs.Common.{◌≡◌, take}
use Rattle.scan_expr.specs.Expr.{expr_size}
use Rattle.scan_expr.specs.Bound.{exprs_of}
use Rattle.scan_partition.specs.Items.{no_use}
use Rattle.scan_partition.specs.Soles.{sole_of}
use Rattle.scan_partition.proofs.Uses.{folded}
use Rattle.scan_partition.proofs.cuts.+items_used.Given as goal

abbrev pub decreases-items_used : goal.decreases-items_used
decreases-items_used l = expr_size l.expr.now.expr

abbrev pub invariant-loop-part : goal.invariant-loop-part
invariant-loop-part l = sole_of l.all ≡ folded no_use (exprs_of (take l.part-index l.parts))
