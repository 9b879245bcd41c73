use Rattle.std.proofs.Common.{◌≡◌, take}
use Rattle.scan_expr.specs.Expr.{expr_size}
use Rattle.scan_expr.specs.Bound.{exprs_of}
use Rattle.scan_partition.specs.declared.list_.ListChildrenNeeded.TheVariants.{Validity}
use Rattle.scan_partition.proofs.Necessary.{greatest}
use Rattle.scan_partition.proofs.list_.+necessary_children.Given as goal

abbrev pub decreases-necessary_children : goal.decreases-necessary_children
decreases-necessary_children l = expr_size l.expr.now.expr

abbrev pub invariant-loop-part : goal.invariant-loop-part
invariant-loop-part l = l.needed ≡ greatest Validity (exprs_of (take l.part-index l.parts))
