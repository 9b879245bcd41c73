use Rattle.std.proofs.Common.{◌≡◌, drop}
use Rattle.scan_expr.proofs.Sames.{rows_in}
use Rattle.scan_expr.proofs.bound.BoundExpression.+uses_row_idx.Given as goal

abbrev pub invariant-loop-child : goal.invariant-loop-child
invariant-loop-child l = rows_in l.child-items ≡ rows_in (drop l.child-index l.child-items)
