use Rattle.std.proofs.Common.{◌≡◌, drop, length}
use Rattle.scan_expr.proofs.Sames.{same_bounds}
use Rattle.scan_expr.proofs.bound.BoundExpression.+same_expr.Given as goal

abbrev pub invariant-loop-child : goal.invariant-loop-child
invariant-loop-child l = record { place : l.i ≡ l.child-index; same : same_bounds l.child-items l.others ≡ same_bounds (drop l.child-index l.child-items) (drop l.child-index l.others); even : length l.child-items ≡ length l.others }
