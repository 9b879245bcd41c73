-- Bound expressions may cross threads.
use denote.Param.Send.{IsSend, IsSync, sendable}
use denote.Model.Local.{Parts}
use Rattle.std.proofs.Crossing as cross
use Rattle.scan_values.proofs.Loose.{Loose, rows_send, rows_sync, tied_loose}
use Rattle.scan_values.proofs.DTypeSent.{DType-send, DType-sync}
use Rattle.scan_values.proofs.ValuesSent.{Value-send, Value-sync, Value-field-send, Value-field-sync}
use Rattle.scan_expr.specs.contracts.bound.BoundExpression as BoundExpression
use Rattle.scan_expr.specs.contracts.bound.BoundExpression.TheKnot as knot
use Rattle.scan_expr.specs.declared.bound.BoundExpression.TheDeep.{the_members, member-BoundExpression}
use Rattle.scan_expr.specs.contracts.bound.Op as Op

Op-send : IsSend Op.the_row
Op-send = let a = DType-send in let b = Value-send in let c = Value-field-send in search (sendable, cross.crosses) depth 40

Op-sync : IsSync Op.the_row
Op-sync = let a = DType-sync in let b = Value-sync in let c = Value-field-sync in search (sendable, cross.crosses) depth 40

module _ (p : Parts knot.frame) (h : (j : the_members) (y : (knot.frame).D j) → Loose (p j y)) where
  bound_send : IsSend (knot.at-BoundExpression p)
  bound_send = let a = rows_send knot.frame p h member-BoundExpression in let o = Op-send in let d = DType-send in let e = DType-sync in search (sendable, cross.crosses) depth 40

  bound_sync : IsSync (knot.at-BoundExpression p)
  bound_sync = let a = rows_sync knot.frame p h member-BoundExpression in let o = Op-sync in let d = DType-send in let e = DType-sync in search (sendable, cross.crosses) depth 40

  view_send : IsSend (knot.view-BoundExpression p)
  view_send = let b = bound_send in search sendable depth 20

  view_sync : IsSync (knot.view-BoundExpression p)
  view_sync = let b = bound_sync in search sendable depth 20

step_loose : (p : Parts knot.frame) → ((j : the_members) (y : (knot.frame).D j) → Loose (p j y)) → (i : the_members) (d : (knot.frame).D i) → Loose (knot.step p i d)
step_loose p h member-BoundExpression d = ((view_send p h).owned d, (view_sync p h).shared d)

pub Bound-send : IsSend BoundExpression.the_row
Bound-send = record { owned = λ x vs. (tied_loose knot.frame knot.step knot.sizes step_loose member-BoundExpression x).0 vs; leaving = λ k x w. tt }

pub Bound-sync : IsSync BoundExpression.the_row
Bound-sync = record { shared = λ x b o κ. (tied_loose knot.frame knot.step knot.sizes step_loose member-BoundExpression x).1 b o κ }
