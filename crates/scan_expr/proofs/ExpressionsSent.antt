-- Expressions may cross threads.
use denote.Param.Send.{IsSend, IsSync, sendable}
use denote.Model.Local.{Parts, rows}
use Rattle.std.proofs.Crossing as cross
use Rattle.scan_values.proofs.Loose.{Loose, rows_send, rows_sync, tied_loose}
use Rattle.scan_values.proofs.DTypeSent.{DType-send, DType-sync}
use Rattle.scan_values.proofs.ValuesSent.{Value-send, Value-sync, Value-field-send, Value-field-sync}
use Rattle.scan_expr.specs.contracts.expression.Expression as Expression
use Rattle.scan_expr.specs.contracts.expression.Expression.TheKnot as knot
use Rattle.scan_expr.specs.declared.expression.Expression.TheDeep.{the_members, member-Expression}

module _ (p : Parts knot.frame) (h : (j : the_members) (y : (knot.frame).D j) → Loose (p j y)) where
  part_send : IsSend (rows knot.frame p member-Expression)
  part_send = rows_send knot.frame p h member-Expression

  part_sync : IsSync (rows knot.frame p member-Expression)
  part_sync = rows_sync knot.frame p h member-Expression

  node_send : IsSend (knot.at-Node p)
  node_send = let a = part_send in let d = DType-send in let v = Value-send in let f = Value-field-send in search (sendable, cross.crosses) depth 40

  node_sync : IsSync (knot.at-Node p)
  node_sync = let a = part_sync in let d = DType-sync in let v = Value-sync in let f = Value-field-sync in search (sendable, cross.crosses) depth 40

  expression_send : IsSend (knot.at-Expression p)
  expression_send = let n = node_send in search sendable depth 20

  expression_sync : IsSync (knot.at-Expression p)
  expression_sync = let n = node_sync in search sendable depth 20

  view_send : IsSend (knot.view-Expression p)
  view_send = let e = expression_send in search sendable depth 20

  view_sync : IsSync (knot.view-Expression p)
  view_sync = let e = expression_sync in search sendable depth 20

step_loose : (p : Parts knot.frame) → ((j : the_members) (y : (knot.frame).D j) → Loose (p j y)) → (i : the_members) (d : (knot.frame).D i) → Loose (knot.step p i d)
step_loose p h member-Expression d = ((view_send p h).owned d, (view_sync p h).shared d)

pub Expression-send : IsSend Expression.the_row
Expression-send = record { owned = λ x vs. (tied_loose knot.frame knot.step knot.sizes step_loose member-Expression x).0 vs; leaving = λ k x w. tt }

pub Expression-sync : IsSync Expression.the_row
Expression-sync = record { shared = λ x b o κ. (tied_loose knot.frame knot.step knot.sizes step_loose member-Expression x).1 b o κ }
