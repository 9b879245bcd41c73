use denote.Param.Send.{sendable}
use Rattle.std.proofs.Crossing as cross
use Rattle.scan_expr.proofs.ExpressionsSent.{Expression-send, Expression-sync}
use Rattle.scan_expr.proofs.threads.expressions_cross_threads.Goals as goal

pub crosses-requires-3-send-T : goal.crosses-requires-3-send-T
crosses-requires-3-send-T c κs = let e = Expression-send in search (sendable, cross.crosses) depth 40

pub crosses-requires-3-sync-T : goal.crosses-requires-3-sync-T
crosses-requires-3-sync-T c κs = let e = Expression-sync in search (sendable, cross.crosses) depth 40
