use denote.Param.Send.{sendable}
use Rattle.std.proofs.Crossing as cross
use Rattle.scan_plans.proofs.PlansSent.{Plan-send, Plan-sync}
use Rattle.scan_streams.proofs.threads.scan_plans_cross_threads.Goals as goal

pub crosses-requires-send-T : goal.crosses-requires-send-T
crosses-requires-send-T c κs = let a = Plan-send in let b = Plan-sync in search (sendable, cross.crosses) depth 40

pub crosses-requires-sync-T : goal.crosses-requires-sync-T
crosses-requires-sync-T c κs = let a = Plan-send in let b = Plan-sync in search (sendable, cross.crosses) depth 40
