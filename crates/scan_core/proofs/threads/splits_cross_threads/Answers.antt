use denote.Param.Send.{sendable}
use Rattle.std.proofs.Crossing as cross
use Rattle.scan_plans.proofs.PlansSent.{ArrayFuture-send, ArrayFuture-sync}
use Rattle.scan_core.proofs.threads.splits_cross_threads.Goals as goal

pub crosses-requires-send-T : goal.crosses-requires-send-T
crosses-requires-send-T g c κs = let a = ArrayFuture-send in search (sendable, cross.crosses) depth 40

pub crosses-requires-sync-T : goal.crosses-requires-sync-T
crosses-requires-sync-T g c κs = let a = ArrayFuture-sync in search (sendable, cross.crosses) depth 40
