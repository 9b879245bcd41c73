use denote.Param.Send.{sendable}
use Rattle.scan_plans.proofs.PlansSent.{PlanNode-send, PlanNode-sync, Plan-send, Plan-sync, MaskFuture-send, MaskFuture-sync, ArrayFuture-send, ArrayFuture-sync}
use Rattle.scan_plans.proofs.threads.plans_cross_threads.Goals as goal

pub crosses-requires-send-T : goal.crosses-requires-send-T
crosses-requires-send-T c κs = let a = PlanNode-send in search sendable depth 20

pub crosses-requires-sync-T : goal.crosses-requires-sync-T
crosses-requires-sync-T c κs = let a = PlanNode-sync in search sendable depth 20

pub crosses-requires-2-send-T : goal.crosses-requires-2-send-T
crosses-requires-2-send-T c κs = let a = Plan-send in search sendable depth 20

pub crosses-requires-2-sync-T : goal.crosses-requires-2-sync-T
crosses-requires-2-sync-T c κs = let a = Plan-sync in search sendable depth 20

pub crosses-requires-3-send-T : goal.crosses-requires-3-send-T
crosses-requires-3-send-T c κs = let a = MaskFuture-send in search sendable depth 20

pub crosses-requires-3-sync-T : goal.crosses-requires-3-sync-T
crosses-requires-3-sync-T c κs = let a = MaskFuture-sync in search sendable depth 20

pub crosses-requires-4-send-T : goal.crosses-requires-4-send-T
crosses-requires-4-send-T c κs = let a = ArrayFuture-send in search sendable depth 20

pub crosses-requires-4-sync-T : goal.crosses-requires-4-sync-T
crosses-requires-4-sync-T c κs = let a = ArrayFuture-sync in search sendable depth 20
