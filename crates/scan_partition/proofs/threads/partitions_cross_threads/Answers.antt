use denote.Param.Send.{sendable}
use Rattle.std.proofs.Crossing as cross
use Rattle.scan_partition.proofs.BoundsSent.{Bound-send, Bound-sync}
use Rattle.scan_partition.proofs.PartitionsSent.{Item-send, Item-sync, Direct-send, Direct-sync, Parts-send, Parts-sync, Partitioned-send, Partitioned-sync, RowParts-send, RowParts-sync}
use Rattle.scan_partition.proofs.threads.partitions_cross_threads.Goals as goal

pub crosses-requires-4-send-T : goal.crosses-requires-4-send-T
crosses-requires-4-send-T c κs = let a = Bound-send in let b = Item-send in let d = Direct-send in let p = Parts-send in let t = Partitioned-send in search (sendable, cross.crosses) depth 40

pub crosses-requires-4-sync-T : goal.crosses-requires-4-sync-T
crosses-requires-4-sync-T c κs = let a = Bound-sync in let b = Item-sync in let d = Direct-sync in let p = Parts-sync in let t = Partitioned-sync in search (sendable, cross.crosses) depth 40

pub crosses-requires-7-send-T : goal.crosses-requires-7-send-T
crosses-requires-7-send-T c κs = let a = Bound-send in let p = RowParts-send in search sendable depth 40

pub crosses-requires-7-sync-T : goal.crosses-requires-7-sync-T
crosses-requires-7-sync-T c κs = let a = Bound-sync in let p = RowParts-sync in search sendable depth 40

pub crosses-requires-6-sync-T : goal.crosses-requires-6-sync-T
crosses-requires-6-sync-T c κs = let a = Bound-sync in let p = RowParts-sync in search sendable depth 40
