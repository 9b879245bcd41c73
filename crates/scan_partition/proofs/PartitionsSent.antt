-- Partitioned expressions may cross threads.
use denote.Param.Send.{IsSend, IsSync, sendable}
use Rattle.std.proofs.Crossing as cross
use Rattle.scan_partition.proofs.BoundsSent.{Bound-send, Bound-sync}
use Rattle.scan_partition.specs.contracts.item.Item as Item
use Rattle.scan_partition.specs.contracts.direct.DirectProjection as DirectProjection
use Rattle.scan_partition.specs.contracts.divide.PartitionedExpr as PartitionedExpr
use Rattle.scan_partition.specs.contracts.struct_.Partitioned as Partitioned
use Rattle.scan_partition.specs.contracts.row_idx.PartitionedRowIdx as PartitionedRowIdx

pub Item-send : IsSend Item.the_row
Item-send = search (sendable, cross.crosses) depth 40

pub Item-sync : IsSync Item.the_row
Item-sync = search (sendable, cross.crosses) depth 40

pub Direct-send : IsSend DirectProjection.the_row
Direct-send = search (sendable, cross.crosses) depth 40

pub Direct-sync : IsSync DirectProjection.the_row
Direct-sync = search (sendable, cross.crosses) depth 40

pub Parts-send : IsSend PartitionedExpr.the_row
Parts-send = let a = Bound-send in let b = Item-send in search (sendable, cross.crosses) depth 40

pub Parts-sync : IsSync PartitionedExpr.the_row
Parts-sync = let a = Bound-sync in let b = Item-sync in search (sendable, cross.crosses) depth 40

pub Partitioned-send : IsSend Partitioned.the_row
Partitioned-send = let a = Bound-send in let b = Item-send in let d = Direct-send in let p = Parts-send in search (sendable, cross.crosses) depth 40

pub Partitioned-sync : IsSync Partitioned.the_row
Partitioned-sync = let a = Bound-sync in let b = Item-sync in let d = Direct-sync in let p = Parts-sync in search (sendable, cross.crosses) depth 40

pub RowParts-send : IsSend PartitionedRowIdx.the_row
RowParts-send = let p = Parts-send in search (sendable, cross.crosses) depth 40

pub RowParts-sync : IsSync PartitionedRowIdx.the_row
RowParts-sync = let p = Parts-sync in search (sendable, cross.crosses) depth 40
