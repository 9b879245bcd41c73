-- Plans and what is made of them may cross threads.
use denote.Param.Send.{IsSend, IsSync, sendable}
use denote.Model.Local.{Parts, rows}
use Rattle.std.proofs.Crossing as cross
use Rattle.scan_values.specs.contracts.array.Array as Array
use Rattle.scan_values.specs.contracts.dtype.DType as DType
use Rattle.scan_values.specs.contracts.mask.Mask as Mask
use Rattle.scan_values.proofs.ArraysSent.{Array-send, Array-sync}
use Rattle.scan_values.proofs.DTypeSent.{DType-send, DType-sync}
use Rattle.scan_values.proofs.Loose.{Loose, rows_send, rows_sync, tied_loose}
use Rattle.scan_splits.specs.contracts.segment_runs.SegmentRuns as SegmentRuns
use Rattle.scan_plans.specs.contracts.offsets.Offsets as Offsets
use Rattle.scan_plans.specs.contracts.node.PlanNode as PlanNode
use Rattle.scan_plans.specs.contracts.node.PlanNode.TheKnot as knot
use Rattle.scan_plans.specs.declared.node.PlanNode.TheDeep.{the_members, member-PlanNode, member-PlanNodes}
use Rattle.scan_plans.specs.contracts.plan.Plan as Plan
use Rattle.scan_plans.specs.contracts.mask.Filter as Filter
use Rattle.scan_plans.specs.contracts.mask.MaskFuture as MaskFuture
use Rattle.scan_plans.specs.contracts.future.ArrayFuture as ArrayFuture
use Rattle.scan_plans.specs.contracts.future.Source as Source
use Rattle.scan_plans.proofs.BoundsSent.{Bound-send, Bound-sync}

runs_send : IsSend SegmentRuns.the_row
runs_send = search (sendable, cross.crosses) depth 30

runs_sync : IsSync SegmentRuns.the_row
runs_sync = search (sendable, cross.crosses) depth 30

offsets_send : IsSend Offsets.the_row
offsets_send = let a = cross.Arc-send DType.the_row DType-send DType-sync in let b = cross.Arc-send SegmentRuns.the_row runs_send runs_sync in search sendable depth 40

offsets_sync : IsSync Offsets.the_row
offsets_sync = let a = cross.Arc-sync DType.the_row DType-send DType-sync in let b = cross.Arc-sync SegmentRuns.the_row runs_send runs_sync in search sendable depth 40

mask_send : IsSend Mask.the_row
mask_send = search (sendable, cross.crosses) depth 30

mask_sync : IsSync Mask.the_row
mask_sync = search (sendable, cross.crosses) depth 30

module _ (p : Parts knot.frame) (h : (j : the_members) (y : (knot.frame).D j) → Loose (p j y)) where
  kind_send : IsSend (knot.at-Kind p)
  kind_send =
      let a = cross.Arc-send DType.the_row DType-send DType-sync in let b = cross.Arc-send SegmentRuns.the_row runs_send runs_sync in let c = cross.Arc-send Array.the_row Array-send Array-sync in let d = Bound-send in let o = offsets_send in
      let e = rows_send knot.frame p h member-PlanNodes in let f = cross.Box-send (rows knot.frame p member-PlanNode) (rows_send knot.frame p h member-PlanNode) in search sendable depth 60

  kind_sync : IsSync (knot.at-Kind p)
  kind_sync =
      let a = cross.Arc-sync DType.the_row DType-send DType-sync in let b = cross.Arc-sync SegmentRuns.the_row runs_send runs_sync in let c = cross.Arc-sync Array.the_row Array-send Array-sync in let d = Bound-sync in let o = offsets_sync in
      let e = rows_sync knot.frame p h member-PlanNodes in let f = cross.Box-sync (rows knot.frame p member-PlanNode) (rows_sync knot.frame p h member-PlanNode) in search sendable depth 60

  node_send : IsSend (knot.view-PlanNode p)
  node_send = let a = kind_send in search sendable depth 20

  node_sync : IsSync (knot.view-PlanNode p)
  node_sync = let a = kind_sync in search sendable depth 20

  nodes_send : IsSend (knot.view-PlanNodes p)
  nodes_send = let a = cross.Vec-send (rows knot.frame p member-PlanNode) (rows_send knot.frame p h member-PlanNode) in search sendable depth 20

  nodes_sync : IsSync (knot.view-PlanNodes p)
  nodes_sync = let a = cross.Vec-sync (rows knot.frame p member-PlanNode) (rows_sync knot.frame p h member-PlanNode) in search sendable depth 20

step_loose : (p : Parts knot.frame) → ((j : the_members) (y : (knot.frame).D j) → Loose (p j y)) → (i : the_members) (d : (knot.frame).D i) → Loose (knot.step p i d)
step_loose p h member-PlanNode d = ((node_send p h).owned d, (node_sync p h).shared d)
step_loose p h member-PlanNodes d = ((nodes_send p h).owned d, (nodes_sync p h).shared d)

pub PlanNode-send : IsSend PlanNode.the_row
PlanNode-send = record { owned = λ x vs. (tied_loose knot.frame knot.step knot.sizes step_loose member-PlanNode x).0 vs; leaving = λ k x w. tt }

pub PlanNode-sync : IsSync PlanNode.the_row
PlanNode-sync = record { shared = λ x b o κ. (tied_loose knot.frame knot.step knot.sizes step_loose member-PlanNode x).1 b o κ }

pub Plan-send : IsSend Plan.the_row
Plan-send = let a = Bound-send in let b = PlanNode-send in search sendable depth 40

pub Plan-sync : IsSync Plan.the_row
Plan-sync = let a = Bound-sync in let b = PlanNode-sync in search sendable depth 40

filter_send : IsSend Filter.the_row
filter_send = let a = cross.Arc-send Plan.the_row Plan-send Plan-sync in search sendable depth 40

filter_sync : IsSync Filter.the_row
filter_sync = let a = cross.Arc-sync Plan.the_row Plan-send Plan-sync in search sendable depth 40

pub MaskFuture-send : IsSend MaskFuture.the_row
MaskFuture-send = let a = mask_send in let b = cross.Vec-send Filter.the_row filter_send in search sendable depth 40

pub MaskFuture-sync : IsSync MaskFuture.the_row
MaskFuture-sync = let a = mask_sync in let b = cross.Vec-sync Filter.the_row filter_sync in search sendable depth 40

source_field_send : IsSend (Source.the_field).row
source_field_send = let a = MaskFuture-send in let b = Array-send in let c = cross.Arc-send Plan.the_row Plan-send Plan-sync in search sendable depth 40

source_field_sync : IsSync (Source.the_field).row
source_field_sync = let a = MaskFuture-sync in let b = Array-sync in let c = cross.Arc-sync Plan.the_row Plan-send Plan-sync in search sendable depth 40

pub ArrayFuture-send : IsSend ArrayFuture.the_row
ArrayFuture-send = let a = source_field_send in let b = cross.Vec-send MaskFuture.the_row MaskFuture-send in search sendable depth 60

pub ArrayFuture-sync : IsSync ArrayFuture.the_row
ArrayFuture-sync = let a = source_field_sync in let b = cross.Vec-sync MaskFuture.the_row MaskFuture-sync in search sendable depth 60
