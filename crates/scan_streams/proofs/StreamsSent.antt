-- Streams may go over to other threads.
use denote.Param.Send.{IsSend, IsSync, sendable}
use Rattle.std.proofs.Crossing as cross
use Rattle.std.proofs.MapsCrossing as maps
use Rattle.scan_values.proofs.DTypeSent.{DType-send}
use Rattle.scan_values.specs.contracts.selection.Selection as Selection
use Rattle.scan_segments.proofs.BytesSent.{ByteBuffer-send}
use Rattle.scan_columns.proofs.ColumnsSent.{Column-send}
use Rattle.scan_plans.specs.contracts.plan.Plan as Plan
use Rattle.scan_plans.proofs.PlansSent.{Plan-send, Plan-sync, ArrayFuture-send}
use Rattle.scan_splits.specs.contracts.inbox.Inbox as Inbox
use Rattle.scan_splits.specs.contracts.wanted.WantedIds as WantedIds
use Rattle.scan_limit.specs.contracts.limit.RowLimit as RowLimit
use Rattle.scan_limit.proofs.limit.RowLimit.TheSendSync as limit
use Rattle.scan_limit.proofs.seat.LimitSeat.TheSendSync as seat
use Rattle.scan_streams.specs.contracts.claims.Claims as Claims
use Rattle.scan_streams.specs.contracts.desk.Desk as Desk
use Rattle.scan_streams.specs.contracts.feed.Feed as Feed
use Rattle.scan_streams.specs.contracts.places.Places as Places
use Rattle.scan_streams.specs.contracts.plans.ScanPlans as ScanPlans
use Rattle.scan_streams.specs.contracts.queue.SplitQueue as SplitQueue
use Rattle.scan_streams.specs.contracts.queue.SplitRows as SplitRows
use Rattle.scan_streams.specs.contracts.reading.Reading as Reading
use Rattle.scan_streams.specs.contracts.run.Run as Run
use Rattle.scan_streams.specs.contracts.slot.Slot as Slot

inbox_send : IsSend Inbox.the_row
inbox_send = let b = ByteBuffer-send in search (sendable, cross.crosses, maps.crosses) depth 40

wanted_send : IsSend WantedIds.the_row
wanted_send = search (sendable, cross.crosses) depth 40

run_send : IsSend Run.the_row
run_send = let a = ArrayFuture-send in let b = inbox_send in let d = wanted_send in search (sendable, cross.crosses) depth 40

slot_send : IsSend Slot.the_row
slot_send = let a = run_send in let b = Column-send in search sendable depth 40

places_send : IsSend Places.the_row
places_send = search (sendable, cross.crosses) depth 40

desk_send : IsSend Desk.the_row
desk_send = let a = places_send in search (sendable, cross.crosses, maps.crosses) depth 40

claims_send : IsSend Claims.the_row
claims_send = let a = cross.Arc-send RowLimit.the_row limit.the_send limit.the_sync in let b = seat.the_send in search sendable depth 40

plans_send : IsSend ScanPlans.the_row
plans_send = let a = cross.Arc-send Plan.the_row Plan-send Plan-sync in search (sendable, cross.crosses) depth 40

plans_sync : IsSync ScanPlans.the_row
plans_sync = let a = cross.Arc-sync Plan.the_row Plan-send Plan-sync in search (sendable, cross.crosses) depth 40

selection_send : IsSend Selection.the_row
selection_send = search (sendable, cross.crosses) depth 40

selection_sync : IsSync Selection.the_row
selection_sync = search (sendable, cross.crosses) depth 40

rows_send : IsSend SplitRows.the_row
rows_send = search (sendable, cross.crosses) depth 40

queue_send : IsSend SplitQueue.the_row
queue_send =
    let a = cross.Arc-send ScanPlans.the_row plans_send plans_sync in
    let b = cross.Arc-send Selection.the_row selection_send selection_sync in
    let d = cross.Deque-send SplitRows.the_row rows_send in
    search sendable depth 60

reading_field_send : IsSend (Reading.the_field).row
reading_field_send =
    let a = queue_send in
    let b = cross.Vec-send Slot.the_row slot_send in
    let d = desk_send in
    search (sendable, cross.crosses) depth 60

pub Feed-send : IsSend Feed.the_row
Feed-send = let a = DType-send in let b = reading_field_send in let d = claims_send in search (sendable, cross.crosses) depth 60
