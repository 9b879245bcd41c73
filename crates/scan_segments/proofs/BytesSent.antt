-- Bytes of a segment may cross threads, and be shared by them.
use denote.Param.Send.{IsSend, IsSync, sendable}
use Rattle.std.proofs.Crossing as cross
use Rattle.counted_slot.proofs.Counted.TheSendSync as counted
use Rattle.scan_segments.specs.contracts.segment.ByteBuffer as ByteBuffer
use Rattle.scan_segments.specs.contracts.text_ends.Bytes as Bytes
use Rattle.scan_segments.specs.contracts.text_ends.KnownEnds as KnownEnds
use Rattle.scan_segments.specs.contracts.text_ends.Places as Places
use Rattle.scan_segments.specs.contracts.text_ends.Shared as Shared
use Rattle.scan_segments.specs.contracts.text_ends.TextEnds as TextEnds

places_send : IsSend Places.the_row
places_send = search (sendable, cross.crosses) depth 40

places_sync : IsSync Places.the_row
places_sync = search (sendable, cross.crosses) depth 40

pub TextEnds-send : IsSend TextEnds.the_row
TextEnds-send = let a = cross.Arc-send Places.the_row places_send places_sync in search (sendable, cross.crosses) depth 40

pub TextEnds-sync : IsSync TextEnds.the_row
TextEnds-sync = let a = cross.Arc-sync Places.the_row places_send places_sync in search (sendable, cross.crosses) depth 40

known_send : IsSend KnownEnds.the_row
known_send = let a = TextEnds-send in search (sendable, cross.crosses) depth 40

known_sync : IsSync KnownEnds.the_row
known_sync = let a = TextEnds-sync in search (sendable, cross.crosses) depth 40

shared_send : IsSend Shared.the_row
shared_send = let a = known_send in search (sendable, cross.crosses, counted.the_send) depth 40

shared_sync : IsSync Shared.the_row
shared_sync = let a = known_send in let b = known_sync in search (sendable, cross.crosses, counted.the_sync) depth 40

pub ByteBuffer-send : IsSend ByteBuffer.the_row
ByteBuffer-send = let a = cross.Arc-send Shared.the_row shared_send shared_sync in search (sendable, cross.crosses) depth 40

pub ByteBuffer-sync : IsSync ByteBuffer.the_row
ByteBuffer-sync = let a = cross.Arc-sync Shared.the_row shared_send shared_sync in search (sendable, cross.crosses) depth 40
