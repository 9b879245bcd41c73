use denote.Param.Send.{sendable}
use Rattle.std.proofs.Crossing as cross
use Rattle.scan_streams.proofs.StreamsSent.{Feed-send}
use Rattle.scan_streams.proofs.threads.streams_cross_threads.Goals as goal

pub goes_over-requires-send-T : goal.goes_over-requires-send-T
goes_over-requires-send-T g c κs within = let a = Feed-send in search (sendable, cross.crosses) depth 40
