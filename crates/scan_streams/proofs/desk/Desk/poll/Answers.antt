use Rattle.scan_streams.specs.Sources.{NoId}
use Rattle.scan_streams.proofs.Asking.{moves_end}
use Rattle.scan_streams.proofs.desk.Desk.poll.Goals as goal

pub returns-in-Failed-clause-source : goal.returns-in-Failed-clause-source
returns-in-Failed-clause-source g c = moves_end NoId c.args.id (g.S.SegmentSource.state c.args.source.now) (g.S.SegmentSource.state c.poll_segment.new.self) c.in-Failed.ensures.polled.0

pub returns-in-Missing-clause-source : goal.returns-in-Missing-clause-source
returns-in-Missing-clause-source g c = moves_end NoId c.args.id (g.S.SegmentSource.state c.args.source.now) (g.S.SegmentSource.state c.poll_segment.new.self) c.in-Missing.ensures.polled.0
