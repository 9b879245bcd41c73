use Rattle.scan_drive.specs.Sources.{NoId}
use Rattle.scan_drive.proofs.Asking.{moves_ends}
use Rattle.scan_drive.proofs.desk.Desk.poll.Goals as goal

pub returns-in-Failed-clause-source : goal.returns-in-Failed-clause-source
returns-in-Failed-clause-source g c = let state = g.S.SegmentSource.state in moves_ends NoId c.args.id (state c.args.source.now) (state c.poll_segment.new.self) c.in-Failed.ensures.polled.0

pub returns-in-Missing-clause-source : goal.returns-in-Missing-clause-source
returns-in-Missing-clause-source g c = let state = g.S.SegmentSource.state in moves_ends NoId c.args.id (state c.args.source.now) (state c.poll_segment.new.self) c.in-Missing.ensures.polled.0
