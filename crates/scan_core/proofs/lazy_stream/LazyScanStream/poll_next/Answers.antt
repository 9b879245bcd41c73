use Rattle.std.proofs.Common.{rules}
use Rattle.scan_streams.proofs.Asking.{moves_self}
use Rattle.scan_core.proofs.Beginning.{live_started, refused_poll, started_applies, started_moves, started_polls}
use Rattle.scan_core.proofs.lazy_stream.LazyScanStream.poll_next.Goals as goal

pub go_on-requires-clause-step : goal.go_on-requires-clause-step
go_on-requires-clause-step g c = started_applies g.M.MapStep.can_apply g.R.LayoutReader.state c.args.self.now c.start.new.self c.start.result c.in-Ok.is c.start.ensures c.requires.step

pub go_on-requires-clause-live : goal.go_on-requires-clause-live
go_on-requires-clause-live g c = live_started g.R.LayoutReader.state (g.S.SegmentSource.state c.args.source.now).live c.args.self.now c.start.new.self c.start.result c.start.ensures c.requires.live

pub returns-in-Ok-clause-source : goal.returns-in-Ok-clause-source
returns-in-Ok-clause-source g c =
    let state = g.S.SegmentSource.state in
    started_moves g.R.LayoutReader.state c.args.self.now c.start.new.self c.start.result (state c.args.source.now) (state c.go_on.new.source) c.in-Ok.is c.start.ensures c.go_on.ensures.source

pub returns-in-Ok-clause-answer : goal.returns-in-Ok-clause-answer
returns-in-Ok-clause-answer g c =
    let state = g.S.SegmentSource.state in
    started_polls g.R.LayoutReader.state g.M.MapStep.answers (state c.args.source.now) (state c.go_on.new.source) c.args.self.now c.start.new.self c.go_on.new.self c.start.result c.go_on.result c.in-Ok.is c.start.ensures c.go_on.ensures.answer

pub returns-in-Err-clause-live : goal.returns-in-Err-clause-live
returns-in-Err-clause-live g c = live_started g.R.LayoutReader.state (g.S.SegmentSource.state c.args.source.now).live c.args.self.now c.start.new.self c.start.result c.start.ensures c.requires.live

pub returns-in-Err-clause-source : goal.returns-in-Err-clause-source
returns-in-Err-clause-source g c = moves_self _ (g.S.SegmentSource.state c.args.source.now)

pub returns-in-Err-clause-answer : goal.returns-in-Err-clause-answer
returns-in-Err-clause-answer g c = refused_poll g.R.LayoutReader.state g.M.MapStep.answers (g.S.SegmentSource.state c.args.source.now) c.args.self.now c.start.new.self c.start.result c.in-Err.fault c.in-Err.is c.start.ensures
