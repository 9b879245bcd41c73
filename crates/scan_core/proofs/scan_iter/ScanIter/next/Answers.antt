use Rattle.scan_core.proofs.Iterating.{iter_applies, refused_next, started_nexts}
use Rattle.scan_core.proofs.scan_iter.ScanIter.next.Goals as goal

pub go_on-requires : goal.go_on-requires
go_on-requires g c = record { step = iter_applies g.M.MapStep.can_apply g.R.LayoutReader.state c.args.self.now c.start.new.self c.start.result c.in-Ok.is c.start.ensures c.requires.step }

pub returns-in-Ok : goal.returns-in-Ok
returns-in-Ok g c = record {
  answer = started_nexts g.R.LayoutReader.state g.S.SegmentSource.state g.M.MapStep.answers c.args.self.now c.start.new.self c.go_on.new.self c.start.result c.go_on.result c.in-Ok.is c.start.ensures c.go_on.ensures.answer;
}

pub returns-in-Err : goal.returns-in-Err
returns-in-Err g c = record { answer = refused_next g.R.LayoutReader.state g.S.SegmentSource.state g.M.MapStep.answers c.args.self.now c.start.new.self c.start.result c.in-Err.fault c.in-Err.is c.start.ensures }
