use Rattle.scan_streams.specs.Sources.{SourceMoves, NoId}
use Rattle.scan_streams.specs.Desks.{Agree}
use Rattle.scan_streams.specs.Readings.{Linked}
use Rattle.scan_streams.proofs.Sweeping.{Sweeps}
use Rattle.scan_streams.proofs.look.poll_all.Given as goal

abbrev pub invariant-loop-id : goal.invariant-loop-id
invariant-loop-id g l = record {
  agree : Agree (g.S.SegmentSource.state l.source).live l.desk;
  links : Linked l.desk l.slots.items;
  moves : SourceMoves NoId (g.S.SegmentSource.state l.fn.source) (g.S.SegmentSource.state l.source);
  sweeps : Sweeps l.ids l.id-index l.came l.fn.slots.items l.slots.items l.fn.news.items l.news.items l.fn.desk l.desk (g.S.SegmentSource.state l.fn.source) (g.S.SegmentSource.state l.source);
}
