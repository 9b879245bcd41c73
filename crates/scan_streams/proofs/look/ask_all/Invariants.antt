use Rattle.std.proofs.Common.{drop}
use Rattle.scan_streams.specs.Sources.{SourceMoves}
use Rattle.scan_streams.specs.Desks.{Agree}
use Rattle.scan_streams.specs.Looks.{Among}
use Rattle.scan_streams.proofs.Asking.{Asking}
use Rattle.scan_streams.proofs.look.ask_all.Given as goal

abbrev pub invariant-loop-id : goal.invariant-loop-id
invariant-loop-id g l = record {
  agree : Agree (g.S.SegmentSource.state l.source).live l.desk;
  moves : SourceMoves (Among l.ids) (g.S.SegmentSource.state l.fn.source) (g.S.SegmentSource.state l.source);
  asking : Asking (drop l.id-index l.ids) l.ids l.place l.fn.desk l.desk;
}
