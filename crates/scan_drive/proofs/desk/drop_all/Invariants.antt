use Rattle.std.proofs.Common.{◌≡◌, length}
use Rattle.std.specs.Prelude.{◌⊎◌}
use Rattle.scan_drive.specs.Sources.{SourceMoves, NoId}
use Rattle.scan_drive.specs.Desks.{Agree, HasWaiter}
use Rattle.scan_drive.proofs.desk.drop_all.Given as goal

abbrev pub invariant-drops : goal.invariant-drops
invariant-drops g l = record {
  agree : Agree (g.S.SegmentSource.state l.source).live l.waiters.entries;
  moves : SourceMoves NoId (g.S.SegmentSource.state l.fn.source) (g.S.SegmentSource.state l.source);
  awaited : (l.waiters.entries ≡ l.fn.waiters.entries) ⊎ HasWaiter l.fn.waiters.entries;
}

abbrev pub decreases-drops : goal.decreases-drops
decreases-drops g l = length l.waiters.entries
