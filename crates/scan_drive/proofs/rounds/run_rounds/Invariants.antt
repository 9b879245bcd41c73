use Rattle.std.proofs.Common.{◌≡◌, length}
use Rattle.std.specs.List.{range_with_len}
use Rattle.scan_drive.specs.Batches.{AreFree}
use Rattle.scan_drive.specs.Handed.{with_taken, Hands, made_by}
use Rattle.scan_drive.specs.Line.{exchanged, placed_by}
use Rattle.scan_drive.specs.Phases.{unopened}
use Rattle.scan_drive.proofs.Lined.{Lined}
use Rattle.scan_drive.proofs.rounds.run_rounds.Given as goal

abbrev pub invariant-opens : goal.invariant-opens
invariant-opens g l = record {
  hands : Hands (made_by g.T.FromChunk.made (placed_by l.exchanges.items)) g.T.FromChunk.fits g.K.ChunkSink.takes l.fn.sink l.sink
      (λ us. Lined (g.X.SplitOpener.state l.fn.context) g.X.SplitOpener.polls (g.X.SplitOpener.refuses l.fn.context) (g.X.SplitOpener.admits l.fn.context) g.S.SegmentSource.state g.W.SplitWork.split g.W.SplitWork.comes g.W.SplitWork.items
      (g.C.KeyedSegmentCache.cache l.fn.cache) l.fn.drive l.workers l.fn.files.items l.exchanges.items l.files.items l.desks.items (g.C.KeyedSegmentCache.cache l.cache) (with_taken us l.drive));
  free : AreFree l.seats;
  order : l.order.items ≡ exchanged l.exchanges.items (range_with_len 0 (length l.fn.files.items));
}

abbrev pub decreases-opens : goal.decreases-opens
decreases-opens g l = unopened l.drive.phases.items
