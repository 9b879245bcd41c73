use Rattle.std.proofs.Common.{List}
use Rattle.scan_drive.specs.Batches.{AreFree}
use Rattle.scan_drive.specs.Handed.{Hands, made_by, named_in}
use Rattle.scan_drive.specs.Rounds.{steps_left}
use Rattle.scan_drive.proofs.Waited.{Waited}
use Rattle.scan_drive.proofs.rounds.wait_rounds.Given as goal

abbrev pub invariant-rounds : goal.invariant-rounds
invariant-rounds g l = record {
  hands : Hands (made_by g.T.FromChunk.made (named_in l.fn.order.items)) g.T.FromChunk.fits g.K.ChunkSink.takes l.fn.sink l.sink
      (Waited (g.X.SplitOpener.state l.fn.context) g.X.SplitOpener.polls (g.X.SplitOpener.refuses l.fn.context) (g.X.SplitOpener.admits l.fn.context) g.S.SegmentSource.state g.W.SplitWork.split g.W.SplitWork.comes g.W.SplitWork.items
      l.workers l.fn.files.items (g.C.KeyedSegmentCache.cache l.fn.cache) l.fn.drive l.files.items l.desks.items (g.C.KeyedSegmentCache.cache l.cache) l.drive);
  free : AreFree l.seats;
}

abbrev pub decreases-rounds : goal.decreases-rounds
decreases-rounds g l = steps_left (g.X.SplitOpener.state l.fn.context) g.S.SegmentSource.state g.W.SplitWork.split l.files.items l.drive
