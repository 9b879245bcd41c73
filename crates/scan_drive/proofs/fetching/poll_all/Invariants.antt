use Rattle.std.proofs.Common.{◌≡◌, ℕ, drop}
use Rattle.scan_drive.specs.Desks.{Agree}
use Rattle.scan_drive.specs.Grounds.{SourceFollows}
use Rattle.scan_drive.specs.Links.{Linked, StaysLinked, KeepsTold}
use Rattle.scan_drive.specs.Losses.{KeepsCounts}
use Rattle.scan_drive.specs.Measures.{EachAdvances}
use Rattle.scan_drive.specs.Sources.{SourceMoves, NoId}
use Rattle.scan_drive.specs.Trades.{Trades}
use Rattle.scan_drive.proofs.Bringing.{Fetching}
use Rattle.scan_drive.proofs.fetching.poll_all.Given as goal

abbrev pub invariant-loop-id : goal.invariant-loop-id
invariant-loop-id g l = record {
  agree : Agree (g.S.SegmentSource.state l.source).live l.desk;
  name : l.key.source_id ≡ l.fn.key.source_id;
  linked : (file : ℕ) × Linked file l.desk l.slots.items;
  moves : SourceMoves NoId (g.S.SegmentSource.state l.fn.source) (g.S.SegmentSource.state l.source);
  trades : Trades l.fn.key.source_id (g.S.SegmentSource.state l.fn.source) (g.S.SegmentSource.state l.source) (g.C.KeyedSegmentCache.cache l.fn.cache) (g.C.KeyedSegmentCache.cache l.cache);
  counts : KeepsCounts l.fn.key.source_id (g.S.SegmentSource.state l.fn.source) (g.S.SegmentSource.state l.source) (g.C.KeyedSegmentCache.cache l.fn.cache) (g.C.KeyedSegmentCache.cache l.cache) l.slots.items;
  keeps : KeepsTold g.W.SplitWork.split g.W.SplitWork.comes g.W.SplitWork.items (g.S.SegmentSource.state l.fn.source).holds l.fn.slots.items l.slots.items;
  links : StaysLinked l.fn.desk l.desk l.fn.slots.items l.slots.items;
  follows : SourceFollows (g.S.SegmentSource.state l.fn.source) (g.S.SegmentSource.state l.source) l.fn.slots.items l.slots.items;
  advances : EachAdvances g.W.SplitWork.split l.fn.slots.items l.slots.items;
  nearer : Fetching g.W.SplitWork.split l.ids (drop l.id-index l.ids) (g.S.SegmentSource.state l.fn.source) (g.S.SegmentSource.state l.source) l.fn.desk l.desk l.fn.slots.items l.slots.items;
}
