use Rattle.std.proofs.Common.{◌≡◌, drop, Some}
use Rattle.scan_segments.specs.Source.{Store}
use Rattle.scan_drive.specs.Desks.{Agree}
use Rattle.scan_drive.specs.Drivings.{IsKeptIn}
use Rattle.scan_drive.specs.Files.{Item, Part}
use Rattle.scan_drive.specs.Ledger.{KeepsReport}
use Rattle.scan_drive.specs.Links.{Among}
use Rattle.scan_drive.specs.Lost.{Follows}
use Rattle.scan_drive.specs.Measures.{Advances}
use Rattle.scan_drive.specs.Slots.{SlotKeeps}
use Rattle.scan_drive.specs.Sources.{SourceMoves, NoId}
use Rattle.scan_drive.specs.Trades.{Trusts, Trades}
use Rattle.scan_drive.specs.Wants.{OnlyLoses}
use Rattle.scan_drive.proofs.Handover.{Wanting}
use Rattle.scan_drive.proofs.wants.want_all.Given as goal

abbrev pub invariant-loop-id : goal.invariant-loop-id
invariant-loop-id g l = record {
  agree : Agree (g.S.SegmentSource.state l.source).live l.desk;
  name : l.key.source_id ≡ l.fn.key.source_id;
  moves : SourceMoves (Among l.ids) (g.S.SegmentSource.state l.fn.source) (g.S.SegmentSource.state l.source);
  trades : Trades l.fn.key.source_id (g.S.SegmentSource.state l.fn.source) (g.S.SegmentSource.state l.source) (g.C.KeyedSegmentCache.cache l.fn.cache) (g.C.KeyedSegmentCache.cache l.cache);
  balance : KeepsReport l.fn.key.source_id (g.S.SegmentSource.state l.fn.source) (g.S.SegmentSource.state l.source) (g.C.KeyedSegmentCache.cache l.fn.cache) (g.C.KeyedSegmentCache.cache l.cache) l.fn.report l.report;
  keeps : (p : Part Item) (store : Store) → (g.S.SegmentSource.state l.fn.source).holds ≡ Some store → Trusts l.fn.key.source_id store (g.C.KeyedSegmentCache.cache l.fn.cache) → SlotKeeps g.W.SplitWork.split g.W.SplitWork.comes g.W.SplitWork.items p store l.fn.slot l.slot;
  loses : OnlyLoses (g.C.KeyedSegmentCache.cache l.fn.cache) (g.C.KeyedSegmentCache.cache l.cache);
  follows : Follows (IsKeptIn (g.C.KeyedSegmentCache.cache l.fn.cache) l.fn.key.source_id) NoId l.fn.slot l.slot;
  advances : Advances g.W.SplitWork.split l.fn.slot l.slot;
  wanting : Wanting (drop l.id-index l.ids) l.place l.slot l.fn.desk l.desk;
}
