use Rattle.std.proofs.Common.{length}
use Rattle.scan_drive.specs.Asks.{EachLinkedBut, IsWantedBy}
use Rattle.scan_drive.specs.Drives.{DesksAgree, SourcesMove, SlotsKeep}
use Rattle.scan_drive.specs.Grounds.{SlotsFollow}
use Rattle.scan_drive.specs.Ledger.{FilesKeepReport}
use Rattle.scan_drive.specs.Measures.{EachAdvances}
use Rattle.scan_drive.specs.Trades.{CacheAgrees, FilesTrade}
use Rattle.scan_drive.specs.Wants.{OnlyLoses}
use Rattle.scan_drive.proofs.Asked.{Remains}
use Rattle.scan_drive.proofs.wants.want_slots.Given as goal

abbrev pub invariant-asking : goal.invariant-asking
invariant-asking g l = record {
  agree : DesksAgree g.S.SegmentSource.state l.files.items l.desks.items;
  sources : SourcesMove g.S.SegmentSource.state (IsWantedBy l.fn.asking.items l.fn.slots.items) l.fn.files.items l.files.items;
  trades : FilesTrade g.S.SegmentSource.state l.fn.files.items l.files.items (g.C.KeyedSegmentCache.cache l.fn.cache) (g.C.KeyedSegmentCache.cache l.cache);
  balance : FilesKeepReport g.S.SegmentSource.state l.fn.files.items l.files.items (g.C.KeyedSegmentCache.cache l.fn.cache) (g.C.KeyedSegmentCache.cache l.cache) l.fn.report l.report;
  keeps : CacheAgrees g.S.SegmentSource.state l.fn.files.items (g.C.KeyedSegmentCache.cache l.fn.cache) → SlotsKeep g.S.SegmentSource.state g.W.SplitWork.split g.W.SplitWork.comes g.W.SplitWork.items l.fn.files.items l.fn.slots.items l.slots.items;
  loses : OnlyLoses (g.C.KeyedSegmentCache.cache l.fn.cache) (g.C.KeyedSegmentCache.cache l.cache);
  follows : SlotsFollow g.S.SegmentSource.state (g.C.KeyedSegmentCache.cache l.fn.cache) l.fn.files.items l.files.items l.fn.slots.items l.slots.items;
  advances : EachAdvances g.W.SplitWork.split l.fn.slots.items l.slots.items;
  remains : Remains l.asking.items l.fn.asking.items l.fn.slots.items l.slots.items;
  links : EachLinkedBut l.asking.items l.desks.items l.slots.items;
}

abbrev pub decreases-asking : goal.decreases-asking
decreases-asking g l = length l.asking.items
