use Rattle.std.proofs.Common.{drop}
use Rattle.scan_drive.specs.Drives.{DesksAgree, SourcesMove, EachLinked, NoneOf, SlotsKeep}
use Rattle.scan_drive.specs.Grounds.{SlotsFollow}
use Rattle.scan_drive.specs.Losses.{FilesKeepCounts}
use Rattle.scan_drive.specs.Measures.{EachAdvances}
use Rattle.scan_drive.specs.Trades.{FilesTrade}
use Rattle.scan_drive.proofs.Bringing.{PolledBut, places}
use Rattle.scan_drive.proofs.drive.fetch_files.Given as goal

abbrev pub invariant-loop-i : goal.invariant-loop-i
invariant-loop-i g l = record {
  agree : DesksAgree g.S.SegmentSource.state l.files.items l.desks.items;
  sources : SourcesMove g.S.SegmentSource.state NoneOf l.fn.files.items l.files.items;
  trades : FilesTrade g.S.SegmentSource.state l.fn.files.items l.files.items (g.C.KeyedSegmentCache.cache l.fn.cache) (g.C.KeyedSegmentCache.cache l.cache);
  counts : FilesKeepCounts g.S.SegmentSource.state l.fn.files.items l.files.items (g.C.KeyedSegmentCache.cache l.fn.cache) (g.C.KeyedSegmentCache.cache l.cache) l.slots.items;
  keeps : SlotsKeep g.S.SegmentSource.state g.W.SplitWork.split g.W.SplitWork.comes g.W.SplitWork.items l.fn.files.items l.fn.slots.items l.slots.items;
  links : EachLinked l.desks.items l.slots.items;
  follows : SlotsFollow g.S.SegmentSource.state (g.C.KeyedSegmentCache.cache l.fn.cache) l.fn.files.items l.files.items l.fn.slots.items l.slots.items;
  advances : EachAdvances g.W.SplitWork.split l.fn.slots.items l.slots.items;
  nearer : PolledBut g.S.SegmentSource.state g.W.SplitWork.split (places l.found.items) (places (drop l.i l.found.items)) l.fn.files.items l.files.items l.fn.desks.items l.desks.items l.fn.slots.items l.slots.items;
}
