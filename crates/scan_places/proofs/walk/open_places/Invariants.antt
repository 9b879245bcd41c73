use Rattle.std.proofs.Common.{take}
use Rattle.scan_places.specs.Walks.{files_of, Walks, Walked}
use Rattle.scan_places.proofs.walk.open_places.Given as goal

abbrev pub invariant-loop-i : goal.invariant-loop-i
invariant-loop-i g l = record {
  walks : Walks g.O.LayoutReaderFactory.opener l.projection (files_of l.places) l.fn.files.items l.files.items l.fn.kept.items l.kept.items;
  walked : Walked (take l.i l.places) l.fn.files.items l.files.items l.fn.kept.items l.kept.items;
}
