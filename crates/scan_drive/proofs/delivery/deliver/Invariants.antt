use Rattle.std.proofs.Common.{List, length, true}
use Rattle.scan_drive.specs.Files.{Item}
use Rattle.scan_drive.specs.Actives.{Seated, AllOk}
use Rattle.scan_drive.specs.Chunks.{IsMore, KeepsRows, KeepsFiles}
use Rattle.scan_drive.specs.Files.{Told}
use Rattle.scan_drive.specs.Turns.{GivesOn}
use Rattle.scan_drive.proofs.delivery.deliver.Given as goal

abbrev pub invariant-turns : goal.invariant-turns
invariant-turns g l = record {
  seated : Seated l.active;
  ok : (tale : List (Told Item)) → AllOk g.W.SplitWork.split g.W.SplitWork.comes g.W.SplitWork.items tale l.fn.active → AllOk g.W.SplitWork.split g.W.SplitWork.comes g.W.SplitWork.items tale l.active;
  files : KeepsFiles l.fn.active.slots.items l.fn.chunks.items l.chunks.items;
  some : KeepsRows g.W.SplitWork.items l.fn.chunks.items l.chunks.items;
  gives : GivesOn g.W.SplitWork.split l.fn.active l.active;
  more : IsMore g.W.SplitWork.split g.W.SplitWork.comes g.W.SplitWork.items true l.fn.active l.active l.fn.chunks.items l.chunks.items l.fn.left l.left;
}

abbrev pub decreases-turns : goal.decreases-turns
decreases-turns g l = length l.active.turns.items
