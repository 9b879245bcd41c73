use Rattle.std.proofs.Common.{◌≡◌, ◌≢◌, ◌≤◌, ◌+◌, ◌-◌, ◌++◌, ℕ, List, [], length}
use Rattle.scan_drive.specs.Files.{Item}
use Rattle.scan_drive.specs.Claims.{AreClaimed}
use Rattle.scan_drive.specs.Actives.{Seated, groups_left, AllOk}
use Rattle.scan_drive.specs.Files.{Told}
use Rattle.scan_drive.specs.Filling.{Fills}
use Rattle.scan_drive.specs.Phases.{SpentBelow, PhasesOk, rest, unopened, phase_at}
use Rattle.scan_drive.specs.declared.phase.Phase.TheVariants as phases
use Rattle.scan_drive.specs.Turns.{IsTally, SeatsOn}
use Rattle.scan_drive.proofs.phase.activate.Given as goal

abbrev pub invariant-loop-first : goal.invariant-loop-first
invariant-loop-first g l = record {
  len : length l.phases.items ≡ length l.fn.phases.items;
  within : l.first ≤ length l.phases.items;
  below : SpentBelow l.phases.items l.first;
  opened : unopened l.phases.items ≤ unopened l.fn.phases.items;
  seated : Seated l.active;
  left : (tale : List (Told Item)) → length tale ≡ length l.fn.phases.items → groups_left g.W.SplitWork.split g.W.SplitWork.comes g.W.SplitWork.items tale l.active ++ rest g.W.SplitWork.split g.W.SplitWork.comes tale l.phases.items ≡ groups_left g.W.SplitWork.split g.W.SplitWork.comes
      g.W.SplitWork.items tale l.fn.active ++ rest g.W.SplitWork.split g.W.SplitWork.comes tale l.fn.phases.items;
  ok : (tale : List (Told Item)) → length tale ≡ length l.fn.phases.items → PhasesOk g.W.SplitWork.split g.W.SplitWork.comes tale l.fn.phases.items → AllOk g.W.SplitWork.split g.W.SplitWork.comes g.W.SplitWork.items tale l.fn.active →
      PhasesOk g.W.SplitWork.split g.W.SplitWork.comes tale l.phases.items × AllOk g.W.SplitWork.split g.W.SplitWork.comes g.W.SplitWork.items tale l.active;
  counted : (tale : List (Told Item)) → length tale ≡ length l.fn.phases.items → PhasesOk g.W.SplitWork.split g.W.SplitWork.comes tale l.fn.phases.items → AllOk g.W.SplitWork.split g.W.SplitWork.comes g.W.SplitWork.items tale l.fn.active → IsTally tale l.fn.tally → IsTally tale l.tally;
  held : (k : ℕ) (why : g.row.F.Denot) → phase_at l.phases.items k ≡ phases.Held why → phase_at l.fn.phases.items k ≡ phases.Held why;
  claimed : AreClaimed l.fn.unclaimed → l.fn.active.turns.items ≢ [] → (l.active ≡ l.fn.active) × (l.unclaimed ≡ l.fn.unclaimed);
  fills : Fills l.fn.first l.first l.fn.tally l.tally l.fn.phases.items l.phases.items l.fn.active.slots.items l.active.slots.items;
  seats : SeatsOn g.W.SplitWork.split l.fn.first l.first l.fn.active l.active l.fn.phases.items l.phases.items;
}

abbrev pub decreases-loop-first : goal.decreases-loop-first
decreases-loop-first g l = (l.room - length l.active.turns.items) + (length l.phases.items - l.first)
