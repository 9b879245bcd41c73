use Rattle.std.proofs.Common.{◌≡◌, ◌<◌, ◌≤◌, ◌+◌, ℕ, List, false, length}
use Rattle.scan_drive.specs.Filling.{OpensBy}
use Rattle.scan_drive.specs.Moves.{EachMoves, KeepsSources, KeepsRest, KeepsPhases, HoldsWhy, AllWait, tells}
use Rattle.scan_drive.specs.Openers.{as_number}
use Rattle.scan_drive.specs.Phases.{phase_at, unopened, AllRowsOk}
use Rattle.scan_drive.specs.Polls.{OpenersRest, AllPolled, PollsGrow, PollsStand}
use Rattle.scan_drive.specs.declared.files.ScanFile.{ScanFile}
use Rattle.scan_drive.proofs.files.open_files.Given as goal

abbrev pub invariant-loop-i : goal.invariant-loop-i
invariant-loop-i g l = record {
  len : length l.phases.items ≡ length l.fn.phases.items;
  moves : EachMoves (g.X.SplitOpener.state l.fn.context) g.X.SplitOpener.polls g.S.SegmentSource.state (Unit {0}) l.fn.files.items l.files.items;
  sources : KeepsSources l.fn.files.items l.files.items;
  opened : unopened l.phases.items + as_number l.any ≤ unopened l.fn.phases.items;
  same : l.any ≡ false → l.phases.items ≡ l.fn.phases.items;
  waits : l.any ≡ false → AllWait (g.X.SplitOpener.state l.fn.context) l.first l.i l.fn.files.items l.files.items l.phases.items;
  why : HoldsWhy (g.X.SplitOpener.state l.fn.context) g.X.SplitOpener.polls (g.X.SplitOpener.refuses l.fn.context) l.fn.files.items l.files.items l.fn.phases.items l.phases.items;
  splits : OpensBy (g.X.SplitOpener.state l.fn.context) g.X.SplitOpener.polls (g.X.SplitOpener.admits l.fn.context) l.fn.files.items l.files.items l.fn.phases.items l.phases.items;
  rows : AllRowsOk (tells (g.X.SplitOpener.state l.fn.context) g.S.SegmentSource.state l.fn.files.items) l.fn.phases.items → AllRowsOk (tells (g.X.SplitOpener.state l.fn.context) g.S.SegmentSource.state l.fn.files.items) l.phases.items;
  below : (k : ℕ) → k < l.first → phase_at l.phases.items k ≡ phase_at l.fn.phases.items k;
  left : KeepsRest g.W.SplitWork.split g.W.SplitWork.comes (tells (g.X.SplitOpener.state l.fn.context) g.S.SegmentSource.state l.fn.files.items) l.fn.phases.items l.phases.items;
  ok : KeepsPhases g.W.SplitWork.split g.W.SplitWork.comes (tells (g.X.SplitOpener.state l.fn.context) g.S.SegmentSource.state l.fn.files.items) l.fn.phases.items l.phases.items;
  within : (k : ℕ) → l.first ≤ k → l.last ≤ k → l.i ≤ k;
  rest : OpenersRest l.first l.i l.fn.files.items l.files.items;
  grows : PollsGrow (g.X.SplitOpener.state l.fn.context) l.fn.files.items l.files.items;
  polled : (start : List (ScanFile g.row.O.Denot g.row.S.Denot)) → PollsStand (g.X.SplitOpener.state l.fn.context) start l.fn.files.items l.fn.phases.items →
      PollsStand (g.X.SplitOpener.state l.fn.context) start l.files.items l.phases.items × AllPolled (g.X.SplitOpener.state l.fn.context) l.i start l.files.items;
}
