use Rattle.std.proofs.Common.{◌==◌, drop, true}
use Rattle.std.specs.Fmt.{IsPlainFormatter}
use Rattle.scan_values.proofs.Left.{Left}
use Rattle.scan_layout.specs.Shown.{shown_segments}
use Rattle.scan_plans.proofs.shown.show_runs.Given as goal

abbrev pub invariant-loop-i : goal.invariant-loop-i
invariant-loop-i g l =
    IsPlainFormatter l.initial.f → Left g.W.Write.write_str_gives l.initial.f (shown_segments true l.runs)
    (shown_segments (l.i == 0) (drop l.i l.runs)) l.f
