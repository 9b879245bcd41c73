use Rattle.std.proofs.Common.{◌==◌, drop, true}
use Rattle.std.specs.Fmt.{IsPlainFormatter}
use Rattle.scan_values.proofs.Left.{Left}
use Rattle.scan_expr.specs.Shown.{shown_names}
use Rattle.scan_expr.proofs.shown.show_names.Given as goal

abbrev pub invariant-loop-i : goal.invariant-loop-i
invariant-loop-i g l =
    IsPlainFormatter l.initial.f → Left g.W.Write.write_str_gives l.initial.f (shown_names true l.names)
    (shown_names (l.i == 0) (drop l.i l.names)) l.f
