use Rattle.std.proofs.Common.{◌+◌, ◌*◌, ◌==◌, drop, map, true}
use Rattle.std.specs.Fmt.{IsPlainFormatter}
use Rattle.scan_values.specs.Val.{vals_of, val_size, vals_size}
use Rattle.scan_values.specs.Values.{val_of}
use Rattle.scan_values.specs.Shown.{shown_vals}
use Rattle.scan_values.proofs.Left.{Left}
use Rattle.scan_values.proofs.shown.+show_values.Given as goal

abbrev pub decreases-show_value : goal.decreases-show_value
decreases-show_value g l = 4 * val_size (val_of l.value.now)

abbrev pub decreases-show_item : goal.decreases-show_item
decreases-show_item g l = 4 * val_size (val_of l.value.now) + 1

abbrev pub decreases-show_values : goal.decreases-show_values
decreases-show_values g l = 4 * vals_size (vals_of (map val_of l.values.now)) + 2

abbrev pub decreases-show_within : goal.decreases-show_within
decreases-show_within g l = 4 * vals_size (vals_of (map val_of l.values.now)) + 3

abbrev pub invariant-show_values-loop-i : goal.invariant-show_values-loop-i
invariant-show_values-loop-i g l =
    IsPlainFormatter l.initial.f → Left g.W.Write.write_str_gives l.initial.f (shown_vals true (vals_of (map val_of l.values)))
    (shown_vals (l.i == 0) (vals_of (map val_of (drop l.i l.values)))) l.f
