use Rattle.std.proofs.Common.{◌≡◌, ◌++◌, ◌+◌, ◌*◌, ◌==◌, ◌≤◌, length, drop, map, true}
use Rattle.scan_values.specs.DataType.{fields_of}
use Rattle.scan_values.specs.Values.{val_of}
use Rattle.scan_values.specs.Val.{vals_of, val_size, vals_size}
use Rattle.scan_run.specs.Line.{elements_text, fields_text}
use Rattle.scan_run.proofs.line.+print.Given as goal

abbrev pub decreases-push_value : goal.decreases-push_value
decreases-push_value l = 4 * val_size (val_of l.value.now)

abbrev pub decreases-push_field : goal.decreases-push_field
decreases-push_field l = 4 * val_size (val_of l.value.now) + 1

abbrev pub decreases-push_elements : goal.decreases-push_elements
decreases-push_elements l = 4 * vals_size (vals_of (map val_of l.values.now)) + 2

abbrev pub decreases-push_fields : goal.decreases-push_fields
decreases-push_fields l = 4 * vals_size (vals_of (map val_of l.values.now)) + 2

abbrev pub decreases-push_struct : goal.decreases-push_struct
decreases-push_struct l = 4 * vals_size (vals_of (map val_of l.values.now)) + 3

abbrev pub invariant-push_elements-loop-i : goal.invariant-push_elements-loop-i
invariant-push_elements-loop-i l =
    (l.fn.out.items ++ elements_text true (vals_of (map val_of l.values)) l.element
    ≡ l.out.items ++ elements_text (l.i == 0) (vals_of (map val_of (drop l.i l.values))) l.element)
    × (length l.fn.out.items ≤ length l.out.items)

abbrev pub invariant-push_fields-loop-i : goal.invariant-push_fields-loop-i
invariant-push_fields-loop-i l =
    (l.fn.out.items ++ fields_text true (vals_of (map val_of l.values)) (fields_of l.fields)
    ≡ l.out.items ++ fields_text (l.i == 0) (vals_of (map val_of (drop l.i l.values))) (fields_of (drop l.i l.fields)))
    × (length l.fn.out.items ≤ length l.out.items)
