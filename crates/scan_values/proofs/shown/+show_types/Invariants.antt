use Rattle.std.proofs.Common.{◌+◌, ◌*◌, ◌==◌, drop, true}
use Rattle.std.specs.Fmt.{IsPlainFormatter}
use Rattle.scan_values.specs.DataType.{fields_of, size_of, fields_size}
use Rattle.scan_values.specs.Shown.{shown_fields}
use Rattle.scan_values.proofs.Left.{Left}
use Rattle.scan_values.proofs.shown.+show_types.Given as goal

abbrev pub decreases-show_kind : goal.decreases-show_kind
decreases-show_kind g l = 4 * size_of l.dtype.now

abbrev pub decreases-show_dtype : goal.decreases-show_dtype
decreases-show_dtype g l = 4 * size_of l.dtype.now + 1

abbrev pub decreases-show_field : goal.decreases-show_field
decreases-show_field g l = 4 * size_of l.dtype.now + 2

abbrev pub decreases-show_list : goal.decreases-show_list
decreases-show_list g l = 4 * size_of l.element.now + 2

abbrev pub decreases-show_fields : goal.decreases-show_fields
decreases-show_fields g l = 4 * fields_size (fields_of l.fields.now) + 1

abbrev pub decreases-show_struct : goal.decreases-show_struct
decreases-show_struct g l = 4 * fields_size (fields_of l.fields.now) + 2

abbrev pub invariant-show_fields-loop-i : goal.invariant-show_fields-loop-i
invariant-show_fields-loop-i g l =
    IsPlainFormatter l.initial.f → Left g.W.Write.write_str_gives l.initial.f (shown_fields true (fields_of l.fields))
    (shown_fields (l.i == 0) (fields_of (drop l.i l.fields))) l.f
