use Rattle.std.proofs.Common.{◌≡◌, ◌≤◌, ◌+◌, ◌*◌, drop, length}
use Rattle.scan_values.specs.DataType.{fields_of, size_of, fields_size}
use Rattle.scan_widen.specs.Under.{fields_behind}
use Rattle.scan_widen.specs.Counts.{capped}
use Rattle.scan_widen.proofs.count.+count.Given as goal

abbrev pub decreases-count_node : goal.decreases-count_node
decreases-count_node l = 8 * size_of l.dtype.now + 5

abbrev pub decreases-count_list : goal.decreases-count_list
decreases-count_list l = 8 * size_of l.dtype.now + 4

abbrev pub decreases-count_struct : goal.decreases-count_struct
decreases-count_struct l = 8 * size_of l.dtype.now + 4

abbrev pub decreases-count_fields : goal.decreases-count_fields
decreases-count_fields l = 8 * fields_size (fields_of l.fields.now) + 3

abbrev pub decreases-count_field : goal.decreases-count_field
decreases-count_field l = 8 * size_of l.dtype.now + 6

abbrev pub invariant-count_fields-loop-i : goal.invariant-count_fields-loop-i
invariant-count_fields-loop-i l =
    (capped (l.total + length (fields_behind (fields_of (drop l.i l.fields)) l.node)) ≡ capped (l.count + length (fields_behind (fields_of l.fields) l.node)))
    × (l.total ≤ 4294967297)
