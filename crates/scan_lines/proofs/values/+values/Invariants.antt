use Rattle.std.proofs.Common.{◌≡◌, ◌++◌, ◌+◌, ◌*◌, take, map, true, Some}
use Rattle.scan_values.specs.Values.{val_of}
use Rattle.scan_values.specs.Val.{vals_of, val_size, vals_size}
use Rattle.scan_lines.specs.Line.{elements_text, fields_text, fields_in}
use Rattle.scan_lines.specs.Writes.{Writes}
use Rattle.scan_lines.proofs.values.+values.Given as goal

abbrev pub decreases-put_value : goal.decreases-put_value
decreases-put_value l = 4 * val_size (val_of l.value.now)

abbrev pub decreases-put_elements : goal.decreases-put_elements
decreases-put_elements l = 4 * vals_size (vals_of (map val_of l.values.now)) + 1

abbrev pub decreases-put_list : goal.decreases-put_list
decreases-put_list l = 4 * vals_size (vals_of (map val_of l.values.now)) + 2

abbrev pub decreases-put_fields : goal.decreases-put_fields
decreases-put_fields l = 4 * vals_size (vals_of (map val_of l.values.now)) + 1

abbrev pub decreases-put_struct : goal.decreases-put_struct
decreases-put_struct l = 4 * vals_size (vals_of (map val_of l.values.now)) + 2

abbrev pub invariant-put_elements-loop-k : goal.invariant-put_elements-loop-k
invariant-put_elements-loop-k l = Writes (elements_text true (vals_of (take l.k (map val_of l.values))) l.element) l.at l.fn.buf l.buf (Some l.end)

abbrev pub invariant-put_fields-loop-k : goal.invariant-put_fields-loop-k
invariant-put_fields-loop-k l = Writes (fields_text true (vals_of (take l.k (map val_of l.values))) (fields_in l.heads)) l.at l.fn.buf l.buf (Some l.end)
