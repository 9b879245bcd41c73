use Rattle.std.proofs.Common.{◌≡◌, ◌++◌, ◌+◌, ◌*◌, take, drop, map, get_or, true, Some}
use Rattle.scan_columns.specs.Cells.{vals_in, depth_in, deepest}
use Rattle.scan_values.specs.Val.{null_val, vals_of}
use Rattle.scan_lines.specs.Line.{elements_text, fields_text, fields_in}
use Rattle.scan_lines.specs.Writes.{Writes}
use Rattle.scan_lines.proofs.cells.+cells.Given as goal

abbrev pub decreases-put_cell : goal.decreases-put_cell
decreases-put_cell l = 8 * depth_in l.cells.now

abbrev pub decreases-put_list_at : goal.decreases-put_list_at
decreases-put_list_at l = 8 * l.lists.now.depth + 4

abbrev pub decreases-put_list : goal.decreases-put_list
decreases-put_list l = 8 * depth_in l.elements.now + 3

abbrev pub decreases-put_elements : goal.decreases-put_elements
decreases-put_elements l = 8 * depth_in l.elements.now + 2

abbrev pub decreases-put_struct_at : goal.decreases-put_struct_at
decreases-put_struct_at l = 8 * l.structs.now.depth + 4

abbrev pub decreases-put_struct : goal.decreases-put_struct
decreases-put_struct l = 8 * deepest l.fields.now + 3

abbrev pub decreases-put_fields : goal.decreases-put_fields
decreases-put_fields l = 8 * deepest l.fields.now + 2

abbrev pub invariant-put_elements-loop-k : goal.invariant-put_elements-loop-k
invariant-put_elements-loop-k l = Writes (elements_text true (vals_of (take l.k (drop l.from (vals_in l.elements)))) l.heads) l.at l.fn.buf l.buf (Some l.end)

abbrev pub invariant-put_fields-loop-k : goal.invariant-put_fields-loop-k
invariant-put_fields-loop-k l = Writes (fields_text true (vals_of (take l.k (map (λ c. get_or (vals_in c) l.i null_val) l.fields))) (fields_in l.heads)) l.at l.fn.buf l.buf (Some l.end)
