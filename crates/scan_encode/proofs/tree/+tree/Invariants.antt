use Rattle.std.proofs.Common.{◌+◌, ◌*◌}
use Rattle.scan_values.specs.DataType.{size_of, fields_size, fields_of, nullability_of}
use Rattle.scan_layout.specs.LayoutView.{layouts_of}
use Rattle.scan_encode.specs.Encoded.{Has, stored}
use Rattle.scan_encode.specs.RowsIn.{rows_in}
use Rattle.scan_encode.proofs.Fields.{SoFar}
use Rattle.scan_encode.proofs.tree.+tree.Given as goal

abbrev pub decreases-push_tree : goal.decreases-push_tree
decreases-push_tree l = 4 * size_of l.dtype.now + 2

abbrev pub decreases-push_structs : goal.decreases-push_structs
decreases-push_structs l = 4 * size_of l.dtype.now + 1

abbrev pub decreases-push_fields : goal.decreases-push_fields
decreases-push_fields l = 4 * fields_size (fields_of l.fields.now) + 4

abbrev pub decreases-push_items : goal.decreases-push_items
decreases-push_items l = 4 * size_of l.dtype.now + 1

abbrev pub decreases-push_lists : goal.decreases-push_lists
decreases-push_lists l = 4 * size_of l.dtype.now

abbrev pub invariant-push_fields-loop-i : goal.invariant-push_fields-loop-i
invariant-push_fields-loop-i l = record {
  children : SoFar (nullability_of l.dtype) l.fields l.i (rows_in l.rows) l.segments (layouts_of l.made.items);
  has : Has (stored l.segments) l.fn.segments;
}
