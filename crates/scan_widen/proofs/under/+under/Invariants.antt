use Rattle.std.proofs.Common.{◌≡◌, ◌+◌, ◌*◌, ◌++◌, drop, length}
use Rattle.scan_values.specs.DataType.{fields_of, size_of, fields_size}
use Rattle.scan_layout.specs.LayoutView.{layouts_of}
use Rattle.scan_widen.specs.Under.{fields_behind, field_layouts}
use Rattle.scan_widen.proofs.under.+under.Given as goal

abbrev pub decreases-node_under : goal.decreases-node_under
decreases-node_under l = 8 * size_of l.dtype.now + 5

abbrev pub decreases-list_under : goal.decreases-list_under
decreases-list_under l = 8 * size_of l.dtype.now + 4

abbrev pub decreases-struct_under : goal.decreases-struct_under
decreases-struct_under l = 8 * size_of l.dtype.now + 4

abbrev pub decreases-push_fields : goal.decreases-push_fields
decreases-push_fields l = 8 * fields_size (fields_of l.fields.now) + 3

abbrev pub decreases-field_under : goal.decreases-field_under
decreases-field_under l = 8 * size_of l.dtype.now + 6

abbrev pub invariant-push_fields-loop-i : goal.invariant-push_fields-loop-i
invariant-push_fields-loop-i l =
    (layouts_of l.children.items ++ field_layouts (length l.made.items) (fields_of (drop l.i l.fields)) l.node ≡ layouts_of l.initial.children.items ++ field_layouts (length l.initial.made.items) (fields_of l.fields) l.node)
    × (l.made.items ++ fields_behind (fields_of (drop l.i l.fields)) l.node ≡ l.initial.made.items ++ fields_behind (fields_of l.fields) l.node)
