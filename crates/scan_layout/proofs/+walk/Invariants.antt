use Rattle.std.proofs.Common.{◌≡◌, ◌+◌, ◌*◌, drop}
use Rattle.scan_values.specs.FieldLists.{dtypes_of as field_types}
use Rattle.scan_layout.specs.Layout.{nodes, layout_size, nodes_size}
use Rattle.scan_layout.specs.LayoutView.{layouts_of}
use Rattle.scan_layout.specs.Check.{faults_in}
use Rattle.scan_layout.proofs.+walk.Given as goal

abbrev pub decreases-node::LayoutNode::walk : goal.decreases-node::LayoutNode::walk
decreases-node::LayoutNode::walk l = 8 * layout_size l.self.now

abbrev pub decreases-check::walk_children : goal.decreases-check::walk_children
decreases-check::walk_children l = 8 * nodes_size (nodes (layouts_of l.children.now)) + 5

abbrev pub decreases-check::walk_fields : goal.decreases-check::walk_fields
decreases-check::walk_fields l = 8 * nodes_size (nodes (layouts_of l.children.now)) + 4

abbrev pub decreases-check::walk_list : goal.decreases-check::walk_list
decreases-check::walk_list l = 8 * nodes_size (nodes (layouts_of l.children.now)) + 4

abbrev pub decreases-check::walk_offsets : goal.decreases-check::walk_offsets
decreases-check::walk_offsets l = 8 * nodes_size (nodes (layouts_of l.children.now)) + 3

abbrev pub decreases-check::walk_validity : goal.decreases-check::walk_validity
decreases-check::walk_validity l = 8 * nodes_size (nodes (layouts_of l.children.now)) + 2

abbrev pub decreases-check::walk_each : goal.decreases-check::walk_each
decreases-check::walk_each l = 8 * nodes_size (nodes (layouts_of l.children.now)) + 1

abbrev pub invariant-check::walk_each-loop-i : goal.invariant-check::walk_each-loop-i
invariant-check::walk_each-loop-i l = faults_in (nodes (layouts_of (drop l.i l.children))) (drop l.i (field_types l.fields)) ≡ faults_in (nodes (layouts_of l.children)) (field_types l.fields)
