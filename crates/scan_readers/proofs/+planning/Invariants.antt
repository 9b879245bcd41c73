use Rattle.std.proofs.Common.{◌+◌, ◌*◌, map}
use Rattle.scan_layout.specs.Layout.{dtype_of, layout_size}
use Rattle.scan_readers.specs.KindView.{layout_of}
use Rattle.scan_readers.specs.Reached.{field_part, item_parts}
use Rattle.scan_readers.proofs.Walking.{Walk}
use Rattle.scan_readers.proofs.+planning.Given as goal

abbrev pub decreases-kind::ReaderKind::node : goal.decreases-kind::ReaderKind::node
decreases-kind::ReaderKind::node l = layout_size (layout_of l.self.now) * 16 + 15

abbrev pub decreases-nested::NestedReader::struct_node : goal.decreases-nested::NestedReader::struct_node
decreases-nested::NestedReader::struct_node l = layout_size l.self.now.layout * 16 + 6

abbrev pub decreases-nested::NestedReader::parted_node : goal.decreases-nested::NestedReader::parted_node
decreases-nested::NestedReader::parted_node l = layout_size l.self.now.layout * 16 + 5

abbrev pub decreases-nested::NestedReader::chosen_node : goal.decreases-nested::NestedReader::chosen_node
decreases-nested::NestedReader::chosen_node l = layout_size l.self.now.layout * 16 + 4

abbrev pub decreases-nested::NestedReader::joined_node : goal.decreases-nested::NestedReader::joined_node
decreases-nested::NestedReader::joined_node l = layout_size l.self.now.layout * 16 + 4

abbrev pub decreases-nested::NestedReader::field_nodes : goal.decreases-nested::NestedReader::field_nodes
decreases-nested::NestedReader::field_nodes l = layout_size l.self.now.layout * 16 + 3

abbrev pub decreases-nested::NestedReader::part_nodes : goal.decreases-nested::NestedReader::part_nodes
decreases-nested::NestedReader::part_nodes l = layout_size l.self.now.layout * 16 + 3

abbrev pub decreases-nested::NestedReader::field_node : goal.decreases-nested::NestedReader::field_node
decreases-nested::NestedReader::field_node l = layout_size l.self.now.layout * 16 + 2

abbrev pub decreases-nested::NestedReader::child_node : goal.decreases-nested::NestedReader::child_node
decreases-nested::NestedReader::child_node l = layout_size l.self.now.layout * 16 + 1

abbrev pub invariant-nested::NestedReader::field_nodes-loop-place : goal.invariant-nested::NestedReader::field_nodes-loop-place
invariant-nested::NestedReader::field_nodes-loop-place l = Walk (map (field_part (dtype_of l.fn.self.layout)) l.places) l.place-index l.fn.self l.self l.nodes.items

abbrev pub invariant-nested::NestedReader::part_nodes-loop-i : goal.invariant-nested::NestedReader::part_nodes-loop-i
invariant-nested::NestedReader::part_nodes-loop-i l = Walk (item_parts (dtype_of l.fn.self.layout) l.parts.items l.parts.parts) l.i l.fn.self l.self l.nodes.items

abbrev pub decreases-nested::NestedReader::node : goal.decreases-nested::NestedReader::node
decreases-nested::NestedReader::node l = layout_size l.self.now.layout * 16 + 14

abbrev pub decreases-nested::NestedReader::list_node : goal.decreases-nested::NestedReader::list_node
decreases-nested::NestedReader::list_node l = layout_size l.self.now.layout * 16 + 6

abbrev pub decreases-nested::NestedReader::list_all_node : goal.decreases-nested::NestedReader::list_all_node
decreases-nested::NestedReader::list_all_node l = layout_size l.self.now.layout * 16 + 5

abbrev pub decreases-nested::NestedReader::elements_node : goal.decreases-nested::NestedReader::elements_node
decreases-nested::NestedReader::elements_node l = layout_size l.self.now.layout * 16 + 4
