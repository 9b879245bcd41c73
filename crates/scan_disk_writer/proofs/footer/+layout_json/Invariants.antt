use Rattle.std.proofs.Common.{◌≡◌, ◌+◌, ◌*◌, ◌++◌, map, drop}
use Rattle.serde_json.specs.View.{view}
use Rattle.scan_layout.specs.Layout.{nodes, layout_size, nodes_size}
use Rattle.scan_layout.specs.LayoutView.{layouts_of}
use Rattle.scan_disk_writer.specs.FileBytes.{AllIdsFit}
use Rattle.scan_disk_writer.specs.Json.{json_of_layout}
use Rattle.scan_disk_writer.proofs.footer.+layout_json.Given as goal

abbrev pub decreases-layout_json : goal.decreases-layout_json
decreases-layout_json l = 4 * layout_size l.layout.now

abbrev pub decreases-struct_json : goal.decreases-struct_json
decreases-struct_json l = 4 * nodes_size (nodes (layouts_of l.children.now)) + 2

abbrev pub decreases-list_json : goal.decreases-list_json
decreases-list_json l = 4 * nodes_size (nodes (layouts_of l.children.now)) + 2

abbrev pub decreases-children_json : goal.decreases-children_json
decreases-children_json l = 4 * nodes_size (nodes (layouts_of l.children.now)) + 1

abbrev pub invariant-children_json-loop-child : goal.invariant-children_json-loop-child
invariant-children_json-loop-child l = record {
  same : map view l.made.items ++ map json_of_layout (layouts_of (drop l.child-index l.children)) ≡ map json_of_layout (layouts_of l.children);
  ids : AllIdsFit (nodes (layouts_of (drop l.child-index l.children))) → AllIdsFit (nodes (layouts_of l.children));
}
