use Rattle.std.proofs.Common.{◌+◌, ◌*◌, drop}
use Rattle.std.specs.Fmt.{IsPlainFormatter}
use Rattle.scan_values.proofs.Left.{Left}
use Rattle.scan_layout.specs.Layout.{nodes, layout_size, nodes_size}
use Rattle.scan_layout.specs.LayoutView.{layouts_of}
use Rattle.scan_layout.specs.Shown.{shown_nodes}
use Rattle.scan_layout.proofs.shown.+show.Given as goal

abbrev pub decreases-show_layout : goal.decreases-show_layout
decreases-show_layout g l = 3 * layout_size l.layout.now

abbrev pub decreases-show_child : goal.decreases-show_child
decreases-show_child g l = 3 * layout_size l.child.now + 1

abbrev pub decreases-show_nodes : goal.decreases-show_nodes
decreases-show_nodes g l = 3 * nodes_size (nodes (layouts_of l.children.now)) + 2

abbrev pub invariant-show_nodes-loop-child : goal.invariant-show_nodes-loop-child
invariant-show_nodes-loop-child g l =
    IsPlainFormatter l.initial.f → Left g.W.Write.write_str_gives l.initial.f (shown_nodes l.depth (nodes (layouts_of l.children)))
    (shown_nodes l.depth (nodes (layouts_of (drop l.child-index l.children)))) l.f
