use Rattle.std.proofs.Common.{◌≡◌, ◌+◌, ◌*◌, drop}
use Rattle.scan_layout.specs.Layout.{nodes, layout_size, nodes_size}
use Rattle.scan_layout.specs.LayoutView.{layouts_of}
use Rattle.scan_widen.specs.Countable.{are_countable}
use Rattle.scan_widen.proofs.countable.+countable.Given as goal

abbrev pub decreases-is_countable : goal.decreases-is_countable
decreases-is_countable l = 8 * layout_size l.node.now

abbrev pub decreases-are_countable : goal.decreases-are_countable
decreases-are_countable l = 8 * nodes_size (nodes (layouts_of l.children.now)) + 1

abbrev pub invariant-are_countable-loop-i : goal.invariant-are_countable-loop-i
invariant-are_countable-loop-i l = are_countable (nodes (layouts_of (drop l.i l.children))) ≡ are_countable (nodes (layouts_of l.children))
