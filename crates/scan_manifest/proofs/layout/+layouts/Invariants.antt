use Rattle.std.proofs.Common.{◌≡◌, ◌++◌, ◌+◌, ◌*◌, drop, option_map}
use Rattle.serde_json.specs.View.{items_view}
use Rattle.scan_layout.specs.LayoutView.{layouts_of}
use Rattle.scan_manifest.specs.Json.{each_from}
use Rattle.scan_manifest.specs.Layouts.{child_type, layout_within}
use Rattle.scan_manifest.proofs.layout.+layouts.Given as goal

abbrev pub decreases-read_layout_within : goal.decreases-read_layout_within
decreases-read_layout_within l = 8 * l.levels

abbrev pub decreases-read_tree : goal.decreases-read_tree
decreases-read_tree l = 8 * l.levels + 5

abbrev pub decreases-read_struct : goal.decreases-read_struct
decreases-read_struct l = 8 * l.levels + 4

abbrev pub decreases-read_list : goal.decreases-read_list
decreases-read_list l = 8 * l.levels + 4

abbrev pub decreases-read_children : goal.decreases-read_children
decreases-read_children l = 8 * l.levels + 3

abbrev pub invariant-read_children-loop-i : goal.invariant-read_children-loop-i
invariant-read_children-loop-i l =
    each_from (λ i. layout_within l.levels (child_type l.kind l.dtype i)) 0 (items_view l.list)
    ≡ option_map (λ xs. layouts_of l.children.items ++ xs) (each_from (λ i. layout_within l.levels (child_type l.kind l.dtype i)) l.i (items_view (drop l.i l.list)))
