use Rattle.std.proofs.Common.{◌≡◌, ◌+◌, ◌*◌, ◌∷◌, [], drop, map}
use Rattle.std.specs.List.{flat_map}
use Rattle.scan_values.specs.DataType.{fields_of}
use Rattle.scan_values.specs.FieldLists.{names_of}
use Rattle.scan_layout.specs.Layout.{nodes, layout_size, nodes_size}
use Rattle.scan_layout.specs.LayoutView.{layouts_of}
use Rattle.scan_layout.specs.Laws.{path_of}
use Rattle.scan_layout.specs.Slots.{named_fields}
use Rattle.scan_layout.specs.Edges.{every_field, matching_one}
use Rattle.scan_splits.specs.LayoutSplits.{matched_edges, any_found, nth_misses}
use Rattle.scan_splits.proofs.Pushing.{Completes}
use Rattle.scan_splits.proofs.register.+register.Given as goal

abbrev pub decreases-register_node : goal.decreases-register_node
decreases-register_node l = 8 * layout_size l.node.now

abbrev pub decreases-splits_of_all : goal.decreases-splits_of_all
decreases-splits_of_all l = 8 * layout_size l.node.now + 1

abbrev pub decreases-register_list : goal.decreases-register_list
decreases-register_list l = 8 * nodes_size (nodes (layouts_of l.children.now)) + 5

abbrev pub decreases-register_struct : goal.decreases-register_struct
decreases-register_struct l = 8 * nodes_size (nodes (layouts_of l.children.now)) + 5

abbrev pub decreases-register_fields : goal.decreases-register_fields
decreases-register_fields l = 8 * nodes_size (nodes (layouts_of l.children.now)) + 4

abbrev pub decreases-register_matching : goal.decreases-register_matching
decreases-register_matching l = 8 * nodes_size (nodes (layouts_of l.children.now)) + 3

abbrev pub decreases-register_every : goal.decreases-register_every
decreases-register_every l = 8 * nodes_size (nodes (layouts_of l.children.now)) + 2

abbrev pub decreases-register_named : goal.decreases-register_named
decreases-register_named l = 8 * nodes_size (nodes (layouts_of l.children.now)) + 2

abbrev pub decreases-register_child : goal.decreases-register_child
decreases-register_child l = 8 * nodes_size (nodes (layouts_of l.children.now)) + 1

abbrev pub invariant-register_every-loop-i : goal.invariant-register_every-loop-i
invariant-register_every-loop-i l = Completes l.range.offset (matched_edges (nodes (layouts_of l.children)) (every_field (fields_of (drop l.i l.fields)) (l.first + l.i)) l.range.start l.range.end)
    (matched_edges (nodes (layouts_of l.children)) (every_field (fields_of l.fields) l.first) l.range.start l.range.end) l.initial.splits l.splits

abbrev pub invariant-register_named-loop-mask : goal.invariant-register_named-loop-mask
invariant-register_named-loop-mask l =
    (any_found (λ m. nth_misses (nodes (layouts_of l.children)) (l.first + m.1) (m.0 ∷ [])) (named_fields (names_of l.fields) l.masks) ≡ any_found (λ m. nth_misses (nodes (layouts_of l.children)) (l.first + m.1) (m.0 ∷ [])) (named_fields (names_of l.fields) (drop l.mask-index l.masks)))
    × Completes l.range.offset (matched_edges (nodes (layouts_of l.children)) (flat_map (matching_one (fields_of l.fields) l.first) (map path_of (drop l.mask-index l.masks))) l.range.start l.range.end)
    (matched_edges (nodes (layouts_of l.children)) (flat_map (matching_one (fields_of l.fields) l.first) (map path_of l.masks)) l.range.start l.range.end) l.initial.splits l.splits
