-- The rows of layouts, and the plans over a leaf.
use Rattle.std.specs.Prelude.{ℕ, List, map, Option, Some, None, Bool, true, false, if◌then◌else◌}
use Rattle.scan_values.specs.DataType.{DataType, Name}
use Rattle.scan_layout.specs.declared.node.LayoutKind.TheVariants.{Leaf, Struct, List as List'}
use Rattle.scan_spelling.specs.declared.spelling.Spelling.{Spelling}
use Rattle.scan_layout.specs.Check.{total_rows}
use Rattle.scan_layout.specs.Edges.{edges}
use Rattle.scan_layout.specs.Laws.{path_of}
use Rattle.scan_layout.specs.Layout.{Layout, node, no_nodes, dtype_of, rows_of}
use Rattle.scan_spelling.specs.Places.{Place, places_of}
use Rattle.scan_layout.specs.RowValue.{row_value}
use Rattle.scan_layout.specs.Touched.{touched}
use Rattle.scan_expr.specs.Bound.{Bound}
use Rattle.scan_splits.specs.LayoutSplits.{misses}
use Rattle.scan_plans.specs.Formed.{reads}
use Rattle.scan_plans.specs.PlanTree.{PlanTree, leaf, evaluate, constant}
use Rattle.scan_plans.specs.Wants.{leaf_wanted}
use Rattle.scan_readers.specs.Flaws.{has_flaw}
use Rattle.scan_readers.specs.Readers.{ReaderState}

-- the segments that rows of a leaf want
abbrev pub leaf_holding : Layout → Option (List ℕ → List Place)
leaf_holding (node t rows (Leaf segments spelling) kids) = Some (leaf_wanted 0 (places_of t spelling segments))
leaf_holding (node t rows Struct kids) = None
leaf_holding (node t rows (List' p) kids) = None

-- a reader of a layout has its rows, touches what they touch, and is split at its edges
abbrev pub layout_state : Name → Layout → ReaderState
layout_state name l = record {
  name = name;
  dtype = dtype_of l;
  rows = rows_of l;
  first_number = None;
  value = row_value l;
  touched = touched l;
  flawed = has_flaw l;
  holding = leaf_holding l;
  edges = λ masks start end. edges l (map path_of masks) start end;
  misses = misses l;
}

-- the leaf of these segments
abbrev pub leaf_layout : DataType → Spelling → List (ℕ × ℕ) → Layout
leaf_layout t spelling segments = node t (total_rows segments) (Leaf segments spelling) no_nodes

-- the plan of an expression over a leaf: where it reads nothing, its value
abbrev pub leaf_tree : DataType → Spelling → List (ℕ × ℕ) → Bound → PlanTree
leaf_tree t spelling segments e = if reads e.scope e.expr then evaluate e.scope e.expr (leaf t spelling segments) else constant e.scope e.expr

-- whether a layout is a leaf
abbrev pub is_leaf : Layout → Bool
is_leaf (node t rows (Leaf segments spelling) kids) = true
is_leaf (node t rows Struct kids) = false
is_leaf (node t rows (List' p) kids) = false
