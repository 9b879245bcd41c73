-- How a layout is kept as a tree of numbers, and read back.
use Rattle.std.specs.Prelude.{◌≡◌, ℕ, List, [], ◌∷◌, refl}
use Rattle.std.proofs.Common.{ap}
use Rattle.std.specs.Coded.{Coded, code_by, coded_list}
use base.Stored.{Gv, gnil, gnum, gcons, num}
use Rattle.scan_values.specs.Trees.{left, right, itself}
use Rattle.scan_values.specs.DataType.{tree, read, read-tree, ptype_tree, tree_ptype, tree_ptype-ptype_tree}
use Rattle.scan_layout.specs.declared.node.LayoutKind.{LayoutKind}
use Rattle.scan_layout.specs.declared.node.LayoutKind.TheVariants.{Leaf, Struct, List as List'}
use Rattle.scan_spelling.specs.declared.spelling.Spelling.TheVariants.{One, Two}
use Rattle.scan_layout.specs.Layout.{Layout, Nodes, node, no_nodes, child}

abbrev pub pairs_tree : List (ℕ × ℕ) → Gv
pairs_tree [] = gnil
pairs_tree (p ∷ ps) = gcons (gcons (gnum p.0) (gnum p.1)) (pairs_tree ps)

abbrev pub tree_pair : Gv → ℕ × ℕ
tree_pair g = (num (left g), num (right g))

abbrev pub tree_pairs : Gv → List (ℕ × ℕ)
tree_pairs gnil = []
tree_pairs (gnum n) = []
tree_pairs (gcons a b) = tree_pair a ∷ tree_pairs b

pub tree_pairs-pairs_tree : (ps : List (ℕ × ℕ)) → tree_pairs (pairs_tree ps) ≡ ps
tree_pairs-pairs_tree [] = refl
tree_pairs-pairs_tree (p ∷ ps) = ap (λ qs. p ∷ qs) (tree_pairs-pairs_tree ps)

abbrev pub kind_tree : LayoutKind → Gv
kind_tree (Leaf ps One) = gcons gnil (pairs_tree ps)
kind_tree (Leaf ps Two) = gcons (gcons gnil gnil) (pairs_tree ps)
kind_tree Struct = gnil
kind_tree (List' p) = gcons (gnum 1) (gnum (ptype_tree p))

abbrev pub tree_kind : Gv → LayoutKind
tree_kind gnil = Struct
tree_kind (gnum n) = Struct
tree_kind (gcons gnil b) = Leaf (tree_pairs b) One
tree_kind (gcons (gnum n) b) = List' (tree_ptype (num b))
tree_kind (gcons (gcons x y) b) = Leaf (tree_pairs b) Two

pub tree_kind-kind_tree : (k : LayoutKind) → tree_kind (kind_tree k) ≡ k
tree_kind-kind_tree (Leaf ps One) = ap (λ qs. Leaf qs One) (tree_pairs-pairs_tree ps)
tree_kind-kind_tree (Leaf ps Two) = ap (λ qs. Leaf qs Two) (tree_pairs-pairs_tree ps)
tree_kind-kind_tree Struct = refl
tree_kind-kind_tree (List' p) = ap List' (tree_ptype-ptype_tree p)

abbrev mutual
  pub layout_tree : Layout → Gv
  layout_tree (node t rows kind kids) = gcons (gcons (tree t) (gnum rows)) (gcons (kind_tree kind) (nodes_tree kids))

  pub nodes_tree : Nodes → Gv
  nodes_tree no_nodes = gnil
  nodes_tree (child l ls) = gcons (layout_tree l) (nodes_tree ls)

abbrev mutual
  pub tree_layout : Gv → Layout
  tree_layout gnil = node (read gnil).0 0 Struct no_nodes
  tree_layout (gnum n) = node (read gnil).0 0 Struct no_nodes
  tree_layout (gcons a gnil) = node (read gnil).0 0 Struct no_nodes
  tree_layout (gcons a (gnum n)) = node (read gnil).0 0 Struct no_nodes
  tree_layout (gcons a (gcons k ls)) = node (read (left a)).0 (num (right a)) (tree_kind k) (tree_nodes ls)

  pub tree_nodes : Gv → Nodes
  tree_nodes gnil = no_nodes
  tree_nodes (gnum n) = no_nodes
  tree_nodes (gcons l ls) = child (tree_layout l) (tree_nodes ls)

mutual
  pub tree_layout-layout_tree : (l : Layout) → tree_layout (layout_tree l) ≡ l
  tree_layout-layout_tree (node t rows kind kids) = λ i. node (read-tree t i) rows (tree_kind-kind_tree kind i) (tree_nodes-nodes_tree kids i)

  pub tree_nodes-nodes_tree : (ls : Nodes) → tree_nodes (nodes_tree ls) ≡ ls
  tree_nodes-nodes_tree no_nodes = refl
  tree_nodes-nodes_tree (child l ls) = λ i. child (tree_layout-layout_tree l i) (tree_nodes-nodes_tree ls i)

abbrev pub layout_code : Coded Layout
layout_code = code_by Gv itself layout_tree tree_layout tree_layout-layout_tree

abbrev pub layouts_code : Coded (List Layout)
layouts_code = coded_list layout_code
