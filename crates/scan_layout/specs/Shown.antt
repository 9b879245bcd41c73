-- Layouts as a person reads them: a line for each node, its children below it, two columns further in.
use Rattle.std.specs.Prelude.{ℕ, zero, suc, ◌+◌, ◌++◌, min, Bool, true, false, List, [], ◌∷◌, codes, decimal}
use Rattle.scan_values.specs.DataType.{DataType}
use Rattle.scan_values.specs.Shown.{comma, shown_dtype, shown_ptype}
use Rattle.scan_spelling.specs.declared.spelling.Spelling.{Spelling}
use Rattle.scan_spelling.specs.declared.spelling.Spelling.TheVariants.{One, Two}
use Rattle.scan_layout.specs.Layout.{Layout, node, Nodes, no_nodes, child}
use Rattle.scan_layout.specs.declared.node.LayoutKind.{LayoutKind}
use Rattle.scan_layout.specs.declared.node.LayoutKind.TheVariants.{Leaf, Struct, List as Listed}

-- what a line begins with, so many levels in
abbrev pub indent : ℕ → List ℕ
indent zero = []
indent (suc d) = codes "  " ++ indent d

-- one level further in, as far as a u64 counts
abbrev pub deeper : ℕ → ℕ
deeper d = min (d + 1) 18446744073709551615

-- a segment by its id and its rows, as `7 (50)`
abbrev pub shown_segment : ℕ × ℕ → List ℕ
shown_segment g = decimal g.0 ++ (codes " (" ++ (decimal g.1 ++ codes ")"))

-- segments, behind others or not
abbrev pub shown_segments : Bool → List (ℕ × ℕ) → List ℕ
shown_segments first [] = []
shown_segments first (g ∷ gs) = (comma first ++ shown_segment g) ++ shown_segments false gs

abbrev pub shown_spelling : Spelling → List ℕ
shown_spelling One = codes "spelling 1"
shown_spelling Two = codes "spelling 2"

-- what a node is, and what more is said behind its dtype and its rows
abbrev pub kind_front : LayoutKind → List ℕ
kind_front (Leaf gs s) = codes "leaf "
kind_front Struct = codes "struct "
kind_front (Listed p) = codes "list "

abbrev pub kind_back : LayoutKind → List ℕ
kind_back (Leaf gs s) = codes ", " ++ (shown_spelling s ++ (codes ", segments " ++ shown_segments true gs))
kind_back Struct = []
kind_back (Listed p) = codes ", offsets " ++ shown_ptype p

-- the line of a node, as `leaf i32?, 100 rows, spelling 1, segments 0 (50), 1 (50)`
abbrev pub shown_node : DataType → ℕ → LayoutKind → List ℕ
shown_node t rows kind = kind_front kind ++ (shown_dtype t ++ (codes ", " ++ (decimal rows ++ (codes " rows" ++ kind_back kind))))

-- a layout that stands so many levels in
abbrev mutual
  pub shown_layout : ℕ → Layout → List ℕ
  shown_layout d (node t rows kind kids) = shown_node t rows kind ++ shown_nodes (deeper d) kids

  -- its children, each on lines of its own
  pub shown_nodes : ℕ → Nodes → List ℕ
  shown_nodes d no_nodes = []
  shown_nodes d (child l ls) = (codes "\n" ++ (indent d ++ shown_layout d l)) ++ shown_nodes d ls
