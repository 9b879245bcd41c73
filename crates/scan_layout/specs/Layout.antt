-- What a layout is, without where it lies in memory.
use Rattle.std.specs.Prelude.{ℕ, suc, ◌+◌, List, [], ◌∷◌}
use Rattle.scan_values.specs.DataType.{DataType}
use Rattle.scan_layout.specs.declared.node.LayoutKind.{LayoutKind}

-- a node has its dtype, its number of rows, its kind and its children
mutual
  pub data Layout : Type 0 where
    node : DataType → ℕ → LayoutKind → Nodes → Layout

  pub data Nodes : Type 0 where
    no_nodes : Nodes
    child : Layout → Nodes → Nodes

abbrev pub nodes : List Layout → Nodes
nodes [] = no_nodes
nodes (l ∷ ls) = child l (nodes ls)

abbrev pub dtype_of : Layout → DataType
dtype_of (node t rows kind kids) = t

abbrev pub rows_of : Layout → ℕ
rows_of (node t rows kind kids) = rows

abbrev pub kind_of : Layout → LayoutKind
kind_of (node t rows kind kids) = kind

abbrev pub kids_of : Layout → Nodes
kids_of (node t rows kind kids) = kids

abbrev pub count : Nodes → ℕ
count no_nodes = 0
count (child l ls) = count ls + 1

-- how many nodes stand below one
abbrev mutual
  pub layout_size : Layout → ℕ
  layout_size (node t rows kind kids) = suc (nodes_size kids)

  pub nodes_size : Nodes → ℕ
  nodes_size no_nodes = 0
  nodes_size (child l ls) = suc (layout_size l) + nodes_size ls
