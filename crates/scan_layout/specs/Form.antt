-- The form of a layout.
use Rattle.std.specs.Prelude.{◌≡◌, ℕ, ◌+◌, ◌^◌, ◌<◌, ◌≤◌, List, [], ◌∷◌, true}
use Rattle.scan_values.specs.DataType.{DataType, depth_of}
use Rattle.scan_layout.specs.declared.node.LayoutKind.{LayoutKind}
use Rattle.scan_layout.specs.declared.node.LayoutKind.TheVariants.{Leaf, Struct, List as List'}
use Rattle.scan_layout.specs.Layout.{Layout, Nodes, node, no_nodes, child, rows_of}
use Rattle.scan_layout.specs.Check.{serves, child_types, total_rows}

abbrev pub AllHaveRows : ℕ → Nodes → Type 0
AllHaveRows rows no_nodes = Unit {0}
AllHaveRows rows (child l ls) = (rows_of l ≡ rows) × AllHaveRows rows ls

-- A leaf's segments have its rows. A struct's children have its rows. A list has one offset more than rows, and
-- its validity, where it has one, has its rows.
abbrev pub RowsFit : LayoutKind → ℕ → Nodes → Type 0
RowsFit (Leaf segments spelling) rows kids = (total_rows segments ≡ rows) × (rows < 2 ^ 64)
RowsFit Struct rows kids = AllHaveRows rows kids
RowsFit (List' p) rows no_nodes = Unit {0}
RowsFit (List' p) rows (child elements no_nodes) = Unit {0}
RowsFit (List' p) rows (child elements (child offsets others)) = (rows_of offsets ≡ rows + 1) × AllHaveRows rows others

-- Each node has the dtype that is wanted of it, its kind serves it, its rows fit, and it has the children that the
-- dtype and the kind give it, each of the dtype that is wanted of it.
abbrev mutual
  pub HasForm : Layout → DataType → Type 0
  HasForm (node t rows kind kids) wanted = (t ≡ wanted) × (serves kind t ≡ true) × RowsFit kind rows kids × HaveForms kids (child_types t kind)

  pub HaveForms : Nodes → List DataType → Type 0
  HaveForms no_nodes [] = Unit {0}
  HaveForms no_nodes (t ∷ ts) = ⊥
  HaveForms (child l ls) [] = ⊥
  HaveForms (child l ls) (t ∷ ts) = HasForm l t × HaveForms ls ts

-- a well-formed layout of a dtype
abbrev pub IsWellFormed : Layout → DataType → Type 0
IsWellFormed l t = (depth_of t ≤ 64) × HasForm l t
