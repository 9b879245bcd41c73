-- Layouts of which no struct has the greatest number of rows, and their form under another dtype.
use Rattle.std.specs.Prelude.{◌≡◌, ℕ, ◌+◌, ◌<◌, ◌^◌, nat_lt, Bool, true, ◌&&◌}
use Rattle.scan_values.specs.DataType.{DataType}
use Rattle.scan_layout.specs.declared.node.LayoutKind.TheVariants.{Leaf, Struct, List as List'}
use Rattle.scan_layout.specs.Layout.{Layout, Nodes, node, no_nodes, child, dtype_of}
use Rattle.scan_layout.specs.Form.{HasForm}
use Rattle.scan_widen.specs.FitsUnder.{fits_under}
use Rattle.scan_widen.specs.Blanks.{blank_under}
use Rattle.scan_widen.specs.Under.{under}

abbrev mutual
  pub is_countable : Layout → Bool
  is_countable (node t rows (Leaf segments s) kids) = true
  is_countable (node t rows Struct kids) = nat_lt (rows + 1) (2 ^ 64) && are_countable kids
  is_countable (node t rows (List' p) kids) = are_countable kids

  pub are_countable : Nodes → Bool
  are_countable no_nodes = true
  are_countable (child l ls) = is_countable l && are_countable ls

-- a layout that is well-formed is so under a dtype that its own fits
abbrev pub FormsUnder : Type 0
FormsUnder = (to : DataType) (k : ℕ) (l : Layout) → HasForm l (dtype_of l) → fits_under (dtype_of l) to ≡ true → is_countable l ≡ true → HasForm (under k to l) to

abbrev pub BlanksHaveForm : Type 0
BlanksHaveForm = (t : DataType) (k rows : ℕ) → rows + 1 < 2 ^ 64 → HasForm (blank_under k t rows) t
