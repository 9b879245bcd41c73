-- Parts that are no deeper than dtypes may be.
use Rattle.std.specs.Prelude.{◌≤◌, List, [], ◌∷◌}
use Rattle.scan_values.specs.DataType.{DataType, depth_of}
use Rattle.scan_expr.specs.Bound.{Bound}
use Rattle.scan_expr.specs.Infer.{infer}
use Rattle.scan_expr.specs.Expr.{Expr}
use Rattle.scan_partition.specs.declared.item.Item.{Item}
use Rattle.scan_partition.specs.declared.divide.Parting.{Parting}
use Rattle.scan_partition.specs.declared.divide.Parting.TheVariants.{Kept, Stepped}
use Rattle.scan_partition.specs.Partition.{Group}
use Rattle.scan_partition.specs.Rewrite.{NodesHold}
use Rattle.scan_partition.specs.Divided.{kept, stepped, group_part}

abbrev pub parting : Parting → DataType → Item → Expr → Bound
parting Kept s i e = kept s i e
parting Stepped s i e = stepped s i e

abbrev pub GroupsFit : (Item → Expr → Bound) → List Group → Type 0
GroupsFit b [] = Unit {0}
GroupsFit b (g ∷ gs) = (NodesHold (group_part b g).scope (group_part b g).expr
    × (depth_of (infer (group_part b g).scope (group_part b g).expr) ≤ 65)) × GroupsFit b gs
