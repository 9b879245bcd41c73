-- Partitioned expressions without the row's number.
use Rattle.std.specs.Prelude.{◌≡◌, false, List, [], ◌∷◌}
use Rattle.scan_expr.specs.Bound.{Bound}
use Rattle.scan_expr.specs.Expr.{uses_row_index}
use Rattle.scan_partition.specs.declared.struct_.Partitioned.{Partitioned}
use Rattle.scan_partition.specs.declared.struct_.Partitioned.TheVariants.{Direct, Single, Multi}
use Rattle.scan_partition.specs.Divided.{Divided}

-- the row's number does not stand in it
abbrev pub IsUnnumbered : Bound → Type 0
IsUnnumbered b = uses_row_index b.expr ≡ false

abbrev pub AreUnnumbered : List Bound → Type 0
AreUnnumbered [] = Unit {0}
AreUnnumbered (b ∷ bs) = IsUnnumbered b × AreUnnumbered bs

-- the parts and the root
abbrev pub DividedUnnumbered : Divided → Type 0
DividedUnnumbered d = AreUnnumbered d.parts × IsUnnumbered d.root

abbrev pub SplitUnnumbered : Partitioned → Type 0
SplitUnnumbered (Direct p) = Unit {0}
SplitUnnumbered (Single i p) = IsUnnumbered p
SplitUnnumbered (Multi d) = DividedUnnumbered d
