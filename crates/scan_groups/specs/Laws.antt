-- Laws of groups.
use Rattle.std.specs.Prelude.{ℕ, List, IsPermutation}
use Rattle.scan_groups.specs.Rows.{Row, AreGroups}
use Rattle.scan_groups.specs.declared.group.Group.{Group}
use Rattle.scan_groups.specs.declared.measure.Measured.{Measured}

-- rows in another order have the same groups
abbrev pub OrderDoesNotMatter : Type 0
OrderDoesNotMatter = (keys : ℕ) (ms : List Measured) (rows others : List Row) (groups : List Group)
    → IsPermutation rows others → AreGroups keys ms rows groups → AreGroups keys ms others groups
