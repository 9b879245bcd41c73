-- What an expression needs of a list, by the uses of the list.
use Rattle.std.specs.Prelude.{◌≡◌, Bool, List, [], ◌∷◌, map, None, All as Each}
use Rattle.scan_values.specs.DataType.{DataType, list_type}
use Rattle.scan_values.specs.declared.ptype.Nullability.{Nullability}
use Rattle.scan_expr.specs.Expr.{Expr}
use Rattle.scan_expr.specs.Typing.{typing_fault}
use Rattle.scan_values.specs.Paths.{Path}
use Rattle.scan_expr.specs.Needs.{Demand, whole, null_alone, length_alone, fields, at, uses, is_leaf, length_needs, list_validity, needed}
use Rattle.scan_partition.specs.Lists.{greater_of, necessary}
use Rattle.scan_partition.specs.declared.list_.ListChildrenNeeded.{ListChildrenNeeded}
use Rattle.scan_partition.specs.declared.list_.ListChildrenNeeded.TheVariants.{Validity, OffsetsAndValidity, All}

-- the children that one use needs; fields are not read of a list in what types
abbrev pub class_of : Demand → ListChildrenNeeded
class_of whole = All
class_of null_alone = Validity
class_of length_alone = OffsetsAndValidity
class_of (fields ns) = All
class_of (at f k) = All

abbrev pub greatest : List ListChildrenNeeded → ListChildrenNeeded
greatest [] = Validity
greatest (c ∷ cs) = greater_of c (greatest cs)

-- the greatest class of an expression's uses, which is that of the validity where it has none
abbrev pub greatest_use : DataType → Expr → ListChildrenNeeded
greatest_use d e = greatest (map class_of (uses d e whole))

-- a use of the list itself, and not of a field
abbrev pub IsOfTheList : Demand → Type 0
IsOfTheList whole = Unit {0}
IsOfTheList null_alone = Unit {0}
IsOfTheList length_alone = Unit {0}
IsOfTheList (fields ns) = ⊥
IsOfTheList (at f k) = ⊥

abbrev pub TypedUsesAreOfTheList : Type 0
TypedUsesAreOfTheList = (d : DataType) (n : Nullability) (e : Expr) → typing_fault (list_type d n) e ≡ None → Each IsOfTheList (uses (list_type d n) e whole)

-- the leaves of the children of a list
abbrev pub is_leaf_of_class : ListChildrenNeeded → DataType → Path → Bool
is_leaf_of_class Validity d p = list_validity d p
is_leaf_of_class OffsetsAndValidity d p = length_needs d p
is_leaf_of_class All d p = is_leaf d p

-- what is needed of a list are the leaves of the children that are necessary: of the elements nothing, unless all is
abbrev pub NecessaryIsNeeded : Type 0
NecessaryIsNeeded = (d : DataType) (n : Nullability) (e : Expr) (p : Path) → needed (list_type d n) e p ≡ is_leaf_of_class (necessary e) (list_type d n) p
