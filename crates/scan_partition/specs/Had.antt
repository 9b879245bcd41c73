-- Items that a struct has.
use Rattle.std.specs.Prelude.{◌≡◌, true, List, [], ◌∷◌, Option, Some, None}
use Rattle.scan_values.specs.DataType.{DataType, Fields, nullability_of}
use Rattle.scan_values.specs.declared.ptype.Nullability.{Nullability}
use Rattle.scan_values.specs.declared.ptype.Nullability.TheVariants.{Nullable}
use Rattle.scan_values.specs.NameFaults.{field_names, has_name}
use Rattle.scan_expr.specs.Infer.{struct_fields}
use Rattle.scan_expr.specs.Expr.{Expr, root, row_index, literal, unary, binary, pack, Parts, no_parts, part}
use Rattle.scan_partition.specs.declared.item.Item.{Item}
use Rattle.scan_partition.specs.declared.item.Item.TheVariants.{Field, Validity}
use Rattle.scan_partition.specs.declared.struct_.Partitioned.{Partitioned}
use Rattle.scan_partition.specs.declared.struct_.Partitioned.TheVariants.{Direct, Single, Multi}
use Rattle.scan_partition.specs.Items.{item_of}

-- a field of it; its validity only where it is nullable
abbrev pub IsItemOf : Fields → Nullability → Item → Type 0
IsItemOf fs n (Field f) = has_name f (field_names fs) ≡ true
IsItemOf fs n Validity = n ≡ Nullable

abbrev pub AreItemsOf : DataType → List Item → Type 0
AreItemsOf s [] = Unit {0}
AreItemsOf s (i ∷ is) = IsItemOf (struct_fields s) (nullability_of s) i × AreItemsOf s is

-- the items of a partitioned expression; the places of a projection are those of fields, which `KeepsWhole` says
abbrev pub HasItems : DataType → Partitioned → Type 0
HasItems s (Direct p) = Unit {0}
HasItems s (Single i p) = IsItemOf (struct_fields s) (nullability_of s) i
HasItems s (Multi d) = AreItemsOf s d.items

abbrev pub ItemOf : Fields → Nullability → Option Item → Type 0 → Type 0
ItemOf fs n None P = P
ItemOf fs n (Some i) P = IsItemOf fs n i

-- each item that stands in an expression is the struct's
abbrev mutual
  pub ItemsOf : Fields → Nullability → Expr → Type 0
  ItemsOf fs n root = Unit {0}
  ItemsOf fs n row_index = Unit {0}
  ItemsOf fs n (literal d m) = Unit {0}
  ItemsOf fs n (unary u e) = ItemOf fs n (item_of u e) (ItemsOf fs n e)
  ItemsOf fs n (binary b x y) = ItemsOf fs n x × ItemsOf fs n y
  ItemsOf fs n (pack ps m) = AllItemsOf fs n ps

  pub AllItemsOf : Fields → Nullability → Parts → Type 0
  AllItemsOf fs n no_parts = Unit {0}
  AllItemsOf fs n (part m e ps) = ItemsOf fs n e × AllItemsOf fs n ps

abbrev pub ReadsItemsOf : DataType → Expr → Type 0
ReadsItemsOf s e = ItemsOf (struct_fields s) (nullability_of s) e
