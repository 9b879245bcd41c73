-- An expression over a struct by its items, and what the parts give together.
use Rattle.std.specs.Prelude.{◌≡◌, ℕ, ◌<◌, Bool, false, ◌||◌, List, [], ◌∷◌, length, map, zip, slice_index_or, All, Option, Some, None}
use Rattle.scan_values.specs.DataType.{DataType, bool_type, struct_type, nullability_of, Name, Fields, field_list, fields_of}
use Rattle.scan_values.specs.FieldLists.{dtypes_of}
use Rattle.scan_values.specs.NameFaults.{field_names}
use Rattle.scan_values.specs.declared.ptype.Nullability.TheVariants.{NonNullable, Nullable}
use Rattle.scan_values.specs.Marked.{Marked, struct, Markeds, none, more, chained}
use Rattle.scan_expr.specs.Bound.{Bound}
use Rattle.scan_expr.specs.Infer.{struct_fields, infer}
use Rattle.scan_expr.specs.Eval.{eval}
use Rattle.scan_expr.specs.Overflow.{overflows}
use Rattle.scan_expr.specs.Expr.{Expr}
use Rattle.scan_partition.specs.declared.item.Item.{Item}
use Rattle.scan_partition.specs.declared.item.Item.TheVariants.{Field}
use Rattle.scan_partition.specs.declared.struct_.Partitioned.{Partitioned}
use Rattle.scan_partition.specs.declared.struct_.Partitioned.TheVariants.{Direct, Single, Multi}
use Rattle.scan_partition.specs.Items.{Use, no_use, one, many, use_of}
use Rattle.scan_partition.specs.Expand.{expand}
use Rattle.scan_partition.specs.Direct.{Choice, chosen_directly, Projection, projected}
use Rattle.scan_partition.specs.Rows.{IsRow, Agrees}
use Rattle.scan_partition.specs.Divided.{Divided, divided, stepped}

-- of an expanded expression
abbrev pub split_by : Use → DataType → Expr → Partitioned
split_by no_use s x = Multi (divided (stepped s) x)
split_by (one i) s x = Single i (stepped s i x)
split_by many s x = Multi (divided (stepped s) x)

abbrev pub split_by_items : DataType → Expr → Partitioned
split_by_items s x = split_by (use_of x) s x

abbrev pub direct_or : Option Choice → DataType → Expr → Partitioned
direct_or None s e = split_by_items s (expand s e)
direct_or (Some c) s e = Direct (projected (struct_fields s) c)

-- of any expression: by the fields that it chooses where it does no more, else by its items
abbrev pub split : DataType → Expr → Partitioned
split s e = direct_or (chosen_directly s e) s e

-- the value of each part, on what is read of its item
abbrev pub part_values : (Item → Marked) → ℕ → List Item → List Bound → Markeds
part_values w k [] ps = none
part_values w k (i ∷ is) [] = none
part_values w k (i ∷ is) (p ∷ ps) = more (eval p.scope p.expr (w i) k) (part_values w k is ps)

-- the value of the root, over the parts' values
abbrev pub joined_value_of : Divided → (Item → Marked) → ℕ → Marked
joined_value_of d w k = eval d.root.scope d.root.expr (struct (part_values w k d.items d.parts)) k

-- some part overflows, on what is read of its item
abbrev pub parts_overflow : (Item → Marked) → ℕ → List Item → List Bound → Bool
parts_overflow w k [] ps = false
parts_overflow w k (i ∷ is) [] = false
parts_overflow w k (i ∷ is) (p ∷ ps) = overflows p.scope p.expr (w i) k || parts_overflow w k is ps

-- the root does, over the parts' values, or some part
abbrev pub joined_overflows : Divided → (Item → Marked) → ℕ → Bool
joined_overflows d w k = overflows d.root.scope d.root.expr (struct (part_values w k d.items d.parts)) k || parts_overflow w k d.items d.parts

-- on each row of the struct, whatever is read of its fields where it is not here, the parts give the value of the whole
abbrev pub KeepsValues : Bound → ((Item → Marked) → ℕ → Marked) → Type 0
KeepsValues b f =
    (v : Marked) (w : Item → Marked) (k : ℕ) → IsRow (struct_fields b.scope) (nullability_of b.scope) v
    → Agrees (struct_fields b.scope) v w → f w k ≡ eval b.scope b.expr v k

-- and overflow exactly where the whole does
abbrev pub KeepsOverflows : Bound → ((Item → Marked) → ℕ → Bool) → Type 0
KeepsOverflows b g =
    (v : Marked) (w : Item → Marked) (k : ℕ) → IsRow (struct_fields b.scope) (nullability_of b.scope) v
    → Agrees (struct_fields b.scope) v w → g w k ≡ overflows b.scope b.expr v k

-- the dtype of the whole, its value, and where it overflows
pub record Keeps (b : Bound) (d : DataType) (f : (Item → Marked) → ℕ → Marked) (g : (Item → Marked) → ℕ → Bool) : Type 0 where
  pub dtype : d ≡ infer b.scope b.expr
  pub values : KeepsValues b f
  pub overflow : KeepsOverflows b g

-- over the same struct: on each of its values the value of the other, which it overflows where that does
pub record IsWhole (b : Bound) (r : Bound) : Type 0 where
  pub values : (v : Marked) (k : ℕ) → IsRow (struct_fields b.scope) (nullability_of b.scope) v → eval r.scope r.expr v k ≡ eval b.scope b.expr v k
  pub overflow : (v : Marked) (k : ℕ) → IsRow (struct_fields b.scope) (nullability_of b.scope) v → overflows r.scope r.expr v k ≡ overflows b.scope b.expr v k

-- ---- the fields at places
abbrev pub name_at : Fields → ℕ → Name
name_at fs i = slice_index_or (field_names fs) i []

abbrev pub type_at : Fields → ℕ → DataType
type_at fs i = slice_index_or (dtypes_of (field_list fs)) i (bool_type Nullable)

-- those of a projection, under its names
abbrev pub projected_type : Fields → Projection → DataType
projected_type fs p = struct_type (fields_of (zip p.names (map (type_at fs) p.fields))) NonNullable

-- what is read of them
abbrev pub projected_value : Fields → Projection → (Item → Marked) → Marked
projected_value fs p w = struct (chained (map (λ i. w (Field (name_at fs i))) p.fields))

abbrev pub KeepsWhole : Bound → Partitioned → Type 0
KeepsWhole b (Direct p) =
    All (λ i. i < length (field_names (struct_fields b.scope))) p.fields
    × Keeps b (projected_type (struct_fields b.scope) p) (λ w k. projected_value (struct_fields b.scope) p w)
    (λ w k. false)
KeepsWhole b (Single i p) = Keeps b (infer p.scope p.expr) (λ w k. eval p.scope p.expr (w i) k) (λ w k. overflows p.scope p.expr (w i) k)
KeepsWhole b (Multi d) = Keeps b (infer d.root.scope d.root.expr) (joined_value_of d) (joined_overflows d)

-- on each value, each part on the value itself, the root gives the value of the whole, and it or a part overflows exactly where the whole does
pub record KeptJoins (b : Bound) (d : Divided) : Type 0 where
  pub dtype : infer d.root.scope d.root.expr ≡ infer b.scope b.expr
  pub values : (v : Marked) (k : ℕ) → joined_value_of d (λ i. v) k ≡ eval b.scope b.expr v k
  pub overflow : (v : Marked) (k : ℕ) → joined_overflows d (λ i. v) k ≡ overflows b.scope b.expr v k
