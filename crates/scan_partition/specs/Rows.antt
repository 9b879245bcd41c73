-- The values of a struct, and what is read of its items there.
use Rattle.std.specs.Prelude.{◌≡◌, false, List, [], ◌∷◌}
use Rattle.scan_values.specs.DataType.{DataType, bool_type, Fields, no_fields, field, Name}
use Rattle.scan_values.specs.declared.ptype.Nullability.{Nullability}
use Rattle.scan_values.specs.declared.ptype.Nullability.TheVariants.{NonNullable, Nullable}
use Rattle.scan_values.specs.NameFaults.{field_names, has_name}
use Rattle.scan_expr.specs.Infer.{field_type}
use Rattle.scan_values.specs.Marked.{Marked, lost, null, gone, boolean, integer, text, list, struct, Markeds, none, more}
use Rattle.scan_expr.specs.Eval.{pick, null_test}
use Rattle.scan_partition.specs.declared.item.Item.{Item}
use Rattle.scan_partition.specs.declared.item.Item.TheVariants.{Field, Validity}
use Rattle.scan_partition.specs.Items.{validity_name}
use Rattle.scan_partition.specs.Partition.{Cut}

-- no field stands twice
abbrev pub Distinct : Fields → Type 0
Distinct no_fields = Unit {0}
Distinct (field n d fs) = (has_name n (field_names fs) ≡ false) × Distinct fs

-- a value for each field
abbrev pub Even : Fields → Markeds → Type 0
Even no_fields none = Unit {0}
Even no_fields (more v vs) = ⊥
Even (field n d fs) none = ⊥
Even (field n d fs) (more v vs) = Even fs vs

-- a value of the struct, at its first level
abbrev pub IsRow : Fields → Nullability → Marked → Type 0
IsRow fs n (struct ms) = Even fs ms
IsRow fs Nullable null = Unit {0}
IsRow fs Nullable lost = Unit {0}
IsRow fs n _ = ⊥

-- where the struct is here, its fields are read as they stand there; where not, anything may be read of them
abbrev pub FieldsAgree : Fields → Marked → (Item → Marked) → Type 0
FieldsAgree fs lost w = Unit {0}
FieldsAgree fs null w = Unit {0}
FieldsAgree fs gone w = Unit {0}
FieldsAgree fs (boolean b) w = Unit {0}
FieldsAgree fs (integer z) w = Unit {0}
FieldsAgree fs (text t) w = Unit {0}
FieldsAgree fs (list ms) w = Unit {0}
FieldsAgree fs (struct ms) w = (f : Name) → w (Field f) ≡ pick f fs ms

pub record Agrees (fs : Fields) (v : Marked) (w : Item → Marked) : Type 0 where
  pub fields : FieldsAgree fs v w
  pub here : w Validity ≡ null_test false v

abbrev pub item_type : Fields → Item → DataType
item_type fs (Field f) = field_type f fs
item_type fs Validity = bool_type NonNullable

-- no field has the name that stands for validity
abbrev pub IsPlain : Item → Type 0
IsPlain (Field n) = n ≡ validity_name → ⊥
IsPlain Validity = Unit {0}

abbrev pub AllPlain : List Cut → Type 0
AllPlain [] = Unit {0}
AllPlain (c ∷ cs) = IsPlain c.0 × AllPlain cs
