-- The first fault of a layout.
use Rattle.std.specs.Prelude.{◌≡◌, ℕ, ◌+◌, ◌^◌, List, [], ◌∷◌, length, Bool, true, false, ◌==◌, ◌&&◌, nat_le, nat_lt, Option, Some, None, Result, Ok, Err, sum_by}
use Rattle.scan_values.specs.declared.ptype.Nullability.{Nullability}
use Rattle.scan_values.specs.declared.ptype.Nullability.TheVariants.{NonNullable, Nullable}
use Rattle.scan_values.specs.DataType.{DataType, bool_type, int_type, list_type, struct_type, field_list, depth_of}
use Rattle.scan_values.specs.FieldLists.{dtypes_of as field_types}
use Rattle.scan_values.specs.Kinds.{is_scalar_type}
use Rattle.scan_values.specs.Same.{same_type}
use Rattle.scan_layout.specs.declared.node.LayoutKind.{LayoutKind}
use Rattle.scan_layout.specs.declared.node.LayoutKind.TheVariants.{Leaf, Struct, List as List'}
use Rattle.scan_layout.specs.declared.fault.LayoutFault.{LayoutFault}
use Rattle.scan_layout.specs.declared.fault.LayoutFault.TheVariants.{Deep, ChildDType, ChildCount, RowSum, ChildRows, Offsets, NoMemory}
use Rattle.scan_layout.specs.Layout.{Layout, Nodes, node, no_nodes, child, count, rows_of, dtype_of}

-- the dtypes that a node gives to its children, in their order
abbrev pub validity_types : Nullability → List DataType
validity_types NonNullable = []
validity_types Nullable = bool_type NonNullable ∷ []

abbrev pub with_validity : Nullability → List DataType → List DataType
with_validity NonNullable ts = ts
with_validity Nullable ts = bool_type NonNullable ∷ ts

abbrev pub child_types : DataType → LayoutKind → List DataType
child_types (struct_type fs n) Struct = with_validity n (field_types (field_list fs))
child_types (list_type t n) (List' p) = t ∷ int_type p NonNullable ∷ validity_types n
child_types _ _ = []

-- a leaf serves a scalar, a struct a struct and a list a list
abbrev pub serves : LayoutKind → DataType → Bool
serves (Leaf segments spelling) t = is_scalar_type t
serves Struct (struct_type fs n) = true
serves (List' p) (list_type t n) = true
serves _ _ = false

-- the second child of a list, where it has one, is of the list's offsets
abbrev pub second_is : DataType → Nodes → Bool
second_is t (child a (child b ls)) = same_type (dtype_of b) t
second_is t _ = true

abbrev pub offsets_fit : LayoutKind → Nodes → Bool
offsets_fit (List' p) kids = second_is (int_type p NonNullable) kids
offsets_fit _ kids = true

-- the first of two faults
infixr 5 ◌then◌
abbrev pub ◌then◌ : Option LayoutFault → Option LayoutFault → Option LayoutFault
(Some f) then later = Some f
None then later = later

-- a fault, unless the test holds
abbrev pub unless : Bool → LayoutFault → Option LayoutFault
unless true f = None
unless false f = Some f

abbrev pub all_have_rows : ℕ → Nodes → Bool
all_have_rows rows no_nodes = true
all_have_rows rows (child l ls) = (rows_of l == rows) && all_have_rows rows ls

abbrev pub total_rows : List (ℕ × ℕ) → ℕ
total_rows segments = sum_by (λ s. s.1) segments

abbrev pub validity_rows : ℕ → Nodes → Bool
validity_rows rows (child a (child b (child v ls))) = rows_of v == rows
validity_rows rows _ = true

abbrev pub offsets_rows : ℕ → Nodes → Bool
offsets_rows rows (child a (child b ls)) = rows_of b == rows + 1
offsets_rows rows _ = true

-- what is wrong with the rows of a node
abbrev pub leaf_fault : List (ℕ × ℕ) → ℕ → Option LayoutFault
leaf_fault segments rows = unless (nat_lt (total_rows segments) (2 ^ 64)) RowSum then unless (total_rows segments == rows) ChildRows

abbrev pub rows_fault : LayoutKind → ℕ → Nodes → Option LayoutFault
rows_fault (Leaf segments spelling) rows kids = leaf_fault segments rows
rows_fault Struct rows kids = unless (all_have_rows rows kids) ChildRows
rows_fault (List' p) rows kids = unless (offsets_rows rows kids) Offsets then unless (validity_rows rows kids) ChildRows

-- what is wrong with a node itself, whatever dtype is wanted of it
abbrev pub shape_fault : Layout → Option LayoutFault
shape_fault (node t rows kind kids) =
    unless (serves kind t && offsets_fit kind kids) ChildDType then unless (count kids == length (child_types t kind)) ChildCount then rows_fault kind rows kids

-- and of which this dtype is wanted
abbrev pub node_fault : Layout → DataType → Option LayoutFault
node_fault l wanted = unless (same_type (dtype_of l) wanted) ChildDType then shape_fault l

-- the first fault: a node before its children, and these in order
abbrev mutual
  pub fault_in : Layout → DataType → Option LayoutFault
  fault_in (node t rows kind kids) wanted = node_fault (node t rows kind kids) wanted then faults_in kids (child_types wanted kind)

  pub faults_in : Nodes → List DataType → Option LayoutFault
  faults_in no_nodes ts = None
  faults_in (child l ls) [] = None
  faults_in (child l ls) (t ∷ ts) = fault_in l t then faults_in ls ts

abbrev pub first_fault : Layout → DataType → Option LayoutFault
first_fault l t = unless (nat_le (depth_of t) 64) Deep then fault_in l t

-- what is wrong with one level: a node itself, and then the dtypes of its children
abbrev pub dtypes_fault : Nodes → List DataType → Option LayoutFault
dtypes_fault no_nodes ts = None
dtypes_fault (child l ls) [] = None
dtypes_fault (child l ls) (t ∷ ts) = unless (same_type (dtype_of l) t) ChildDType then dtypes_fault ls ts

abbrev pub level_fault : Layout → Option LayoutFault
level_fault (node t rows kind kids) = shape_fault (node t rows kind kids) then dtypes_fault kids (child_types t kind)

-- what is wrong with a leaf that is to be made
abbrev pub new_leaf_fault : DataType → List (ℕ × ℕ) → Option LayoutFault
new_leaf_fault t segments = unless (is_scalar_type t) ChildDType then unless (nat_lt (total_rows segments) (2 ^ 64)) RowSum

-- an answer that tells this fault, or that there is none
abbrev pub Tells : {T : Type 0} → Result T LayoutFault → Option LayoutFault → Type 0
Tells (Ok x) o = o ≡ None
Tells (Err f) o = o ≡ Some f

-- the same, unless memory ran out
abbrev pub TellsOrNoMemory : {T : Type 0} → Result T LayoutFault → Option LayoutFault → Type 0
TellsOrNoMemory (Ok x) o = o ≡ None
TellsOrNoMemory (Err NoMemory) o = Unit {0}
TellsOrNoMemory (Err f) o = o ≡ Some f
