-- The slots of structs and lists, and the fields that masks match.
use Rattle.std.specs.Prelude.{◌≡◌, ℕ, zero, suc, ◌+◌, ◌-◌, nat_lt, ◌==◌, option_and_then, option_map, position, bytes_eq, List, [], ◌∷◌, length, Bool, true, false, if◌then◌else◌, Option, Some, None, Result, Ok, Err, slice_get}
use Rattle.std.specs.List.{list_any}
use Rattle.std.specs.declared.alloc.Global.{Global}
use Rattle.std.specs.declared.rc.Rc.{Rc}
use Rattle.std.specs.declared.vec.Vec.{Vec}
use Rattle.scan_values.specs.declared.ptype.PType.{PType}
use Rattle.scan_values.specs.declared.ptype.PType.TheVariants.{U64}
use Rattle.scan_values.specs.declared.ptype.Nullability.{Nullability}
use Rattle.scan_values.specs.declared.ptype.Nullability.TheVariants.{NonNullable, Nullable}
use Rattle.scan_values.specs.DataType.{DataType, bool_type, int_type, struct_type, Fields, no_fields, field_list, nullability_of, Name}
use Rattle.scan_values.specs.Kinds.{element_of}
use Rattle.scan_values.specs.FieldPaths.{matches_all, starting_field, stepped}
use Rattle.scan_values.specs.declared.field_path.FieldMask.{FieldMask}
use Rattle.scan_values.specs.declared.field_path.FieldMask.TheVariants.{All}
use Rattle.scan_values.specs.FieldLists.{names_of, dtypes_of as field_types}
use Rattle.scan_layout.specs.declared.node.LayoutKind.{LayoutKind}
use Rattle.scan_layout.specs.declared.node.LayoutKind.TheVariants.{Struct, List as List'}
use Rattle.scan_layout.specs.declared.fault.LayoutFault.{LayoutFault}
use Rattle.scan_layout.specs.declared.fault.LayoutFault.TheVariants.{ChildDType}
use Rattle.scan_layout.specs.declared.layouts.SlotFault.{SlotFault}
use Rattle.scan_layout.specs.declared.layouts.SlotFault.TheVariants.{NoSlot, NoMemory}
use Rattle.scan_layout.specs.declared.layouts.MaskFault.{MaskFault}
use Rattle.scan_layout.specs.declared.layouts.MaskFault.TheVariants.{NoSuchField}
use Rattle.scan_layout.specs.declared.layouts.MaskFault.TheVariants as masks
use Rattle.scan_layout.specs.Layout.{Layout, Nodes, node, no_nodes, child, rows_of}
use Rattle.scan_layout.specs.Check.{level_fault}

abbrev pub is_struct_kind : LayoutKind → Bool
is_struct_kind Struct = true
is_struct_kind _ = false

abbrev pub is_list_kind : LayoutKind → Bool
is_list_kind (List' p) = true
is_list_kind _ = false

-- the integer type of the offsets, of a list
abbrev pub list_ptype : LayoutKind → Option PType
list_ptype (List' p) = Some p
list_ptype _ = None

abbrev pub ptype_of_kind : LayoutKind → PType
ptype_of_kind (List' p) = p
ptype_of_kind _ = U64

-- how many of a thing stand where a value may be null
abbrev pub one_where : Nullability → ℕ
one_where NonNullable = 0
one_where Nullable = 1

abbrev pub only_where : {X : Type 0} → Nullability → X → Option X
only_where NonNullable x = None
only_where Nullable x = Some x

-- slot 0 of a struct is its validity, and field i is slot i + 1
abbrev pub struct_slots : DataType → ℕ
struct_slots (struct_type fs n) = length (field_list fs) + 1
struct_slots _ = 0

abbrev pub struct_slot : DataType → ℕ → Option ℕ
struct_slot (struct_type fs n) slot = if slot == 0 then only_where n 0 else if nat_lt (slot - 1)
    (length (field_list fs)) then Some (slot - 1 + one_where n) else None
struct_slot _ slot = None

abbrev pub struct_slot_type : DataType → ℕ → Option DataType
struct_slot_type (struct_type fs n) slot = if slot == 0 then only_where n (bool_type NonNullable) else slice_get (field_types (field_list fs)) (slot - 1)
struct_slot_type _ slot = None

-- the slots of a list are its elements, its offsets and its validity
abbrev pub list_slot : DataType → ℕ → Option ℕ
list_slot t slot = if nat_lt slot 2 then Some slot else if slot == 2 then only_where (nullability_of t) 2 else None

abbrev pub list_slot_type : DataType → PType → ℕ → Option DataType
list_slot_type t p slot =
    if slot == 0 then element_of t else if slot == 1 then Some
    (int_type p NonNullable) else if slot == 2 then only_where (nullability_of t)
    (bool_type NonNullable) else None

-- the child of an index
abbrev pub nth_kid : Nodes → ℕ → Option Layout
nth_kid no_nodes k = None
nth_kid (child l ls) zero = Some l
nth_kid (child l ls) (suc k) = nth_kid ls k

-- the integer type of offsets of a dtype
abbrev pub offsets_type : DataType → Option PType
offsets_type (int_type p NonNullable) = Some p
offsets_type _ = None

abbrev pub optional_node : Option (Rc Layout Global) → Nodes
optional_node None = no_nodes
optional_node (Some v) = child v.value no_nodes

-- the list of these children, which has one row less than offsets
abbrev pub list_of : DataType → PType → Layout → Layout → Nodes → Layout
list_of t p elements offsets validity = node t (rows_of offsets - 1) (List' p) (child elements (child offsets validity))

abbrev pub list_made_of : DataType → Option PType → Layout → Layout → Nodes → Option Layout
list_made_of t None elements offsets validity = None
list_made_of t (Some p) elements offsets validity = Some (list_of t p elements offsets validity)

-- what is wrong with a list that is to be made
abbrev pub level_fault_of : Option Layout → Option LayoutFault
level_fault_of None = Some ChildDType
level_fault_of (Some l) = level_fault l

-- what a call for a slot's dtype answers
abbrev pub TellsSlot : Result DataType SlotFault → Option DataType → Type 0
TellsSlot (Ok t) o = o ≡ Some t
TellsSlot (Err NoSlot) o = o ≡ None
TellsSlot (Err NoMemory) o = Unit {0}

-- Every field with the mask of all where some mask matches all, else the field of the first name of each mask, with
-- the mask below that name. Nothing where a mask names no field.
abbrev pub every_field : ℕ → ℕ → List (FieldMask × ℕ)
every_field k zero = []
every_field k (suc n) = (All, k) ∷ every_field (k + 1) n

abbrev pub field_of : List Name → FieldMask → Option ℕ
field_of names m = option_and_then (λ n. position (bytes_eq n) names) (starting_field m)

abbrev pub named_fields : List Name → List FieldMask → Option (List (FieldMask × ℕ))
named_fields names [] = Some []
named_fields names (m ∷ ms) = option_and_then (λ i. option_map (λ rest. (stepped m, i) ∷ rest) (named_fields names ms)) (field_of names m)

abbrev pub matching_fields : Fields → List FieldMask → Option (List (FieldMask × ℕ))
matching_fields fs masks = if list_any matches_all masks then Some (every_field 0 (length (field_list fs))) else named_fields (names_of (field_list fs)) masks

abbrev pub fields_in : DataType → Fields
fields_in (struct_type fs n) = fs
fields_in _ = no_fields

-- what a call for the matching fields answers
abbrev pub TellsMatches : Result (Vec (FieldMask × ℕ) Global) MaskFault → Option (List (FieldMask × ℕ)) → Type 0
TellsMatches (Ok v) o = o ≡ Some v.items
TellsMatches (Err NoSuchField) o = o ≡ None
TellsMatches (Err masks.NoMemory) o = Unit {0}
