-- The layout that a JSON value says, of a dtype.
use Rattle.std.specs.Prelude.{ℕ, zero, suc, ◌-◌, ◌^◌, ◌==◌, List, Bool, Option, None, Some, option_and_then, unwrap_or, slice_get, if◌then◌else◌, codes}
use Rattle.serde_json.specs.Data.{Data}
use Rattle.serde_json.specs.Find.{get, as_str, as_array}
use Rattle.scan_values.specs.declared.ptype.PType.{PType}
use Rattle.scan_values.specs.declared.ptype.Nullability.TheVariants.{NonNullable}
use Rattle.scan_values.specs.DataType.{DataType, Fields, field_list, bool_type, int_type, is_nullable}
use Rattle.scan_values.specs.FieldLists.{dtypes_of}
use Rattle.scan_values.specs.Kinds.{element_of, struct_fields_of}
use Rattle.scan_layout.specs.declared.node.LayoutKind.{LayoutKind}
use Rattle.scan_layout.specs.declared.node.LayoutKind.TheVariants.{Leaf, Struct, List as Listed}
use Rattle.scan_spelling.specs.declared.spelling.Spelling.{Spelling}
use Rattle.scan_spelling.specs.declared.spelling.Spelling.TheVariants.{One, Two}
use Rattle.scan_layout.specs.Layout.{Layout, node, nodes, no_nodes}
use Rattle.scan_manifest.specs.declared.json.Form.TheVariants.{LeafLayout, StructLayout, ListLayout}
use Rattle.scan_manifest.specs.Json.{has_form, number_of, number_to, optional, pair_in, each_from, list_in, both}
use Rattle.scan_manifest.specs.DTypes.{ptype_named, most_levels}

-- what a child is that its parent's dtype does not name
abbrev pub truth : DataType
truth = bool_type NonNullable

-- the dtype of a field by its place
abbrev pub field_or_truth : Fields → ℕ → DataType
field_or_truth fs i = unwrap_or (slice_get (dtypes_of (field_list fs)) i) truth

-- a nullable struct's validity stands before its fields
abbrev pub struct_child : Bool → Option Fields → ℕ → DataType
struct_child nullable None i = truth
struct_child nullable (Some fs) i = if nullable then (if i == 0 then truth else field_or_truth fs (i - 1)) else field_or_truth fs i

-- a list's elements, then its offsets, then its validity
abbrev pub list_child : PType → Option DataType → ℕ → DataType
list_child p element i = if i == 0 then unwrap_or element truth else (if i == 1 then int_type p NonNullable else truth)

-- the dtype of a child by its place
abbrev pub child_type : LayoutKind → DataType → ℕ → DataType
child_type (Leaf segments spelling) d i = truth
child_type Struct d i = struct_child (is_nullable d) (struct_fields_of d) i
child_type (Listed p) d i = list_child p (element_of d) i

-- a segment's id and its rows
abbrev pub place_in : Data → Option (ℕ × ℕ)
place_in d = option_and_then (λ p. both (λ id rows. Some (id, rows)) (number_to (2 ^ 32 - 1) p.0) (number_of p.1)) (pair_in d)

abbrev pub rows_in : Data → Option ℕ
rows_in d = option_and_then number_of (get (codes "rows") d)

abbrev pub children_in : (DataType → Data → Option Layout) → LayoutKind → DataType → Data → Option (List Layout)
children_in inner kind dtype d = option_and_then (each_from (λ i. inner (child_type kind dtype i)) 0) (as_array d)

abbrev pub spelling_numbered : ℕ → Option Spelling
spelling_numbered n = if n == 1 then Some One else (if n == 2 then Some Two else None)

-- how the segments of a leaf are spelt: in spelling 1 where none is told
abbrev pub spelling_in : Data → Option Spelling
spelling_in d = optional One (λ n. option_and_then spelling_numbered (number_of n)) (get (codes "spelling") d)

abbrev pub leaf_layout : DataType → Data → Data → Option Layout
leaf_layout dtype d segments =
    if has_form LeafLayout d then option_and_then
    (λ y. both (λ ps n. Some (node dtype n (Leaf ps y) no_nodes)) (list_in place_in segments) (rows_in d))
    (spelling_in d) else None

abbrev pub struct_layout : (DataType → Data → Option Layout) → DataType → Data → Data → Option Layout
struct_layout inner dtype d children = if has_form StructLayout d then both
    (λ ls n. Some (node dtype n Struct (nodes ls))) (children_in inner Struct dtype children) (rows_in d) else None

abbrev pub offsets_in : Data → Option PType
offsets_in d = option_and_then ptype_named (option_and_then as_str (get (codes "offsets") d))

abbrev pub list_layout : (DataType → Data → Option Layout) → DataType → Data → Data → Option Layout
list_layout inner dtype d children =
    if has_form ListLayout d then option_and_then (λ p. both (λ ls n. Some (node dtype n (Listed p) (nodes ls)))
    (children_in inner (Listed p) dtype children) (rows_in d)) (offsets_in d) else None

abbrev pub list_layout_in : (DataType → Data → Option Layout) → DataType → Data → Option Data → Option Layout
list_layout_in inner dtype d None = None
list_layout_in inner dtype d (Some children) = list_layout inner dtype d children

abbrev pub tree_in : (DataType → Data → Option Layout) → DataType → Data → Option Data → Option Layout
tree_in inner dtype d (Some children) = struct_layout inner dtype d children
tree_in inner dtype d None = list_layout_in inner dtype d (get (codes "list") d)

abbrev pub layout_from : (DataType → Data → Option Layout) → DataType → Data → Option Data → Option Layout
layout_from inner dtype d (Some segments) = leaf_layout dtype d segments
layout_from inner dtype d None = tree_in inner dtype d (get (codes "struct") d)

-- of a value that nests no deeper than so much
abbrev pub layout_within : ℕ → DataType → Data → Option Layout
layout_within zero dtype d = None
layout_within (suc n) dtype d = layout_from (layout_within n) dtype d (get (codes "leaf") d)

abbrev pub layout_in : DataType → Data → Option Layout
layout_in dtype d = layout_within most_levels dtype d
