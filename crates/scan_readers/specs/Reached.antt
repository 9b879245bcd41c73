-- The children that an expression reaches.
use Rattle.std.specs.Prelude.{◌≡◌, ℕ, ◌+◌, ◌==◌, List, [], ◌∷◌, map, Bool, true, false, ◌&&◌, ◌||◌, Option, Some, None, option_map, unwrap_or, position, bytes_eq}
use Rattle.scan_values.specs.DataType.{DataType, bool_type, int_type, Fields, field_list, nullability_of}
use Rattle.scan_values.specs.Kinds.{element_of}
use Rattle.scan_values.specs.FieldLists.{names_of}
use Rattle.scan_values.specs.declared.ptype.Nullability.{Nullability}
use Rattle.scan_values.specs.declared.ptype.Nullability.TheVariants.{NonNullable, Nullable}
use Rattle.scan_expr.specs.Bound.{Bound, bound_of}
use Rattle.scan_expr.specs.Expr.{root}
use Rattle.scan_expr.specs.Infer.{struct_fields}
use Rattle.scan_layout.specs.declared.node.LayoutKind.TheVariants.{Leaf, Struct, List as List'}
use Rattle.scan_layout.specs.Layout.{Layout, Nodes, node, dtype_of, kids_of, kind_of}
use Rattle.scan_layout.specs.Slots.{one_where, nth_kid, ptype_of_kind}
use Rattle.scan_partition.specs.declared.item.Item.{Item}
use Rattle.scan_partition.specs.declared.item.Item.TheVariants.{Field, Validity}
use Rattle.scan_partition.specs.declared.struct_.Partitioned.{Partitioned}
use Rattle.scan_partition.specs.declared.struct_.Partitioned.TheVariants.{Direct, Single, Multi}
use Rattle.scan_partition.specs.declared.list_.ListChildrenNeeded.{ListChildrenNeeded}
use Rattle.scan_partition.specs.declared.list_.ListChildrenNeeded.TheVariants.{OffsetsAndValidity, All}
use Rattle.scan_partition.specs.declared.list_.ListChildrenNeeded.TheVariants as Needed
use Rattle.scan_partition.specs.Lists.{necessary}
use Rattle.scan_partition.specs.Split.{split, type_at}
use Rattle.scan_readers.specs.Made.{Made, is_made}

-- the child of an item: the validity stands before the fields
abbrev pub item_child : Fields → Nullability → Item → Option ℕ
item_child fs n (Field f) = option_map (λ k. one_where n + k) (position (bytes_eq f) (names_of (field_list fs)))
item_child fs NonNullable Validity = None
item_child fs Nullable Validity = Some 0

-- an expression over the child of an index
abbrev pub ChildPart : Type 0
ChildPart = ℕ × Bound

-- that of an item
abbrev pub item_part : DataType → Item → Bound → ChildPart
item_part s i e = (unwrap_or (item_child (struct_fields s) (nullability_of s) i) 0, e)

-- a field that is chosen
abbrev pub field_part : DataType → ℕ → ChildPart
field_part s k = (one_where (nullability_of s) + k, bound_of (type_at (struct_fields s) k) root)

abbrev pub item_parts : DataType → List Item → List Bound → List ChildPart
item_parts s [] es = []
item_parts s (i ∷ is) [] = []
item_parts s (i ∷ is) (e ∷ es) = item_part s i e ∷ item_parts s is es

-- what a partitioned expression asks of the children of a struct
abbrev pub child_parts : DataType → Partitioned → List ChildPart
child_parts s (Direct p) = map (field_part s) p.fields
child_parts s (Single i e) = item_part s i e ∷ []
child_parts s (Multi d) = item_parts s d.items d.parts

-- the validity of a list, where it may be null
abbrev pub validity_parts : Nullability → List ChildPart
validity_parts NonNullable = []
validity_parts Nullable = (2, bound_of (bool_type NonNullable) root) ∷ []

-- its offsets
abbrev pub offsets_part : Layout → ChildPart
offsets_part l = (1, bound_of (int_type (ptype_of_kind (kind_of l)) NonNullable) root)

-- all its elements
abbrev pub elements_part : Layout → ChildPart
elements_part l = (0, bound_of (unwrap_or (element_of (dtype_of l)) (dtype_of l)) root)

-- what expressions of a class ask of the children of a list
abbrev pub list_parts : Layout → ListChildrenNeeded → List ChildPart
list_parts l Needed.Validity = validity_parts (nullability_of (dtype_of l))
list_parts l OffsetsAndValidity = offsets_part l ∷ validity_parts (nullability_of (dtype_of l))
list_parts l All = elements_part l ∷ offsets_part l ∷ validity_parts (nullability_of (dtype_of l))

-- what an expression asks of the children of a layout
abbrev pub parts_over : Layout → Bound → List ChildPart
parts_over (node t rows (Leaf segments spelling) kids) e = []
parts_over (node t rows Struct kids) e = child_parts t (split t e.expr)
parts_over (node t rows (List' p) kids) e = list_parts (node t rows (List' p) kids) (necessary e.expr)

-- one of these parts is over the child of an index, and passes a test there
abbrev pub reached_in : (Layout → Bound → Bool) → Option Layout → List ChildPart → ℕ → Bool
reached_in test None ps k = false
reached_in test (Some c) [] k = false
reached_in test (Some c) (p ∷ ps) k = ((p.0 == k) && test c p.1) || reached_in test (Some c) ps k

-- An expression reaches the children of its parts, and what these reach in turn.
abbrev pub reached : Layout → Bound → List ℕ → Bool
reached l e [] = true
reached l e (k ∷ path) = reached_in (λ c x. reached c x path) (nth_kid (kids_of l) k) (parts_over l e) k

-- the same of parts over children
abbrev pub parts_reached : Nodes → List ChildPart → List ℕ → Bool
parts_reached kids ps [] = true
parts_reached kids ps (k ∷ path) = reached_in (λ c x. reached c x path) (nth_kid kids k) ps k

-- what is made stays made, and nothing else is made but where a test is true
pub record MakesWithin (test : List ℕ → Bool) (old new : Made) : Type 0 where
  pub stay : (path : List ℕ) → is_made old path ≡ true → is_made new path ≡ true
  pub only : (path : List ℕ) → is_made new path ≡ true → (is_made old path || test path) ≡ true

-- so much is made, and all where the test is true
abbrev pub MakesAll : (List ℕ → Bool) → Made → Made → Type 0
MakesAll test old new = (path : List ℕ) → is_made new path ≡ (is_made old path || test path)
