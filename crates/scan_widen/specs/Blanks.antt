-- Rows that a file does not have: null where the dtype has it, else false, 0 or the empty text; no elements.
use Rattle.std.specs.Prelude.{ℕ, zero, suc, ◌+◌, List, [], ◌∷◌, ◌++◌, length, pos, false}
use Rattle.scan_values.specs.declared.ptype.Nullability.{Nullability}
use Rattle.scan_values.specs.declared.ptype.Nullability.TheVariants.{NonNullable, Nullable}
use Rattle.scan_values.specs.declared.ptype.PType.TheVariants.{U32}
use Rattle.scan_values.specs.declared.dtype.DTypeKind.{DTypeKind}
use Rattle.scan_values.specs.DataType.{DataType, Fields, bool_type, int_type, utf8_type, list_type, struct_type, no_fields, field}
use Rattle.scan_values.specs.Val.{Val, null_val, bool_val, int_val, text_val}
use Rattle.scan_layout.specs.declared.node.LayoutKind.TheVariants.{Leaf, Struct, List as List'}
use Rattle.scan_spelling.specs.declared.spelling.Spelling.TheVariants.{One}
use Rattle.scan_spelling.specs.Spelling.{width}
use Rattle.scan_layout.specs.Layout.{Layout, Nodes, node, no_nodes, child}
pub use Rattle.scan_widen.specs.Scalars.{flags}
use Rattle.scan_widen.specs.declared.behind.Behind.{Behind}
use Rattle.scan_widen.specs.declared.behind.Behind.TheVariants.{Blank}

-- the value that stands for one that a file does not have
abbrev pub blank_val : DataType → Val
blank_val (bool_type NonNullable) = bool_val false
blank_val (int_type p NonNullable) = int_val (pos 0)
blank_val (utf8_type NonNullable) = text_val []
blank_val t = null_val

-- one segment of rows that are there
abbrev pub only_rows : {T : Type 0} → ℕ → T → List T
only_rows zero x = []
only_rows (suc n) x = x ∷ []

abbrev pub blank_flags : Nullability → ℕ → List Behind
blank_flags NonNullable rows = []
blank_flags Nullable rows = only_rows rows (Blank flags rows)

-- what stands behind the segments of so many rows of a dtype
abbrev mutual
  pub blank_behind : DataType → ℕ → List Behind
  blank_behind (list_type e n) rows = blank_behind e 0 ++ (Blank (int_type U32 NonNullable) (rows + 1) ∷ blank_flags n rows)
  blank_behind (struct_type fs n) rows = blank_flags n rows ++ blanks_behind fs rows
  blank_behind t rows = only_rows rows (Blank t rows)

  pub blanks_behind : Fields → ℕ → List Behind
  blanks_behind no_fields rows = []
  blanks_behind (field n t fs) rows = blank_behind t rows ++ blanks_behind fs rows

-- a leaf of one segment of this id, or of none where there are no rows
abbrev pub one_leaf : ℕ → DataType → ℕ → Layout
one_leaf k t rows = node t rows (Leaf (only_rows rows (k, rows)) One) no_nodes

-- the validity of a dtype, its segment numbered from here, before or after other children
abbrev pub flags_leaf : ℕ → Nullability → ℕ → Nodes → Nodes
flags_leaf k NonNullable rows others = others
flags_leaf k Nullable rows others = child (one_leaf k flags rows) others

-- their layout, its segments numbered from here
abbrev mutual
  pub blank_under : ℕ → DataType → ℕ → Layout
  blank_under k (list_type e n) rows =
      let from : ℕ = k + length (blank_behind e 0) in
      node (list_type e n) rows (List' U32) (child (blank_under k e 0) (child (one_leaf from (int_type U32 NonNullable) (rows + 1)) (flags_leaf (from + 1) n rows no_nodes)))
  blank_under k (struct_type fs n) rows = node (struct_type fs n) rows Struct (flags_leaf k n rows (blanks_under (k + length (blank_flags n rows)) fs rows))
  blank_under k t rows = one_leaf k t rows

  pub blanks_under : ℕ → Fields → ℕ → Nodes
  blanks_under k no_fields rows = no_nodes
  blanks_under k (field n t fs) rows = child (blank_under k t rows) (blanks_under (k + length (blank_behind t rows)) fs rows)

-- ---- the children of a node as a list
abbrev pub flags_layouts : ℕ → Nullability → ℕ → List Layout
flags_layouts k NonNullable rows = []
flags_layouts k Nullable rows = one_leaf k flags rows ∷ []

abbrev pub blank_layouts : ℕ → Fields → ℕ → List Layout
blank_layouts k no_fields rows = []
blank_layouts k (field n t fs) rows = blank_under k t rows ∷ blank_layouts (k + length (blank_behind t rows)) fs rows

-- ---- the bytes of blank rows, which are zeros
abbrev pub slot_size : DTypeKind → ℕ
slot_size DTypeKind.Bool = 1
slot_size (DTypeKind.Primitive p) = width p
slot_size DTypeKind.Utf8 = 4
slot_size DTypeKind.List = 0
slot_size DTypeKind.Struct = 0

abbrev pub row_size : DTypeKind → Nullability → ℕ
row_size kind NonNullable = slot_size kind
row_size kind Nullable = slot_size kind + 1
