-- The layout of a file under another dtype, and what stands behind its segments.
use Rattle.std.specs.Prelude.{ℕ, zero, suc, ◌+◌, List, [], ◌∷◌, ◌++◌, length, map, Bool, true, false, if◌then◌else◌, cond, bytes_eq, Option, None, Some}
use Rattle.scan_values.specs.declared.ptype.Nullability.{Nullability}
use Rattle.scan_values.specs.declared.ptype.Nullability.TheVariants.{NonNullable, Nullable}
use Rattle.scan_values.specs.DataType.{DataType, Name, Fields, bool_type, int_type, utf8_type, list_type, struct_type, no_fields, field, nullability_of}
use Rattle.scan_values.specs.Same.{same_type}
use Rattle.scan_layout.specs.declared.node.LayoutKind.{LayoutKind}
use Rattle.scan_layout.specs.declared.node.LayoutKind.TheVariants.{Leaf, Struct, List as List'}
use Rattle.scan_spelling.specs.declared.spelling.Spelling.{Spelling}
use Rattle.scan_spelling.specs.declared.spelling.Spelling.TheVariants.{One}
use Rattle.scan_layout.specs.Layout.{Layout, Nodes, node, no_nodes, child, dtype_of, rows_of, kind_of, kids_of}
use Rattle.scan_widen.specs.declared.behind.Behind.{Behind}
use Rattle.scan_widen.specs.declared.behind.Behind.TheVariants.{Kept, Widened, Valid}
use Rattle.scan_widen.specs.Blanks.{flags, only_rows, one_leaf, blank_behind, blank_under}

abbrev pub fields_in : DataType → Fields
fields_in (struct_type fs n) = fs
fields_in t = no_fields

-- a layout's child of this index; in place of one that it lacks, one without rows
abbrev pub kid_at : Nodes → ℕ → Layout
kid_at no_nodes k = node flags 0 Struct no_nodes
kid_at (child l ls) zero = l
kid_at (child l ls) (suc k) = kid_at ls k

-- the children of a struct but for its validity
abbrev pub after_validity : Nullability → Nodes → Nodes
after_validity NonNullable kids = kids
after_validity Nullable no_nodes = no_nodes
after_validity Nullable (child v kids) = kids

-- the child that is the field of this name
abbrev pub kid_named : Name → Fields → Nodes → Option Layout
kid_named n no_fields kids = None
kid_named n (field m d fs) no_nodes = None
kid_named n (field m d fs) (child l ls) = cond (bytes_eq n m) (Some l) (kid_named n fs ls)

abbrev pub field_kid : Name → Layout → Option Layout
field_kid n l = kid_named n (fields_in (dtype_of l)) (after_validity (nullability_of (dtype_of l)) (kids_of l))

abbrev pub segments_of : LayoutKind → List (ℕ × ℕ)
segments_of (Leaf segments s) = segments
segments_of kind = []

abbrev pub spelling_of : LayoutKind → Spelling
spelling_of (Leaf segments s) = s
spelling_of kind = One

-- ---- leaves
-- what stands behind a segment of a leaf: where the dtype is the same it is handed on
abbrev pub segment_behind : DataType → DataType → Spelling → ℕ × ℕ → Behind
segment_behind from to s g = if same_type from to then Kept g.0 else Widened (record { id = g.0; rows = g.1; spelling = s; from = from; to = to })

abbrev pub leaf_behind : DataType → Layout → List Behind
leaf_behind to l = map (segment_behind (dtype_of l) to (spelling_of (kind_of l))) (segments_of (kind_of l))

-- segments of the same rows, numbered from here
abbrev pub numbered : ℕ → List (ℕ × ℕ) → List (ℕ × ℕ)
numbered k [] = []
numbered k (g ∷ segments) = (k, g.1) ∷ numbered (k + 1) segments

abbrev pub spelling_under : DataType → DataType → Spelling → Spelling
spelling_under from to s = if same_type from to then s else One

abbrev pub leaf_under : ℕ → DataType → Layout → Layout
leaf_under k to l = node to (rows_of l) (Leaf (numbered k (segments_of (kind_of l))) (spelling_under (dtype_of l) to (spelling_of (kind_of l)))) no_nodes

-- ---- the validity of a struct or a list: its own, or one of rows that are all there
abbrev pub own_or_valid : {T : Type 0} → Nullability → T → T → T
own_or_valid NonNullable own valid = valid
own_or_valid Nullable own valid = own

-- where the dtype has null: for a layout, and its validity where it has one
abbrev pub validity_behind : Nullability → Layout → Layout → List Behind
validity_behind NonNullable l v = []
validity_behind Nullable l v = own_or_valid (nullability_of (dtype_of l)) (leaf_behind flags v) (only_rows (rows_of l) (Valid (rows_of l)))

abbrev pub validity_under : ℕ → Nullability → Layout → Layout → Nodes → Nodes
validity_under k NonNullable l v others = others
validity_under k Nullable l v others = child (own_or_valid (nullability_of (dtype_of l)) (leaf_under k flags v) (one_leaf k flags (rows_of l))) others

-- what is found, read so, or else this
abbrev pub read_or : {T : Type 0} → T → (Layout → T) → Option Layout → T
read_or otherwise f None = otherwise
read_or otherwise f (Some l) = f l

-- ---- what stands behind the segments of a layout under a dtype, in the order of its leaves
abbrev mutual
  pub behind : DataType → Layout → List Behind
  behind (list_type e m) l =
      behind e (kid_at (kids_of l) 0) ++ (leaf_behind (dtype_of (kid_at (kids_of l) 1)) (kid_at (kids_of l) 1) ++ validity_behind m l (kid_at (kids_of l) 2))
  behind (struct_type gs m) l = validity_behind m l (kid_at (kids_of l) 0) ++ fields_behind gs l
  behind to l = leaf_behind to l

  pub fields_behind : Fields → Layout → List Behind
  fields_behind no_fields l = []
  fields_behind (field n t gs) l = read_or (blank_behind t (rows_of l)) (λ kid. behind t kid) (field_kid n l) ++ fields_behind gs l

-- ---- the layout under a dtype, its segments numbered from here in the order of its leaves
abbrev mutual
  pub under : ℕ → DataType → Layout → Layout
  under k (list_type e m) l =
      let elements : Layout = kid_at (kids_of l) 0 in
      let offsets : Layout = kid_at (kids_of l) 1 in
      let from : ℕ = k + length (behind e elements) in
      node (list_type e m) (rows_of l) (kind_of l) (child (under k e elements) (child (leaf_under from (dtype_of offsets) offsets)
      (validity_under (from + length (leaf_behind (dtype_of offsets) offsets)) m l (kid_at (kids_of l) 2) no_nodes)))
  under k (struct_type gs m) l =
      let v : Layout = kid_at (kids_of l) 0 in
      node (struct_type gs m) (rows_of l) Struct (validity_under k m l v (fields_under (k + length (validity_behind m l v)) gs l))
  under k to l = leaf_under k to l

  pub fields_under : ℕ → Fields → Layout → Nodes
  fields_under k no_fields l = no_nodes
  fields_under k (field n t gs) l =
      child (read_or (blank_under k t (rows_of l)) (λ kid. under k t kid) (field_kid n l))
      (fields_under (k + length (read_or (blank_behind t (rows_of l)) (λ kid. behind t kid) (field_kid n l))) gs l)

-- ---- one wanted field
abbrev pub field_behind : Name → DataType → Layout → List Behind
field_behind n t l = read_or (blank_behind t (rows_of l)) (λ kid. behind t kid) (field_kid n l)

abbrev pub field_under : ℕ → Name → DataType → Layout → Layout
field_under k n t l = read_or (blank_under k t (rows_of l)) (λ kid. under k t kid) (field_kid n l)

-- ---- the children of a node as a list
abbrev pub validity_layouts : ℕ → Nullability → Layout → Layout → List Layout
validity_layouts k NonNullable l v = []
validity_layouts k Nullable l v = own_or_valid (nullability_of (dtype_of l)) (leaf_under k flags v) (one_leaf k flags (rows_of l)) ∷ []

abbrev pub field_layouts : ℕ → Fields → Layout → List Layout
field_layouts k no_fields l = []
field_layouts k (field n t gs) l = field_under k n t l ∷ field_layouts (k + length (field_behind n t l)) gs l
