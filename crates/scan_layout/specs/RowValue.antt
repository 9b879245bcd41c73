-- The value of a row of a layout over a store.
use Rattle.std.specs.Prelude.{ℕ, zero, suc, ◌+◌, ◌-◌, nat_lt, nat_le, ◌&&◌, List, [], ◌∷◌, true, false, if◌then◌else◌, Option, Some, None, ℤ, pos, slice_index_or}
use Rattle.scan_values.specs.declared.ptype.Nullability.{Nullability}
use Rattle.scan_values.specs.declared.ptype.Nullability.TheVariants.{NonNullable, Nullable}
use Rattle.scan_values.specs.DataType.{DataType, nullability_of}
use Rattle.scan_values.specs.Marked.{Marked, lost, null, gone, boolean, integer, list, struct, Markeds, none, more}
use Rattle.scan_values.specs.Val.{Val, null_val, marked}
use Rattle.scan_values.specs.Damage.{damaged_of}
use Rattle.scan_segments.specs.Source.{Store}
use Rattle.scan_layout.specs.declared.node.LayoutKind.TheVariants.{Leaf, Struct, List as List'}
use Rattle.scan_layout.specs.Layout.{Layout, Nodes, node, no_nodes, child, rows_of}
use Rattle.scan_spelling.specs.Places.{Place, places_of, decoded}

-- row i of a segment of so many rows
abbrev pub item_of : DataType → ℕ → Option (List Val) → Marked
item_of t i None = damaged_of t
item_of t i (Some values) = marked (slice_index_or values i null_val)

abbrev pub segment_value : Store → Place → ℕ → Marked
segment_value store p i = item_of p.dtype i (decoded store p)

-- row i of a leaf of these segments: its value in the segment that has the row
abbrev pub leaf_value : DataType → Store → List Place → ℕ → Marked
leaf_value t store [] i = damaged_of t
leaf_value t store (p ∷ places) i = if nat_lt i p.rows then segment_value store p i else leaf_value t store places (i - p.rows)

-- a value under its validity
abbrev pub under : Marked → Marked → Marked
under (boolean true) value = value
under (boolean false) value = null
under _ value = lost

abbrev pub where_valid : Nullability → Marked → Marked → Marked
where_valid NonNullable validity value = value
where_valid Nullable validity value = under validity value

-- the struct of these fields, before which its validity stands where it has one
abbrev pub struct_value : Nullability → Markeds → Marked
struct_value NonNullable all = struct all
struct_value Nullable (more validity fields) = under validity (struct fields)
struct_value Nullable none = lost

-- an offset that is there, as a number
abbrev pub offset_of : Marked → Option ℤ
offset_of (integer z) = Some z
offset_of _ = None

-- so many values, from a place on
abbrev pub values_from : (ℕ → Marked) → ℕ → ℕ → Markeds
values_from f i zero = none
values_from f i (suc n) = more (f i) (values_from f (i + 1) n)

-- the elements between two offsets, where these are there, in order and within the elements
abbrev pub elements_between : ℕ → Option ℤ → Option ℤ → (ℕ → Marked) → Marked
elements_between rows (Some (pos a)) (Some (pos b)) element = if nat_le a b && nat_le b rows then list (values_from element a (b - a)) else gone
elements_between rows _ _ element = gone

abbrev pub nth_rows : Nodes → ℕ → ℕ
nth_rows no_nodes k = 0
nth_rows (child l ls) zero = rows_of l
nth_rows (child l ls) (suc k) = nth_rows ls k

abbrev mutual
  pub row_value : Layout → Store → ℕ → Marked
  row_value (node t rows (Leaf segments spelling) kids) store i = leaf_value t store (places_of t spelling segments) i
  row_value (node t rows Struct kids) store i = struct_value (nullability_of t) (row_values kids store i)
  row_value (node t rows (List' p) kids) store i = where_valid (nullability_of t) (nth_value kids 2 store i)
      (elements_between (nth_rows kids 0) (offset_of (nth_value kids 1 store i)) (offset_of (nth_value kids 1 store (i + 1))) (λ j. nth_value kids 0 store j))

  -- of the child of this index
  pub nth_value : Nodes → ℕ → Store → ℕ → Marked
  nth_value no_nodes k store i = gone
  nth_value (child l ls) zero store i = row_value l store i
  nth_value (child l ls) (suc k) store i = nth_value ls k store i

  -- of each child
  pub row_values : Nodes → Store → ℕ → Markeds
  row_values no_nodes store i = none
  row_values (child l ls) store i = more (row_value l store i) (row_values ls store i)
