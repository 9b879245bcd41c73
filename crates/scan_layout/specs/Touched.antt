-- The segments that rows of a layout touch.
use Rattle.std.specs.Prelude.{ℕ, zero, suc, ◌+◌, ◌-◌, nat_lt, ◌==◌, ◌&&◌, ◌++◌, min, max, map, List, [], ◌∷◌, if◌then◌else◌, Option, Some, None, ℤ, pos, negsuc}
use Rattle.scan_values.specs.declared.ptype.Nullability.TheVariants.{NonNullable, Nullable}
use Rattle.scan_values.specs.DataType.{DataType, Fields, no_fields, field, struct_type}
use Rattle.scan_values.specs.Marked.{Marked}
use Rattle.scan_values.specs.Paths.{Step, to_field, to_validity, to_offsets, to_elements}
use Rattle.scan_segments.specs.Source.{Store}
use Rattle.scan_layout.specs.declared.node.LayoutKind.TheVariants.{Leaf, Struct, List as List'}
use Rattle.scan_layout.specs.Layout.{Layout, Nodes, node, no_nodes, child}
use Rattle.scan_spelling.specs.Places.{Place, places_of}
use Rattle.scan_layout.specs.RowValue.{nth_value, nth_rows, offset_of}

abbrev pub below_step : Step → Place → Place
below_step step p = record p { path = step ∷ p.path }

abbrev pub under_step : Step → List Place → List Place
under_step step places = map (below_step step) places

-- the segments of a leaf that hold one of the rows from s up to e, where the first begins at the row base
abbrev pub leaf_touched : ℕ → List Place → ℕ → ℕ → List Place
leaf_touched base [] s e = []
leaf_touched base (p ∷ places) s e =
    (if nat_lt (max base s) (min (base + p.rows) e) then p ∷ [] else []) ++ leaf_touched (base + p.rows) places s e

-- an offset as a row of the elements
abbrev pub row_at : ℤ → ℕ
row_at (pos n) = n
row_at (negsuc n) = 0

abbrev pub lesser : Option ℤ → ℕ → ℕ
lesser None n = n
lesser (Some z) n = min (row_at z) n

abbrev pub greater : Option ℤ → ℕ → ℕ
greater None n = n
greater (Some z) n = max (row_at z) n

-- the least and the greatest of so many offsets from a place on, of those that decode
abbrev pub least_offset : ℕ → (ℕ → Marked) → ℕ → ℕ → ℕ
least_offset most f i zero = most
least_offset most f i (suc n) = lesser (offset_of (f i)) (least_offset most f (i + 1) n)

abbrev pub greatest_offset : (ℕ → Marked) → ℕ → ℕ → ℕ
greatest_offset f i zero = 0
greatest_offset f i (suc n) = greater (offset_of (f i)) (greatest_offset f (i + 1) n)

-- The rows of the elements that the lists from s up to e take, cut to those that there are. All lists take all.
abbrev pub element_from : ℕ → ℕ → (ℕ → Marked) → ℕ → ℕ → ℕ
element_from most rows offset s e = if (s == 0) && (e == rows) then 0 else least_offset most offset s (e + 1 - s)

abbrev pub element_to : ℕ → ℕ → (ℕ → Marked) → ℕ → ℕ → ℕ
element_to most rows offset s e = if (s == 0) && (e == rows) then most else min most (greatest_offset offset s (e + 1 - s))

-- the steps to the children, in their order
abbrev pub field_steps : Fields → List Step
field_steps no_fields = []
field_steps (field name t fs) = to_field name ∷ field_steps fs

abbrev pub struct_steps : DataType → List Step
struct_steps (struct_type fs NonNullable) = field_steps fs
struct_steps (struct_type fs Nullable) = to_validity ∷ field_steps fs
struct_steps _ = []

-- what the rows from s up to e of a layout touch
abbrev mutual
  pub touched : Layout → Store → ℕ → ℕ → List Place
  touched (node t rows (Leaf segments spelling) kids) store s e = leaf_touched 0 (places_of t spelling segments) s e
  touched (node t rows Struct kids) store s e = if nat_lt s e then all_touched kids (struct_steps t) store s e else []
  touched (node t rows (List' p) kids) store s e =
      if nat_lt s e then under_step to_validity (nth_touched kids 2 store s e)
      ++ (under_step to_offsets (nth_touched kids 1 store s (e + 1))
      ++ under_step to_elements (nth_touched kids 0 store
      (element_from (nth_rows kids 0) rows (λ i. nth_value kids 1 store i) s e)
      (element_to (nth_rows kids 0) rows (λ i. nth_value kids 1 store i) s e)))
      else []

  pub nth_touched : Nodes → ℕ → Store → ℕ → ℕ → List Place
  nth_touched no_nodes k store s e = []
  nth_touched (child l ls) zero store s e = touched l store s e
  nth_touched (child l ls) (suc k) store s e = nth_touched ls k store s e

  pub all_touched : Nodes → List Step → Store → ℕ → ℕ → List Place
  all_touched no_nodes steps store s e = []
  all_touched (child l ls) [] store s e = touched l store s e ++ all_touched ls [] store s e
  all_touched (child l ls) (step ∷ steps) store s e = under_step step (touched l store s e) ++ all_touched ls steps store s e
