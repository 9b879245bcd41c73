-- What is no good in a store: segments that are missing or do not decode, and offsets of lists that are bad.
use Rattle.std.specs.Prelude.{◌≡◌, ℕ, zero, suc, ◌+◌, ◌==◌, nat_lt, ◌&&◌, ◌||◌, List, [], ◌∷◌, ◌++◌, Bool, true, false, map, is_none, bytes_eq, Contains, Option, None, Some, ℤ, pos, negsuc}
use Rattle.std.specs.List.{list_any}
use Rattle.scan_values.specs.Paths.{Path, Step, to_field, to_validity, to_offsets, to_elements}
use Rattle.scan_values.specs.Same.{same_type}
use Rattle.scan_segments.specs.Source.{Store}
use Rattle.scan_layout.specs.declared.node.LayoutKind.TheVariants.{Leaf, Struct, List as List'}
use Rattle.scan_spelling.specs.declared.spelling.Spelling.{Spelling}
use Rattle.scan_spelling.specs.declared.spelling.Spelling.TheVariants.{One, Two}
use Rattle.scan_layout.specs.Layout.{Layout, Nodes, node, no_nodes, child, rows_of}
use Rattle.scan_layout.specs.RowValue.{row_value, offset_of}
use Rattle.scan_spelling.specs.Places.{Place, decoded}
use Rattle.scan_layout.specs.Touched.{touched, struct_steps, greater}
use Rattle.scan_plans.specs.Lists.{rows_on}

-- the offsets of a list: the path of their leaf, the leaf, and how many elements there are
pub record ListOffsets : Type 0 where
  pub path : Path
  pub leaf : Layout
  pub elements : ℕ

abbrev pub below : Step → ListOffsets → ListOffsets
below step o = record o { path = step ∷ o.path }

-- the offsets of each list of a layout
abbrev mutual
  pub lists_of : Layout → List ListOffsets
  lists_of (node t rows (Leaf segments spelling) kids) = []
  lists_of (node t rows Struct kids) = lists_under kids (struct_steps t)
  lists_of (node t rows (List' p) (child elements (child offsets others))) =
      record { path = to_offsets ∷ []; leaf = offsets; elements = rows_of elements } ∷ map (below to_elements) (lists_of elements)
  lists_of (node t rows (List' p) _) = []

  -- those of the children to which these steps lead
  pub lists_under : Nodes → List Step → List ListOffsets
  lists_under no_nodes steps = []
  lists_under (child l ls) [] = []
  lists_under (child l ls) (step ∷ steps) = map (below step) (lists_of l) ++ lists_under ls steps

-- the offset of a row, where it is there
abbrev pub offset_at : ListOffsets → Store → ℕ → Option ℤ
offset_at o store i = offset_of (row_value o.leaf store i)

-- the offset before a row's own, where it is there
abbrev pub offset_before : ListOffsets → Store → ℕ → ℕ
offset_before o store zero = 0
offset_before o store (suc i) = greater (offset_at o store i) 0

-- an offset is negative, below the one before it, or past the elements
abbrev pub is_bad_offset : ℕ → ℕ → Option ℤ → Bool
is_bad_offset elements before None = false
is_bad_offset elements before (Some (pos n)) = nat_lt n before || nat_lt elements n
is_bad_offset elements before (Some (negsuc n)) = true

-- two steps, two paths, two spellings, two places are the same
abbrev pub same_step : Step → Step → Bool
same_step (to_field f) (to_field g) = bytes_eq f g
same_step to_validity to_validity = true
same_step to_offsets to_offsets = true
same_step to_elements to_elements = true
same_step _ _ = false

abbrev pub same_path : Path → Path → Bool
same_path [] [] = true
same_path [] (y ∷ ys) = false
same_path (x ∷ xs) [] = false
same_path (x ∷ xs) (y ∷ ys) = same_step x y && same_path xs ys

abbrev pub same_spelling : Spelling → Spelling → Bool
same_spelling One One = true
same_spelling One Two = false
same_spelling Two One = false
same_spelling Two Two = true

abbrev pub same_place : Place → Place → Bool
same_place p q =
    same_path p.path q.path && (same_type p.dtype q.dtype && (same_spelling p.spelling q.spelling && ((p.rows == q.rows) && (p.id == q.id))))

-- the offset of a row is bad, and stands in the segment at this place
abbrev pub is_bad_in : ListOffsets → Store → Place → ℕ → Bool
is_bad_in o store p i =
    is_bad_offset o.elements (offset_before o store i) (offset_at o store i)
    && list_any (λ (q : Place). same_place (record q { path = o.path }) p) (touched o.leaf store i (i + 1))

-- the segment at this place holds the offset of some row of a list, which is bad
abbrev pub holds_bad_offset : Store → Place → ListOffsets → Bool
holds_bad_offset store p o = list_any (is_bad_in o store p) (rows_on 0 (rows_of o.leaf))

-- what a store has of a segment where it stands in a layout is missing, does not decode, or holds a bad offset
abbrev pub has_flaw : Layout → Store → Place → Bool
has_flaw l store p = is_none (decoded store p) || list_any (holds_bad_offset store p) (lists_of l)

-- ---- the same as a statement
-- the segment at a place of a layout holds the offset of a row of a list, which is bad
pub record HoldsBadOffset (l : Layout) (store : Store) (p : Place) : Type 0 where
  pub list : ListOffsets
  pub there : Contains (lists_of l) list
  pub row : ℕ
  pub bad : is_bad_offset list.elements (offset_before list store row) (offset_at list store row) ≡ true
  pub place : Place
  pub holds : Contains (touched list.leaf store row (row + 1)) place
  pub is : record place { path = list.path } ≡ p

-- a segment is missing, does not decode, or holds a bad offset
pub data IsFlawed (l : Layout) (store : Store) (p : Place) : Type 0 where
  of_bytes : decoded store p ≡ None → IsFlawed l store p
  of_offset : HoldsBadOffset l store p → IsFlawed l store p
