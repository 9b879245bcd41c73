-- The offsets that rows of lists need, the elements between them, and offsets that are no good.
use Rattle.std.specs.Prelude.{◌≡◌, ℕ, ◌+◌, ◌-◌, ◌==◌, nat_le, min, max, Bool, true, false, ◌&&◌, List, [], ◌∷◌, length, replicate, if◌then◌else◌, Option, Some, None, is_none, ℤ, pos, negsuc}
use Rattle.scan_segments.specs.Source.{Store}
use Rattle.scan_layout.specs.Check.{total_rows}
use Rattle.scan_layout.specs.Touched.{row_at, least_offset, greatest_offset}
use Rattle.scan_plans.specs.OffsetsData.{OffsetsData, offset_marked}
use Rattle.scan_plans.specs.Meaning.{true_rows}

-- so many rows, from one on
abbrev pub rows_on : ℕ → ℕ → List ℕ
rows_on i n = true_rows i (replicate n true)

abbrev pub least_row : ℕ → List ℕ → ℕ
least_row i [] = i
least_row i (j ∷ js) = min i (least_row j js)

abbrev pub greatest_row : ℕ → List ℕ → ℕ
greatest_row i [] = i
greatest_row i (j ∷ js) = max i (greatest_row j js)

-- how many offsets there are from the least of these rows to the one past the greatest
abbrev pub offset_count : ℕ → List ℕ → ℕ
offset_count i is = greatest_row i is + 2 - least_row i is

abbrev pub offset_rows : List ℕ → List ℕ
offset_rows [] = []
offset_rows (i ∷ is) = rows_on (least_row i is) (offset_count i is)

-- the rows of the elements from the least to the greatest of so many offsets, cut to those that there are
abbrev pub elements_from : OffsetsData → Store → ℕ → ℕ → List ℕ
elements_from o store i n =
    rows_on (least_offset o.elements (offset_marked o store) i n)
    (min o.elements (greatest_offset (offset_marked o store) i n) - least_offset o.elements
    (offset_marked o store) i n)

-- those of the lists at these rows and between them
abbrev pub span_elements : OffsetsData → Store → List ℕ → List ℕ
span_elements o store [] = []
span_elements o store (i ∷ is) = elements_from o store (least_row i is) (offset_count i is)

-- of rows that rise: these are all the lists that there are, and there is one
abbrev pub is_whole : OffsetsData → List ℕ → Bool
is_whole o [] = false
is_whole o (i ∷ is) = length (i ∷ is) + 1 == total_rows o.segments

-- the rows of the elements that lists at these rows want: of all lists all that there are
abbrev pub element_rows : OffsetsData → Store → List ℕ → List ℕ
element_rows o store is = if is_whole o is then rows_on 0 o.elements else span_elements o store is

-- these rows are the true ones of a mask, which begins at the first of them and ends with the last
pub record IsSpan (is : List ℕ) (first : ℕ) (mask : List Bool) : Type 0 where
  pub rows : is ≡ true_rows first mask
  pub offsets : offset_rows is ≡ rows_on first (length mask + 1)
  pub elements : (o : OffsetsData) (store : Store) → span_elements o store is ≡ elements_from o store first (length mask + 1)

-- an offset that is neither negative, nor below the one before it, nor past the elements
abbrev pub good_offset : ℕ → ℕ → ℤ → Option ℕ
good_offset most before (pos n) = if nat_le before n && nat_le n most then Some n else None
good_offset most before (negsuc n) = None

abbrev pub is_bad_offset : ℕ → ℕ → Option ℤ → Bool
is_bad_offset most before None = false
is_bad_offset most before (Some z) = is_none (good_offset most before z)

-- an offset as the one before the next
abbrev pub before_next : Option ℤ → ℕ
before_next None = 0
before_next (Some z) = row_at z
