-- The rows at which a range of a reader's rows is split.
use Rattle.std.specs.Prelude.{ℕ, ◌+◌, ◌-◌, ◌%◌, ◌==◌, ◌||◌, ◌&&◌, nat_le, Bool, false, List, [], ◌∷◌, filter}
use Rattle.std.specs.declared.ops.Range.{Range}
use Rattle.scan_values.specs.Selections.{numbers, is_among}
use Rattle.scan_values.specs.declared.field_path.FieldMask.{FieldMask}
use Rattle.scan_readers.specs.Readers.{ReaderState}
use Rattle.scan_core.specs.SplitRanges.{last_from}
use Rattle.scan_core.specs.declared.split_by.SplitBy.{SplitBy}
use Rattle.scan_core.specs.declared.split_by.SplitBy.TheVariants.{Layout, RowCount}

-- a row stands a multiple of so many rows after a start
abbrev pub is_nth : ℕ → ℕ → ℕ → Bool
is_nth n start row = (row - start) % n == 0

-- the start of a range, the rows strictly inside it that pass a test, and its end, in rising order
abbrev pub cut_rows : (ℕ → Bool) → Range ℕ → List ℕ
cut_rows test r = filter (λ row. row == r.start || (row == r.end || test row)) (numbers r.start (r.end + 1))

-- a range is split at the reader's edges, or every so many rows from its start
abbrev pub is_split : SplitBy → ReaderState → List FieldMask → Range ℕ → ℕ → Bool
is_split Layout s masks r = is_among (s.edges masks r.start r.end)
is_split (RowCount n) s masks r = is_nth n r.start

-- the boundaries of the splits of a range
abbrev pub boundaries : SplitBy → ReaderState → List FieldMask → Range ℕ → List ℕ
boundaries by s masks r = cut_rows (is_split by s masks r) r

-- the first and the last of numbers
abbrev pub has_ends : ℕ → ℕ → List ℕ → Bool
has_ends lo hi [] = false
has_ends lo hi (x ∷ xs) = x == lo && last_from x xs == hi

-- a row of a range, or its end
abbrev pub is_within : Range ℕ → ℕ → Bool
is_within r row = nat_le r.start row && nat_le row r.end
