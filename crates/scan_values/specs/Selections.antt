-- Which rows a selection holds.
use Rattle.std.specs.Prelude.{ℕ, ◌-◌, ◌==◌, min, Bool, true, not, List, map, filter, count_by, Option, Some, None}
use Rattle.std.specs.List.{list_any, range_with_len}
use Rattle.std.specs.declared.ops.Range.{Range}
use Rattle.scan_values.specs.declared.selection.Selection.{Selection}
use Rattle.scan_values.specs.declared.selection.Selection.TheVariants.{All, IncludeByIndex, ExcludeByIndex}

-- the numbers from lo up to and without hi
abbrev pub numbers : ℕ → ℕ → List ℕ
numbers lo hi = range_with_len lo (hi - lo)

abbrev pub is_among : List ℕ → ℕ → Bool
is_among xs n = list_any (λ x. x == n) xs

abbrev pub selects : Selection → ℕ → Bool
selects All n = true
selects (IncludeByIndex xs) n = is_among xs n
selects (ExcludeByIndex xs) n = not (is_among xs n)

-- for each row of a range, whether it is selected
abbrev pub row_mask : Selection → Range ℕ → List Bool
row_mask s r = map (selects s) (numbers r.start r.end)

-- how many rows of a range are selected
abbrev pub row_count : Selection → Range ℕ → ℕ
row_count s r = count_by (selects s) (numbers r.start r.end)

-- the rows below a number that lie in the range, where there is one, and that are selected
abbrev pub picked_rows : Option (Range ℕ) → Selection → ℕ → List ℕ
picked_rows None s rows = filter (selects s) (numbers 0 rows)
picked_rows (Some r) s rows = filter (selects s) (numbers r.start (min r.end rows))
