-- The segments of a leaf, by the rows at which they end.
use Rattle.std.specs.Prelude.{ℕ, ◌-◌, List, [], ◌∷◌, take}
use Rattle.scan_layout.specs.Check.{total_rows}

-- the segments of these ids that end at these rows, where the first begins at the row base: an id and a number of rows each
abbrev pub runs_of : ℕ → List ℕ → List ℕ → List (ℕ × ℕ)
runs_of base [] ends = []
runs_of base (id ∷ ids) [] = []
runs_of base (id ∷ ids) (end ∷ ends) = (id, end - base) ∷ runs_of end ids ends

-- the row at which the segment of this index begins, and the one before it ends
abbrev pub start_of : List (ℕ × ℕ) → ℕ → ℕ
start_of runs i = total_rows (take i runs)
