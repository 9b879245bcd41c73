-- The picked rows of a file, split by split, and the rows that are read for them.
use Rattle.std.specs.Prelude.{ℕ, ◌+◌, ◌==◌, nat_lt, nat_le, min, max, filter, count_by, List, [], ◌∷◌, if◌then◌else◌}

abbrev pub least : ℕ → List ℕ → ℕ
least n [] = n
least n (m ∷ ms) = least (min n m) ms

abbrev pub greatest : ℕ → List ℕ → ℕ
greatest n [] = n
greatest n (m ∷ ms) = greatest (max n m) ms

-- which split a row is in: how many edges are at or below it
abbrev pub split_of : List ℕ → ℕ → ℕ
split_of edges row = count_by (λ e. nat_le e row) edges

-- neighbours of which f is one, together
abbrev pub join_first : (ℕ → ℕ) → ℕ → List (List ℕ) → List (List ℕ)
join_first f x [] = (x ∷ []) ∷ []
join_first f x ([] ∷ groups) = (x ∷ []) ∷ groups
join_first f x ((y ∷ ys) ∷ groups) = if f x == f y then (x ∷ y ∷ ys) ∷ groups else (x ∷ []) ∷ (y ∷ ys) ∷ groups

abbrev pub grouped : (ℕ → ℕ) → List ℕ → List (List ℕ)
grouped f [] = []
grouped f (x ∷ xs) = join_first f x (grouped f xs)

-- the picked rows, split by split
abbrev pub pick_groups : List ℕ → List ℕ → List (List ℕ)
pick_groups edges rows = grouped (split_of edges) rows

-- the greatest edge up to a row, and the least edge past it, within a range
abbrev pub split_from : ℕ → List ℕ → ℕ → ℕ
split_from lo edges row = greatest lo (filter (λ e. nat_le e row) edges)

abbrev pub split_to : ℕ → List ℕ → ℕ → ℕ
split_to hi edges row = least hi (filter (λ e. nat_lt row e) edges)

-- the rows of a group's split in a range
abbrev pub split_span : List ℕ → ℕ → ℕ → List ℕ → ℕ × ℕ
split_span edges lo hi [] = (lo, lo)
split_span edges lo hi (x ∷ xs) = (split_from lo edges x, split_to hi edges x)

-- the rows from a group's first to its last
abbrev pub pick_span : ℕ → List ℕ → ℕ × ℕ
pick_span lo [] = (lo, lo)
pick_span lo (x ∷ xs) = (x, greatest x xs + 1)
