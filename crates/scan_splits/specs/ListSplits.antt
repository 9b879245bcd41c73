-- The splits of lists, by those of their elements.
use Rattle.std.specs.Prelude.{ℕ, ◌==◌, List, [], ◌∷◌, if◌then◌else◌, Option, Some, None, filter}
use Rattle.std.specs.List.{filter_map}
use Rattle.scan_layout.specs.Edges.{is_inside, map_element_split_to_outer_grid}

-- the splits of the elements as rows of the lists, on a grid of so many cells: of these rows those strictly inside a range
abbrev pub mapped_inside : ℕ → ℕ → ℕ → ℕ → ℕ → List ℕ → List ℕ
mapped_inside element_rows rows grid lo hi splits = filter (is_inside lo hi) (filter_map (λ e. map_element_split_to_outer_grid e element_rows rows grid) splits)

-- a row, where there is one that is not the last one again
abbrev pub unless_again : Option ℕ → Option ℕ → List ℕ
unless_again last None = []
unless_again None (Some row) = row ∷ []
unless_again (Some other) (Some row) = if other == row then [] else row ∷ []
