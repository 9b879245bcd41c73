-- The last places at which columns are picked.
use Rattle.std.specs.Prelude.{ℕ, ◌<◌, ◌≤◌, List, length, get_or}

-- no place stands behind the last one of its column
abbrev pub AreLast : List ℕ → List ℕ → Type 0
AreLast ps last = (j : ℕ) → j < length ps → j ≤ get_or last (get_or ps j 0) 0
