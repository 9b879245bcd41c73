-- Laws of groups of rows.
use Rattle.std.specs.Prelude.{◌≡◌, ◌+◌, ◌++◌, ℕ, List, take}
use Rattle.scan_drive.specs.Files.{Item}
use Rattle.scan_drive.specs.Files.{Group, cut, count, grouped, flattened}

-- the rows of groups that are cut at a limit are the first rows
abbrev pub CutsGiveTheFirstRows : Type 0
CutsGiveTheFirstRows = (n : ℕ) (gs : List (Group Item)) → flattened (cut n gs) ≡ take n (flattened gs)

-- a limit behind a group leaves it whole
abbrev pub CutsKeepGroups : Type 0
CutsKeepGroups = (n file : ℕ) (rows : List Item) (gs : List (Group Item))
    → cut (count (grouped file rows) + n) (grouped file rows ++ gs) ≡ grouped file rows ++ cut n gs
