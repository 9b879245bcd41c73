-- What is given of the rows that are asked for.
use Rattle.std.specs.Prelude.{◌≡◌, ℕ, Bool, true, false, List, Option, IsPermutation}
use Rattle.scan_values.specs.Marked.{Marked}
use Rattle.scan_core.specs.Streaming.{first_of}

-- the first of rows, as many as a limit: in their order, or in some order
abbrev pub GivesFirst : Bool → Option ℕ → List Marked → List Marked → Type 0
GivesFirst true limit asked given = given ≡ first_of limit asked
GivesFirst false limit asked given = (others : List Marked) × IsPermutation asked others × (given ≡ first_of limit others)
