-- A hex text that is read up to a place.
use Rattle.std.specs.Prelude.{ℕ, List, ◌++◌, Result, Ok, Err}
use Rattle.hex.specs.declared.error.FromHexError.{FromHexError}

-- the bytes before those of a rest
abbrev pub prepend : List ℕ → Result (List ℕ) FromHexError → Result (List ℕ) FromHexError
prepend front (Ok rest) = Ok (front ++ rest)
prepend front (Err e) = Err e
