-- The ids of segments that are wanted.
use Rattle.std.specs.Prelude.{ℕ, List, [], ◌∷◌, ◌++◌, Bool, true, false, not, ◌&&◌, if◌then◌else◌}
use Rattle.scan_values.specs.Selections.{is_among}

-- each id stands once
abbrev pub no_repeats : List ℕ → Bool
no_repeats [] = true
no_repeats (id ∷ ids) = not (is_among ids id) && no_repeats ids

-- an id more, where it is not among them
abbrev pub with_id : ℕ → List ℕ → List ℕ
with_id id ids = if is_among ids id then ids else ids ++ id ∷ []

-- there is an id
abbrev pub is_any : List ℕ → Bool
is_any [] = false
is_any (id ∷ ids) = true
