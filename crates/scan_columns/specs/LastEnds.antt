-- Where the last of some lists ends.
use Rattle.std.specs.Prelude.{ℕ, List, [], ◌∷◌}

-- the last of some numbers that stand behind this one
abbrev pub last_from : ℕ → List ℕ → ℕ
last_from a [] = a
last_from a (n ∷ ns) = last_from n ns
