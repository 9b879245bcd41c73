-- Numbers and lengths as values.
use Rattle.std.specs.Prelude.{ℕ, List, [], ◌∷◌, ℤ, pos}
use Rattle.scan_values.specs.Val.{Val, int_val}
use Rattle.scan_columns.specs.Nested.{sizes}

-- the number that a value is, where it is one
abbrev pub number_of : Val → ℤ
number_of (int_val z) = z
number_of _ = pos 0

abbrev pub length_val : ℕ → Val
length_val n = int_val (pos n)

-- how many elements lists have, by where the first begins and each ends
abbrev pub sizes_in : List ℕ → List ℕ
sizes_in [] = []
sizes_in (n ∷ ns) = sizes n ns

-- the first and the last number, where there is one
abbrev pub first_in : List ℕ → ℕ
first_in [] = 0
first_in (n ∷ ns) = n

abbrev pub last_from : ℕ → List ℕ → ℕ
last_from a [] = a
last_from a (n ∷ ns) = last_from n ns

abbrev pub last_in : List ℕ → ℕ
last_in [] = 0
last_in (n ∷ ns) = last_from n ns
