-- Lists of row numbers.
use Rattle.std.specs.Prelude.{◌≡◌, ℕ, ◌+◌, ◌↔◌, nat_le, List, [], ◌∷◌, ◌++◌, map, Bool, true, ◌&&◌, Result, Ok, Err}
use Rattle.std.specs.List.{Contains}

-- no number is below the one before
abbrev pub never_falls : List ℕ → Bool
never_falls [] = true
never_falls (x ∷ []) = true
never_falls (x ∷ y ∷ ys) = nat_le x y && never_falls (y ∷ ys)

-- both hold the same numbers, in whatever order and however often
abbrev pub SameNumbers : List ℕ → List ℕ → Type 0
SameNumbers xs ys = (n : ℕ) → Contains xs n ↔ Contains ys n

-- each number plus an offset
abbrev pub shifted : ℕ → List ℕ → List ℕ
shifted offset rows = map (λ row. offset + row) rows

-- numbers were added at the end of a list: these and no others
pub record Adds (rows old new : List ℕ) : Type 0 where
  pub added : List ℕ
  pub grows : new ≡ old ++ added
  pub same : SameNumbers added rows

-- numbers were added at the end of a list: some of these and no others
pub record AddsSome (rows old new : List ℕ) : Type 0 where
  pub added : List ℕ
  pub grows : new ≡ old ++ added
  pub among : (n : ℕ) → Contains added n → Contains rows n

-- what a call that pushes these adds: all of them, or some where it is refused
abbrev pub Pushes : {E : Type 0} → Result (Unit {0}) E → List ℕ → List ℕ → List ℕ → Type 0
Pushes (Ok u) rows old new = Adds rows old new
Pushes (Err e) rows old new = AddsSome rows old new
