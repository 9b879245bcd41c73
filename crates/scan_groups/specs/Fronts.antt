-- The places of the first numbers of some.
use Rattle.std.specs.Prelude.{◌≡◌, ◌∷◌, [], ◌<◌, ◌≤◌, ℕ, ℤ, List, All, length, map, take}
use Rattle.scan_values.specs.Val.{int_val}
use Rattle.scan_groups.specs.Places.{ArePlaces, PlacedAll}
use Rattle.scan_groups.specs.Rows.{Row}
use Rattle.scan_groups.specs.declared.places.Front.{Front}
use Rattle.scan_groups.specs.declared.places.Places.{Places}

-- there is room for the places of all numbers, and those of so many are below the end
pub record IsFront (numbers : List ℤ) (f : Front) : Type 0 where
  pub even : length f.places.items ≡ length numbers
  pub within : f.len ≤ length numbers
  pub below : All (λ p. p < f.end) (take f.len f.places.items)

-- the first numbers, as keys of rows, have these places
abbrev pub AreFirst : List ℤ → Places → Places → Front → Type 0
AreFirst numbers old new f = (keys : ℕ) (rows more : List Row) → map (λ (row : Row). row.key) more ≡ map (λ v. v ∷ []) (map int_val numbers)
    → ArePlaces keys rows old → PlacedAll keys rows (take f.len more) old new f.places.items
