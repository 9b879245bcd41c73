-- Segments at their leaves, and what may be wrong with one.
use Rattle.std.specs.Prelude.{◌≡◌, ℕ, List, None, Contains}
use Rattle.scan_segments.specs.Source.{Store}
use Rattle.scan_spelling.specs.Places.{Place, decoded}

-- the bytes of a place are missing, or do not decode for its leaf
abbrev pub IsBad : Store → Place → Type 0
IsBad store p = decoded store p ≡ None

-- one of these places has this id, and is bad
pub record HasBad (store : Store) (places : List Place) (id : ℕ) : Type 0 where
  pub place : Place
  pub among : Contains places place
  pub is : place.id ≡ id
  pub bad : IsBad store place
