-- Dtypes that are found to be the same.
use Rattle.std.proofs.Common.{◌≡◌, Bool, true, false, not, refl, sym}
use Rattle.std.proofs.lemmas.Bool.{both_ways}
use Rattle.scan_values.specs.DataType.{DataType}
use Rattle.scan_values.specs.Same.{same_type, same_type-Decides}

pub of_type : (a b : DataType) → false ≡ not (same_type a b) → a ≡ b
of_type a b h = (same_type-Decides a b).0 (go (same_type a b) h)
  where
    go : (t : Bool) → false ≡ not t → t ≡ true
    go true h = refl
    go false h = absurd (both_ways true (sym h) refl)
