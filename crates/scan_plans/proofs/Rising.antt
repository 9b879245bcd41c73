-- Numbers that climb, as offsets.
use Rattle.std.proofs.Common.{◌≡◌, ℕ, ◌≤◌, ℤ, pos, negsuc, Bool, true, false, ◌&&◌, List, [], ◌∷◌, map, refl, arith}
use Rattle.std.specs.Prelude.{unsigned_abs}
use Rattle.std.specs.Int.Signed.{le_z}
use Rattle.std.proofs.lemmas.Bool.{leb-true}
use Rattle.scan_plans.specs.OffsetReads.{Climbs}

abbrev pub rising : ℤ → List ℤ → Bool
rising b [] = true
rising b (z ∷ zs) = le_z b z && rising z zs

abbrev pub last_of : ℤ → List ℤ → ℤ
last_of b [] = b
last_of b (z ∷ zs) = last_of z zs

pub both : (a b : Bool) → (a && b) ≡ true → (a ≡ true) × (b ≡ true)
both true b e = (refl, e)
both false b e = absurd cc

below : (n : ℕ) (zs : List ℤ) → rising (pos n) zs ≡ true → n ≤ unsigned_abs (last_of (pos n) zs)
below n [] e = omega arith
below n (negsuc m ∷ zs) e = absurd cc
below n (pos m ∷ zs) e =
    let each = both (le_z (pos n) (pos m)) (rising (pos m) zs) e in
    omega (arith, leb-true n m each.0, below m zs each.1)

pub climb_from : (most n : ℕ) (zs : List ℤ) → rising (pos n) zs ≡ true → unsigned_abs (last_of (pos n) zs) ≤ most
    → (map pos (map unsigned_abs zs) ≡ zs) × Climbs most n (map unsigned_abs zs)
climb_from most n [] e l = (refl, tt)
climb_from most n (negsuc m ∷ zs) e l = absurd cc
climb_from most n (pos m ∷ zs) e l =
    let each = both (le_z (pos n) (pos m)) (rising (pos m) zs) e in
    let rest = climb_from most m zs each.1 l in
    ((λ i. pos m ∷ rest.0 i), (leb-true n m each.0, omega (arith, below m zs each.1, l), rest.1))
