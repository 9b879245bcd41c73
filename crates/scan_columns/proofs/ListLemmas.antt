-- Lists of values, in part.
use Rattle.std.specs.Prelude.{◌≡◌, ℕ, List, [], ◌∷◌, map, slice_range, refl}
use Rattle.std.proofs.Common.{◌++◌}
use Rattle.scan_values.proofs.Fitting.{map-range}

pub map_slice : {A B : Type 0} (f : A → B) (xs : List A) (i j : ℕ) → map f (slice_range xs i j) ≡ slice_range (map f xs) i j
map_slice f xs i j = map-range f i j xs

pub map_pushed : {A B : Type 0} (f : A → B) (xs : List A) (y : A) → map f (xs ++ (y ∷ [])) ≡ map f xs ++ (f y ∷ [])
map_pushed f [] y = refl
map_pushed f (x ∷ xs) y = λ i. f x ∷ map_pushed f xs y i
