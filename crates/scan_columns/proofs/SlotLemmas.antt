-- Two runs of bits, in one pass over both.
use Rattle.std.proofs.Common.{◌≡◌, ◌&&◌, Bool, List, [], ◌∷◌, map, refl}
use Rattle.std.specs.List.{zip}
use Rattle.scan_values.specs.Masks.{both_true}

pub both_zipped : (bs cs : List Bool) → map (λ p. p.0 && p.1) (zip bs cs) ≡ both_true bs cs
both_zipped [] cs = refl
both_zipped (b ∷ bs) [] = refl
both_zipped (b ∷ bs) (c ∷ cs) = λ i. (b && c) ∷ both_zipped bs cs i
