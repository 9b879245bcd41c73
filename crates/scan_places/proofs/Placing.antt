-- Places in a list.
use Rattle.std.proofs.Common.{◌≡◌, ◌≤◌, ◌<◌, ◌+◌, ◌++◌, ◌||◌, ℕ, zero, suc, Bool, true, false, List, [], ◌∷◌, Some, None, get_or, take, length, refl, sym, ap, ◌∙◌, arith, eqb}
use Rattle.std.specs.List.{slice_get}
use Rattle.std.proofs.lemmas.Option.{slice_get-get_or}
use Rattle.std.proofs.lemmas.Bool.Decides.{nat_tests}
use Rattle.scan_values.specs.Selections.{is_among}
use Rattle.scan_places.specs.Walks.{files_of}
use Rattle.scan_places.specs.declared.place.Place.{Place}

or_right : (a b : Bool) → b ≡ true → (a || b) ≡ true
or_right true b e = refl
or_right false b e = e

some_same : (p q : Place) → Some p ≡ Some q → p ≡ q
some_same p q e = cc

-- its file is among those that they name
pub file_among : (places : List Place) (i : ℕ) (p : Place) → slice_get places i ≡ Some p → is_among (files_of places) p.file ≡ true
file_among [] i p e = absurd cc
file_among (q ∷ places) zero p e =
    let same : q.file ≡ p.file = ap (λ (z : Place). z.file) (some_same q p e) in
    let on : eqb q.file p.file ≡ true = grind (arith, nat_tests) in rw on refl
file_among (q ∷ places) (suc i) p e = or_right (eqb q.file p.file) (is_among (files_of places) p.file) (file_among places i p e)

pub take_next : (places : List Place) (i : ℕ) (p : Place) → slice_get places i ≡ Some p → take (i + 1) places ≡ take i places ++ p ∷ []
take_next [] i p e = absurd cc
take_next (q ∷ places) zero p e = ap (λ (z : Place). z ∷ []) (some_same q p e)
take_next (q ∷ places) (suc i) p e = let s : suc i + 1 ≡ suc (i + 1) = omega arith in ap (λ (k : ℕ). take k (q ∷ places)) s ∙ ap (λ (ys : List Place). q ∷ ys) (take_next places i p e)

pub take_whole : (places : List Place) (i : ℕ) → length places ≤ i → take i places ≡ places
take_whole [] zero le = refl
take_whole [] (suc i) le = refl
take_whole (q ∷ places) zero le = absurd (omega (arith, le))
take_whole (q ∷ places) (suc i) le = ap (λ (ys : List Place). q ∷ ys) (take_whole places i (omega (arith, le)))

pub place_there : (places : List Place) (i : ℕ) (d : Place) → i < length places → slice_get places i ≡ Some (get_or places i d)
place_there places i d lt = slice_get-get_or places i d lt
