-- Elements of lists by their numbers.
use Rattle.std.proofs.Common.{◌≡◌, ◌≢◌, ◌≤◌, ◌<◌, ◌+◌, ◌++◌, ◌∙◌, ℕ, zero, suc, List, [], ◌∷◌, Some, get_or, length, map, set, take, inl, inr, refl, sym, ap, subst, arith}
use Rattle.std.specs.Prelude.{◌⊎◌, All, Contains}
use Rattle.std.specs.List.{slice_get}
use Rattle.std.proofs.lemmas.Option.{slice_get-get_or}

pub length_pushed : {X : Type 0} (xs : List X) (y : X) → length (xs ++ y ∷ []) ≡ length xs + 1
length_pushed [] y = refl
length_pushed (x ∷ xs) y = let ih = length_pushed xs y in omega (arith, ih)

pub contains_left : (xs ys : List ℕ) (id : ℕ) → Contains xs id → Contains (xs ++ ys) id
contains_left [] ys id (i, lt, e) = absurd (omega (arith, lt))
contains_left (x ∷ xs) ys id (zero, lt, e) = (zero, omega arith, e)
contains_left (x ∷ xs) ys id (suc i, lt, e) = let c = contains_left xs ys id (i, omega (arith, lt), e) in (suc c.0, let l = c.1 in omega (arith, l), c.2)

some_is : {X : Type 0} (x y : X) → Some x ≡ Some y → x ≡ y
some_is x y e = cc

pub got_front : {X : Type 0} (xs ys : List X) (k : ℕ) (x : X) → slice_get xs k ≡ Some x → slice_get (xs ++ ys) k ≡ Some x
got_front [] ys k x e = absurd cc
got_front (z ∷ xs) ys zero x e = e
got_front (z ∷ xs) ys (suc k) x e = got_front xs ys k x e

pub got_last : {X : Type 0} (xs : List X) (y : X) → slice_get (xs ++ y ∷ []) (length xs) ≡ Some y
got_last [] y = refl
got_last (x ∷ xs) y = got_last xs y

pub got_pushed : {X : Type 0} (xs : List X) (y : X) (k : ℕ) (x : X) → slice_get (xs ++ y ∷ []) k ≡ Some x → (slice_get xs k ≡ Some x) ⊎ ((k ≡ length xs) × (x ≡ y))
got_pushed [] y zero x e = inr (refl, some_is x y (sym e))
got_pushed [] y (suc k) x e = absurd cc
got_pushed (z ∷ xs) y zero x e = inl e
got_pushed (z ∷ xs) y (suc k) x e = elim (got_pushed xs y k x e) [ inl p ↦ inl p | inr p ↦ inr (ap suc p.0, p.1) ]

pub got_set : {X : Type 0} (xs : List X) (n : ℕ) (y : X) → n < length xs → slice_get (set xs n y) n ≡ Some y
got_set [] n y lt = absurd (omega (arith, lt))
got_set (x ∷ xs) zero y lt = refl
got_set (x ∷ xs) (suc n) y lt = got_set xs n y (omega (arith, lt))

pub got_other : {X : Type 0} (xs : List X) (n k : ℕ) (y : X) → k ≢ n → slice_get (set xs n y) k ≡ slice_get xs k
got_other [] n k y ne = refl
got_other (x ∷ xs) zero zero y ne = absurd (ne refl)
got_other (x ∷ xs) zero (suc k) y ne = refl
got_other (x ∷ xs) (suc n) zero y ne = refl
got_other (x ∷ xs) (suc n) (suc k) y ne = got_other xs n k y (λ e. ne (ap suc e))

-- what stands in a list of what elements give
pub mapped_from : {X Y : Type 0} (f : X → Y) (xs : List X) (y : Y) → Contains (map f xs) y → (x : X) × Contains xs x × (f x ≡ y)
mapped_from f [] y (i, lt, e) = absurd (omega (arith, lt))
mapped_from f (x ∷ xs) y (zero, lt, e) = (x, (zero, omega arith, refl), e)
mapped_from f (x ∷ xs) y (suc i, lt, e) = let r = mapped_from f xs y (i, omega (arith, lt), e) in let c = r.1 in (r.0, (suc c.0, (let l = c.1 in omega (arith, l)), c.2), r.2)

-- ---- the first of a list
pub got_at : {X : Type 0} (xs : List X) (k : ℕ) (x : X) → k < length xs → x ≡ get_or xs k x → slice_get xs k ≡ Some x
got_at xs k x lt e = slice_get-get_or xs k x lt ∙ ap Some (sym e)

pub take_next : {X : Type 0} (xs : List X) (i : ℕ) (d : X) → i < length xs → take (i + 1) xs ≡ take i xs ++ get_or xs i d ∷ []
take_next [] i d lt = absurd (omega (arith, lt))
take_next (x ∷ xs) zero d lt = refl
take_next (x ∷ xs) (suc i) d lt = let e : suc i + 1 ≡ suc (i + 1) = omega arith in ap (λ (k : ℕ). take k (x ∷ xs)) e ∙ ap (λ zs. x ∷ zs) (take_next xs i d (omega (arith, lt)))

pub take_whole : {X : Type 0} (xs : List X) (i : ℕ) → length xs ≤ i → take i xs ≡ xs
take_whole [] zero le = refl
take_whole [] (suc i) le = refl
take_whole (x ∷ xs) zero le = absurd (omega (arith, le))
take_whole (x ∷ xs) (suc i) le = ap (λ zs. x ∷ zs) (take_whole xs i (omega (arith, le)))

pub map_pushed : {X Y : Type 0} (f : X → Y) (xs : List X) (y : X) → map f (xs ++ y ∷ []) ≡ map f xs ++ f y ∷ []
map_pushed f [] y = refl
map_pushed f (x ∷ xs) y = ap (λ zs. f x ∷ zs) (map_pushed f xs y)

pub all_at : {X : Type 0} (P : X → Type 0) (xs : List X) (i : ℕ) (x : X) → i < length xs → x ≡ get_or xs i x → All P xs → P x
all_at P xs i x lt e h = subst P (sym e) (h i x lt)
