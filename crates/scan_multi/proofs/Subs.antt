-- Lists that stand in others, in their order.
use Rattle.std.proofs.Common.{◌≡◌, ◌≤◌, List, [], ◌∷◌, ◌++◌, Bool, false, length, inl, inr, refl, sym, subst, ◌∙◌, arith}
use Rattle.std.specs.Prelude.{◌⊎◌}
use Rattle.std.specs.List.{AllByRecursion, IsDistinct}
use Rattle.scan_multi.proofs.Members.{In}

module _ {A : Type 0} where
  -- each of the first stands in the others, in their order
  abbrev pub IsSub : List A → List A → Type 0
  IsSub [] ys = Unit {0}
  IsSub (x ∷ xs) [] = ⊥
  IsSub (x ∷ xs) (y ∷ ys) = ((x ≡ y) × IsSub xs ys) ⊎ IsSub (x ∷ xs) ys

  sub_more : (y : A) (xs ys : List A) → IsSub xs ys → IsSub xs (y ∷ ys)
  sub_more y [] ys h = tt
  sub_more y (x ∷ xs) ys h = inr h

  -- behind the same elements
  pub sub_front : (zs xs ys : List A) → IsSub xs ys → IsSub (zs ++ xs) (zs ++ ys)
  sub_front [] xs ys h = h
  sub_front (z ∷ zs) xs ys h = inl (refl, sub_front zs xs ys h)

  -- behind others
  pub sub_skip : (zs xs ys : List A) → IsSub xs ys → IsSub xs (zs ++ ys)
  sub_skip [] xs ys h = h
  sub_skip (z ∷ zs) xs ys h = sub_more z xs (zs ++ ys) (sub_skip zs xs ys h)

  -- with others behind them
  pub sub_before : (xs ys zs : List A) → IsSub xs ys → IsSub xs (ys ++ zs)
  sub_before [] ys zs h = tt
  sub_before (x ∷ xs) [] zs h = absurd h
  sub_before (x ∷ xs) (y ∷ ys) zs (inl p) = inl (p.0, sub_before xs ys zs p.1)
  sub_before (x ∷ xs) (y ∷ ys) zs (inr h) = inr (sub_before (x ∷ xs) ys zs h)

  pub sub_in : (z : A) (xs ys : List A) → IsSub xs ys → In z xs → In z ys
  sub_in z [] ys h i = absurd i
  sub_in z (x ∷ xs) [] h i = absurd h
  sub_in z (x ∷ xs) (y ∷ ys) (inl p) (inl e) = inl (e ∙ p.0)
  sub_in z (x ∷ xs) (y ∷ ys) (inl p) (inr i) = inr (sub_in z xs ys p.1 i)
  sub_in z (x ∷ xs) (y ∷ ys) (inr h) i = inr (sub_in z (x ∷ xs) ys h i)

  pub sub_long : (xs ys : List A) → IsSub xs ys → length xs ≤ length ys
  sub_long [] ys h = omega arith
  sub_long (x ∷ xs) [] h = absurd h
  sub_long (x ∷ xs) (y ∷ ys) (inl p) = let r = sub_long xs ys p.1 in omega (arith, r)
  sub_long (x ∷ xs) (y ∷ ys) (inr h) = let r = sub_long (x ∷ xs) ys h in omega (arith, r)

  sub_all : (P : A → Type 0) (xs ys : List A) → IsSub xs ys → AllByRecursion P ys → AllByRecursion P xs
  sub_all P [] ys h a = tt
  sub_all P (x ∷ xs) [] h a = absurd h
  sub_all P (x ∷ xs) (y ∷ ys) (inl p) a = (subst P (sym p.0) a.0, sub_all P xs ys p.1 a.1)
  sub_all P (x ∷ xs) (y ∷ ys) (inr h) a = sub_all P (x ∷ xs) ys h a.1

  -- those that differ differ still
  pub sub_distinct : (e : A → A → Bool) (xs ys : List A) → IsSub xs ys → IsDistinct e ys → IsDistinct e xs
  unfolding IsDistinct
  sub_distinct e [] ys h d = tt
  sub_distinct e (x ∷ xs) [] h d = absurd h
  sub_distinct e (x ∷ xs) (y ∷ ys) (inl p) d = (sub_all (λ z. e x z ≡ false) xs ys p.1 (subst (λ w. AllByRecursion (λ z. e w z ≡ false) ys) (sym p.0) d.0), sub_distinct e xs ys p.1 d.1)
  sub_distinct e (x ∷ xs) (y ∷ ys) (inr h) d = sub_distinct e (x ∷ xs) ys h d.1
