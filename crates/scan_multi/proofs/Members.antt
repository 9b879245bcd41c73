-- Membership in lists that are made of lists.
use Rattle.std.proofs.Common.{◌≡◌, zero, suc, List, [], ◌∷◌, ◌++◌, Bool, true, false, refl, sym, ap, ◌∙◌, arith, subst, inl, inr, filter, map}
use Rattle.std.specs.Prelude.{◌⊎◌, cond, Contains}
use Rattle.std.specs.List.{flat_map}

abbrev pub In : {A : Type 0} → A → List A → Type 0
In x [] = ⊥
In x (y ∷ ys) = (x ≡ y) ⊎ In x ys

pub In-from : {A : Type 0} (x : A) (xs : List A) → Contains xs x → In x xs
In-from x [] (i, lt, e) = absurd (omega arith)
In-from x (y ∷ ys) (zero, lt, e) = inl (sym e)
In-from x (y ∷ ys) (suc i, lt, e) = inr (In-from x ys (i, omega arith, e))

pub In-to : {A : Type 0} (x : A) (xs : List A) → In x xs → Contains xs x
In-to x [] h = absurd h
In-to x (y ∷ ys) (inl e) = (0, omega arith, sym e)
In-to x (y ∷ ys) (inr h) = let c = In-to x ys h in (suc c.0, let lt = c.1 in omega arith, c.2)

pub In-left : {A : Type 0} (x : A) (xs ys : List A) → In x xs → In x (xs ++ ys)
In-left x [] ys h = absurd h
In-left x (z ∷ zs) ys (inl e) = inl e
In-left x (z ∷ zs) ys (inr h) = inr (In-left x zs ys h)

pub In-right : {A : Type 0} (x : A) (xs ys : List A) → In x ys → In x (xs ++ ys)
In-right x [] ys h = h
In-right x (z ∷ zs) ys h = inr (In-right x zs ys h)

pub In-append : {A : Type 0} (x : A) (xs ys : List A) → In x (xs ++ ys) → In x xs ⊎ In x ys
In-append x [] ys h = inr h
In-append x (z ∷ zs) ys (inl e) = inl (inl e)
In-append x (z ∷ zs) ys (inr h) = elim (In-append x zs ys h) [ inl p ↦ inl (inr p) | inr q ↦ inr q ]

pub In-map : {A B : Type 0} (f : A → B) (x : A) (xs : List A) → In x xs → In (f x) (map f xs)
In-map f x [] h = absurd h
In-map f x (y ∷ ys) (inl e) = inl (ap f e)
In-map f x (y ∷ ys) (inr h) = inr (In-map f x ys h)

pub In-flat_map : {A B : Type 0} (f : A → List B) (x : A) (y : B) (xs : List A) → In x xs → In y (f x) → In y (flat_map f xs)
In-flat_map f x y [] h k = absurd h
In-flat_map f x y (z ∷ zs) (inl e) k = In-left y (f z) (flat_map f zs) (subst (λ w. In y (f w)) e k)
In-flat_map f x y (z ∷ zs) (inr h) k = In-right y (f z) (flat_map f zs) (In-flat_map f x y zs h k)

pub In-filter : {A : Type 0} (p : A → Bool) (x : A) (xs : List A) → In x xs → p x ≡ true → In x (filter p xs)
In-filter p x [] h k = absurd h
In-filter p x (y ∷ ys) h k = go (p y) refl h (λ q. In-filter p x ys q k) where
  go : (b : Bool) → p y ≡ b → (x ≡ y) ⊎ In x ys → (In x ys → In x (filter p ys)) → In x (cond b (y ∷ filter p ys) (filter p ys))
  go true t (inl e) ih = inl e
  go true t (inr q) ih = inr (ih q)
  go false t (inl e) ih = let P : Type 0 = ⊥ in absurd (let w : p y ≡ true = ap p (sym e) ∙ k in cc)
  go false t (inr q) ih = ih q

pub In-filter_back : {A : Type 0} (p : A → Bool) (x : A) (xs : List A) → In x (filter p xs) → In x xs × (p x ≡ true)
In-filter_back p x [] h = absurd h
In-filter_back p x (y ∷ ys) h = go (p y) refl h (In-filter_back p x ys) where
  go : (b : Bool) → p y ≡ b → In x (cond b (y ∷ filter p ys) (filter p ys)) → (In x (filter p ys) → In x ys × (p x ≡ true)) → In x (y ∷ ys) × (p x ≡ true)
  go true t (inl e) ih = (inl e, ap p e ∙ t)
  go true t (inr q) ih = let r = ih q in (inr r.0, r.1)
  go false t q ih = let r = ih q in (inr r.0, r.1)
