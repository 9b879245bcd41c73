-- Lists from which one is taken, or in which one is another.
use Rattle.std.proofs.Common.{◌≡◌, ◌≤◌, ◌<◌, ℕ, zero, suc, Bool, true, false, ◌||◌, List, [], ◌∷◌, ◌++◌, get_or, length, map, ap, Option, Some, None, ◌⊎◌, inl, inr, refl, sym, subst, arith}
use Rattle.std.specs.List.{list_any, remove, slice_get, slice_set}

or_true : (a b : Bool) → (a || b) ≡ true → (a ≡ true) ⊎ (b ≡ true)
or_true true b h = inl refl
or_true false b h = inr h

or_left : (a b : Bool) → a ≡ true → (a || b) ≡ true
or_left true b h = refl
or_left false b h = absurd cc

or_right : (a b : Bool) → b ≡ true → (a || b) ≡ true
or_right true b h = refl
or_right false b h = h

module _ {A : Type 0} (p : A → Bool) where
  pub any_remove : (xs : List A) (i : ℕ) → list_any p (remove xs i) ≡ true → list_any p xs ≡ true
  any_remove [] zero h = h
  any_remove [] (suc i) h = h
  any_remove (x ∷ xs) zero h = or_right (p x) (list_any p xs) h
  any_remove (x ∷ xs) (suc i) h = elim (or_true (p x) (list_any p (remove xs i)) h) [ inl a ↦ or_left (p x) (list_any p xs) a | inr b ↦ or_right (p x) (list_any p xs) (any_remove xs i b) ]

  pub any_set : (xs : List A) (i : ℕ) (y : A) → list_any p (slice_set xs i y) ≡ true → (p y ≡ true) ⊎ (list_any p xs ≡ true)
  any_set [] i y h = inr h
  any_set (x ∷ xs) zero y h = elim (or_true (p y) (list_any p xs) h) [ inl a ↦ inl a | inr b ↦ inr (or_right (p x) (list_any p xs) b) ]
  any_set (x ∷ xs) (suc i) y h = elim (or_true (p x) (list_any p (slice_set xs i y)) h) [ inl a ↦ inr (or_left (p x) (list_any p xs) a) | inr b ↦ later (any_set xs i y b) ]
    where
      later : (p y ≡ true) ⊎ (list_any p xs ≡ true) → (p y ≡ true) ⊎ ((p x || list_any p xs) ≡ true)
      later (inl c) = inl c
      later (inr c) = inr (or_right (p x) (list_any p xs) c)

  pub any_append : (xs : List A) (y : A) → list_any p (xs ++ y ∷ []) ≡ true → (p y ≡ true) ⊎ (list_any p xs ≡ true)
  any_append [] y h = or_true (p y) false h
  any_append (x ∷ xs) y h = elim (or_true (p x) (list_any p (xs ++ y ∷ [])) h) [ inl a ↦ inr (or_left (p x) (list_any p xs) a) | inr b ↦ later (any_append xs y b) ]
    where
      later : (p y ≡ true) ⊎ (list_any p xs ≡ true) → (p y ≡ true) ⊎ ((p x || list_any p xs) ≡ true)
      later (inl c) = inl c
      later (inr c) = inr (or_right (p x) (list_any p xs) c)

  pub any_at : (xs : List A) (i : ℕ) (y : A) → slice_get xs i ≡ Some y → p y ≡ true → list_any p xs ≡ true
  any_at [] i y h e = absurd cc
  any_at (x ∷ xs) zero y h e = let is : x ≡ y = cc in or_left (p x) (list_any p xs) (subst (λ z. p z ≡ true) (sym is) e)
  any_at (x ∷ xs) (suc i) y h e = or_right (p x) (list_any p xs) (any_at xs i y h e)

-- ---- one in the place of another
pub got : {A : Type 0} (xs : List A) (k : ℕ) (c d : A) → slice_get xs k ≡ Some c → slice_get (slice_set xs k d) k ≡ Some d
got [] k c d h = absurd cc
got (x ∷ xs) zero c d h = refl
got (x ∷ xs) (suc k) c d h = got xs k c d h

pub each_set : {A : Type 0} (P : Option A → Option A → Type 0) (same : (o : Option A) → P o o) (xs : List A) (k : ℕ) (c d : A)
    → slice_get xs k ≡ Some c → P (Some c) (Some d) → (j : ℕ) → P (slice_get xs j) (slice_get (slice_set xs k d) j)
each_set P same [] k c d h e j = absurd cc
each_set P same (x ∷ xs) zero c d h e zero = let is : x ≡ c = cc in subst (λ z. P (Some z) (Some d)) (sym is) e
each_set P same (x ∷ xs) zero c d h e (suc j) = same (slice_get xs j)
each_set P same (x ∷ xs) (suc k) c d h e zero = same (Some x)
each_set P same (x ∷ xs) (suc k) c d h e (suc j) = each_set P same xs k c d h e j

pub map_get : {A B : Type 0} (f : A → B) (xs : List A) (k : ℕ) (x : A) → x ≡ get_or xs k x → k < length xs → slice_get (map f xs) k ≡ Some (f x)
map_get f [] k x h l = absurd (omega (arith, l))
map_get f (y ∷ ys) zero x h l = ap (λ z. Some (f z)) (sym h)
map_get f (y ∷ ys) (suc k) x h l = map_get f ys k x h (omega (arith, l))

pub map_remove : {A B : Type 0} (f : A → B) (xs : List A) (i : ℕ) → map f (remove xs i) ≡ remove (map f xs) i
map_remove f [] zero = refl
map_remove f [] (suc i) = refl
map_remove f (x ∷ xs) zero = refl
map_remove f (x ∷ xs) (suc i) = ap (λ ys. f x ∷ ys) (map_remove f xs i)

pub none_past : {A : Type 0} (xs : List A) (k : ℕ) → None ≡ slice_get xs k → length xs ≤ k
none_past [] k h = omega arith
none_past (x ∷ xs) zero h = absurd cc
none_past (x ∷ xs) (suc k) h = let l = none_past xs k h in omega (arith, l)

pub some_within : {A : Type 0} (xs : List A) (k : ℕ) (x : A) → slice_get xs k ≡ Some x → k < length xs
some_within [] k x h = absurd cc
some_within (y ∷ ys) zero x h = omega arith
some_within (y ∷ ys) (suc k) x h = let l = some_within ys k x h in omega (arith, l)
