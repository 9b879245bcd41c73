-- Lists from a place on.
use Rattle.std.proofs.Common.{◌≡◌, ℕ, zero, suc, ◌+◌, ◌<◌, List, [], ◌∷◌, ◌++◌, Bool, true, false, drop, length, map, get_or, None, Some, refl, sym, ap, ◌∙◌, add-one, drop-cons, arith}
use Rattle.std.specs.Prelude.{slice_get, option_map, ◌&&◌, ◌==◌}
use Rattle.std.specs.List.{list_all}
use Rattle.std.proofs.lemmas.Option.{get_or_from_slice_get, slice_get_within, slice_get-map}
use Rattle.std.proofs.lemmas.List.{drop-map}
use Rattle.std.proofs.lemmas.Slice.Eq.{bytes_eq-Decides}
use Rattle.std.specs.Str.{bytes_eq}
use Rattle.std.proofs.lemmas.List.Folds.{list_all-append}

pub some_at : {A : Type 0} (xs : List A) (i : ℕ) (x : A) → slice_get xs i ≡ Some x → drop i xs ≡ x ∷ drop (i + 1) xs
some_at xs i x h =
    drop-cons xs i x (slice_get_within xs i x h)
    ∙ (ap (λ z. z ∷ drop (suc i) xs) (get_or_from_slice_get xs i x x h) ∙ ap (λ k. x ∷ drop k xs) (sym (add-one i)))

pub none_at : {A : Type 0} (xs : List A) (i : ℕ) → slice_get xs i ≡ None → drop i xs ≡ []
none_at [] zero h = refl
none_at [] (suc i) h = refl
none_at (x ∷ xs) zero h = cc
none_at (x ∷ xs) (suc i) h = none_at xs i h

pub mapped_at : {A B : Type 0} (f : A → B) (xs : List A) (i : ℕ) (x : A) → slice_get xs i ≡ Some x → drop i (map f xs) ≡ f x ∷ drop (i + 1) (map f xs)
mapped_at f xs i x h = some_at (map f xs) i (f x) (slice_get-map f xs i ∙ ap (option_map f) h)

pub all_more : {A : Type 0} (p : A → Bool) (xs : List A) (x : A) → list_all p xs ≡ true → p x ≡ true → list_all p (xs ++ x ∷ []) ≡ true
all_more p [] x h e = ap (λ b. b && true) e
all_more p (y ∷ ys) x h e = let b = both (p y) (list_all p ys) h in ap (λ z. z && list_all p (ys ++ x ∷ [])) b.0 ∙ all_more p ys x b.1 e
  where
    both : (a b : Bool) → (a && b) ≡ true → (a ≡ true) × (b ≡ true)
    both true b h = (refl, h)
    both false b h = absurd cc

pub all_joined : {A : Type 0} (p : A → Bool) (xs ys : List A) → list_all p xs ≡ true → list_all p ys ≡ true → list_all p (xs ++ ys) ≡ true
all_joined p xs ys h k = list_all-append p xs ys ∙ (ap (λ z. z && list_all p ys) h ∙ k)

pub item_at : {A : Type 0} (xs : List A) (i : ℕ) (x : A) → i < length xs → x ≡ get_or xs i x → drop i xs ≡ x ∷ drop (i + 1) xs
item_at xs i x h e = drop-cons xs i x h ∙ (ap (λ z. z ∷ drop (suc i) xs) (sym e) ∙ ap (λ k. x ∷ drop k xs) (sym (add-one i)))

pub mapped_item : {A B : Type 0} (f : A → B) (xs : List A) (i : ℕ) (x : A) → i < length xs → x ≡ get_or xs i x → drop i (map f xs) ≡ f x ∷ drop (i + 1) (map f xs)
mapped_item f xs i x h e = drop-map f i xs ∙ (ap (map f) (item_at xs i x h e) ∙ ap (λ r. f x ∷ r) (sym (drop-map f (i + 1) xs)))

pub same_bytes : (a b : List ℕ) → bytes_eq a b ≡ true → a ≡ b
same_bytes a b h = (bytes_eq-Decides a b).0 h

-- what is not empty
pub nonempty : (n m : ℕ) (b : Bool) → b ≡ (n == 0) → b ≡ false → n ≡ m → 0 < m
nonempty zero m b h k e = absurd cc
nonempty (suc n) m b h k e = omega (arith, e)
