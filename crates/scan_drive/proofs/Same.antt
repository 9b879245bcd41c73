-- Lists of the same elements in another order, and groups that are the same, in their order or in any.
use Rattle.std.proofs.Common.{◌≡◌, ◌≢◌, ℕ, zero, suc, ◌+◌, ◌-◌, ◌<◌, Bool, true, false, not, ◌||◌, ◌&&◌, eqb, inl, inr, List, [], ◌∷◌, ◌++◌, filter, flat_map, length, take, get_or, set, swap, min, Option, Some, None, refl, sym, ap, ◌∙◌, subst, arith, append_assoc, IsPermutation}
use Rattle.std.specs.Prelude.{◌⊎◌, cond}
use Rattle.std.proofs.lemmas.Bool.{cases_eq}
use Rattle.std.proofs.lemmas.Bool.Decides.{nat_tests}
use Rattle.std.proofs.lemmas.List.Sorted.{IsPermutation-refl, IsPermutation-cons, IsPermutation-keeps, IsPermutation-trans, IsPermutation-append, IsPermutation-append_left, IsPermutation-append_right, IsPermutation-append_comm}
use Rattle.scan_values.specs.Selections.{is_among}
use Rattle.scan_splits.specs.Wanted.{no_repeats}
use Rattle.scan_drive.specs.Files.{Group, grouped, count, cut, limited}
use Rattle.scan_drive.specs.Grants.{AreSame, AreGiven, AreFronts, IsFront}

-- ---- what goes under a first element, over an exchange of two, and one after the other, goes along each permutation
module _ {X : Type 0} (R : List X → List X → Type 0) (same : (xs : List X) → R xs xs) (skip : (x : X) (xs ys : List X) → R xs ys → R (x ∷ xs) (x ∷ ys))
    (turn : (x y : X) (xs : List X) → R (x ∷ y ∷ xs) (y ∷ x ∷ xs)) (chain : (xs ys zs : List X) → R xs ys → R ys zs → R xs zs) where
  to_front : (l : List X) (j : ℕ) (x d : X) → j < length l → R (x ∷ l) (get_or l j d ∷ set l j x)
  to_front [] j x d h = absurd (omega arith)
  to_front (y ∷ l) zero x d h = turn x y l
  to_front (y ∷ l) (suc j) x d h =
      chain (x ∷ y ∷ l) (y ∷ x ∷ l) (get_or l j d ∷ y ∷ set l j x) (turn x y l)
      (chain (y ∷ x ∷ l) (y ∷ get_or l j d ∷ set l j x) (get_or l j d ∷ y ∷ set l j x) (skip y (x ∷ l) (get_or l j d ∷ set l j x) (to_front l j x d (omega arith))) (turn y (get_or l j d) (set l j x)))

  set_twice : (l : List X) (i j : ℕ) (d : X) → i < length l → j < length l → R l (set (set l i (get_or l j d)) j (get_or l i d))
  set_twice [] i j d p q = absurd (omega arith)
  set_twice (x ∷ l) zero zero d p q = same (x ∷ l)
  set_twice (x ∷ l) zero (suc j) d p q = to_front l j x d (omega arith)
  set_twice (x ∷ l) (suc i) zero d p q = to_front l i x d (omega arith)
  set_twice (x ∷ l) (suc i) (suc j) d p q = skip x l (set (set l i (get_or l j d)) j (get_or l i d)) (set_twice l i j d (omega arith) (omega arith))

  swapped : (l : List X) (i j : ℕ) → i < length l → j < length l → R l (swap l i j)
  swapped [] i j p q = absurd (omega arith)
  swapped (x ∷ l) i j p q = set_twice (x ∷ l) i j x p q

  pub along_permutation : (xs ys : List X) → IsPermutation xs ys → R xs ys
  along_permutation xs = IsPermutation-keeps xs (R xs) (same xs) (λ l i j p q h. chain xs l (swap l i j) h (swapped l i j p q))

-- ---- the same numbers in another order
eq_turned : (a b : ℕ) → eqb a b ≡ eqb b a
eq_turned a b = go (cases_eq a b)
  where
    go : (a ≡ b) ⊎ (a ≢ b) → eqb a b ≡ eqb b a
    go (inl e) = ap (λ x. eqb x b) e ∙ sym (ap (λ x. eqb b x) e)
    go (inr n) = grind (arith, nat_tests)

pub alike : (xs ys : List ℕ) → IsPermutation xs ys → ((q : ℕ) → is_among xs q ≡ is_among ys q) × (no_repeats xs ≡ no_repeats ys)
alike = along_permutation (λ xs ys. ((q : ℕ) → is_among xs q ≡ is_among ys q) × (no_repeats xs ≡ no_repeats ys)) (λ xs. (λ q. refl, refl)) under over_two (λ xs ys zs a b. (λ q. a.0 q ∙ b.0 q, a.1 ∙ b.1))
  where
    under : (x : ℕ) (xs ys : List ℕ) → ((q : ℕ) → is_among xs q ≡ is_among ys q) × (no_repeats xs ≡ no_repeats ys) → ((q : ℕ) → is_among (x ∷ xs) q ≡ is_among (x ∷ ys) q) × (no_repeats (x ∷ xs) ≡ no_repeats (x ∷ ys))
    under x xs ys h = (λ q. ap (λ b. eqb x q || b) (h.0 q), λ i. not (h.0 x i) && h.1 i)

    either : (a b c : Bool) → (a || (b || c)) ≡ (b || (a || c))
    either true true c = refl
    either true false c = refl
    either false b c = refl

    once : (e a b r : Bool) → (not (e || a) && (not b && r)) ≡ (not (e || b) && (not a && r))
    once true a b r = refl
    once false true true r = refl
    once false true false r = refl
    once false false true r = refl
    once false false false r = refl

    over_two : (x y : ℕ) (xs : List ℕ) → ((q : ℕ) → is_among (x ∷ y ∷ xs) q ≡ is_among (y ∷ x ∷ xs) q) × (no_repeats (x ∷ y ∷ xs) ≡ no_repeats (y ∷ x ∷ xs))
    over_two x y xs = (
      λ q. either (eqb x q) (eqb y q) (is_among xs q),
      ap (λ e. not (e || is_among xs x) && (not (is_among xs y) && no_repeats xs)) (eq_turned y x) ∙ once (eqb x y) (is_among xs x) (is_among xs y) (no_repeats xs),
    )

-- the lists that elements give, joined
pub joined_alike : {A B : Type 0} (f : A → List B) (xs ys : List A) → IsPermutation xs ys → IsPermutation (flat_map f xs) (flat_map f ys)
joined_alike f = along_permutation (λ xs ys. IsPermutation (flat_map f xs) (flat_map f ys)) (λ xs. IsPermutation-refl (flat_map f xs))
    (λ x xs ys h. IsPermutation-append_right (f x) (flat_map f xs) (flat_map f ys) h)
    (λ x y xs. rw (← append_assoc (f x), ← append_assoc (f y)) (IsPermutation-append_left (flat_map f xs) _ _ (IsPermutation-append_comm (f x) (f y))))
    (λ xs ys zs. IsPermutation-trans (flat_map f xs) (flat_map f ys) (flat_map f zs))

-- those that pass a test
pub passed_alike : {A : Type 0} (p : A → Bool) (xs ys : List A) → IsPermutation xs ys → IsPermutation (filter p xs) (filter p ys)
passed_alike {A} p = along_permutation (λ xs ys. IsPermutation (filter p xs) (filter p ys)) (λ xs. IsPermutation-refl (filter p xs)) under over (λ xs ys zs. IsPermutation-trans (filter p xs) (filter p ys) (filter p zs))
  where
    under : (x : A) (xs ys : List A) → IsPermutation (filter p xs) (filter p ys) → IsPermutation (filter p (x ∷ xs)) (filter p (x ∷ ys))
    under x xs ys h = go (p x)
      where
        go : (b : Bool) → IsPermutation (cond b (x ∷ filter p xs) (filter p xs)) (cond b (x ∷ filter p ys) (filter p ys))
        go true = IsPermutation-cons x (filter p xs) (filter p ys) h
        go false = h

    over : (x y : A) (xs : List A) → IsPermutation (filter p (x ∷ y ∷ xs)) (filter p (y ∷ x ∷ xs))
    over x y xs = go (p x) (p y)
      where
        two : IsPermutation (x ∷ y ∷ filter p xs) (y ∷ x ∷ filter p xs)
        two = IsPermutation-append_left (filter p xs) (x ∷ y ∷ []) (y ∷ x ∷ []) (IsPermutation-append_comm (x ∷ []) (y ∷ []))

        go : (a b : Bool) → IsPermutation (cond a (x ∷ cond b (y ∷ filter p xs) (filter p xs)) (cond b (y ∷ filter p xs) (filter p xs))) (cond b (y ∷ cond a (x ∷ filter p xs) (filter p xs)) (cond a (x ∷ filter p xs) (filter p xs)))
        go true true = two
        go true false = IsPermutation-refl (x ∷ filter p xs)
        go false true = IsPermutation-refl (y ∷ filter p xs)
        go false false = IsPermutation-refl (filter p xs)

-- ---- groups
module _ {I : Type 0} where
  pub same_refl : (b : Bool) (xs : List (Group I)) → AreSame b xs xs
  same_refl true xs = refl
  same_refl false xs = IsPermutation-refl xs

  -- along a path
  pub same_path : (b : Bool) (xs ys zs : List (Group I)) → xs ≡ ys → AreSame b ys zs → AreSame b xs zs
  same_path b xs ys zs e h = subst (λ ws. AreSame b ws zs) (sym e) h

  -- under an equal flag
  pub same_flag : (b c : Bool) (xs ys zs : List (Group I)) → c ≡ b → xs ≡ ys → AreSame b ys zs → AreSame c xs zs
  same_flag b c xs ys zs f e h = subst (λ x. AreSame x xs zs) (sym f) (same_path b xs ys zs e h)

  pub same_is : (b : Bool) (xs ys : List (Group I)) → xs ≡ ys → AreSame b xs ys
  same_is b xs ys e = same_path b xs ys ys e (same_refl b ys)

  pub same_trans : (b : Bool) (xs ys zs : List (Group I)) → AreSame b xs ys → AreSame b ys zs → AreSame b xs zs
  same_trans true xs ys zs h k = h ∙ k
  same_trans false xs ys zs h k = IsPermutation-trans xs ys zs h k

  -- what is in order is so in any
  pub same_any : (b : Bool) (xs ys : List (Group I)) → AreSame b xs ys → IsPermutation xs ys
  same_any true xs ys h = subst (IsPermutation xs) h (IsPermutation-refl xs)
  same_any false xs ys h = h

  pub same_append : (b : Bool) (xs ys us vs : List (Group I)) → AreSame b xs ys → AreSame b us vs → AreSame b (xs ++ us) (ys ++ vs)
  same_append true xs ys us vs h k = λ i. h i ++ k i
  same_append false xs ys us vs h k = IsPermutation-append xs ys us vs h k

  pub same_behind : (b : Bool) (xs ys us : List (Group I)) → AreSame b xs ys → AreSame b (xs ++ us) (ys ++ us)
  same_behind b xs ys us h = same_append b xs ys us us h (same_refl b us)

  -- ---- how many rows there are
  pub rows_append : (gs hs : List (Group I)) → count (gs ++ hs) ≡ count gs + count hs
  rows_append [] hs = omega arith
  rows_append (g ∷ gs) hs = let r = rows_append gs hs in omega arith

  pub rows_any : (gs hs : List (Group I)) → IsPermutation gs hs → count gs ≡ count hs
  rows_any = along_permutation (λ gs hs. count gs ≡ count hs) (λ gs. refl) (λ g gs hs h. ap (λ n. length g.1 + n) h) (λ g h gs. omega arith) (λ gs hs ks p q. p ∙ q)

  rows_grouped : (file : ℕ) (xs : List I) → count (grouped file xs) ≡ length xs
  rows_grouped file [] = refl
  rows_grouped file (x ∷ xs) = omega arith

  length_take : (n : ℕ) (xs : List I) → length (take n xs) ≡ min n (length xs)
  length_take zero xs = omega arith
  length_take (suc n) [] = omega arith
  length_take (suc n) (x ∷ xs) = let r = length_take n xs in omega arith

  pub rows_cut : (n : ℕ) (gs : List (Group I)) → count (cut n gs) ≡ min n (count gs)
  rows_cut n [] = omega arith
  rows_cut n (g ∷ gs) =
      let a = rows_append (grouped g.0 (take n g.1)) (cut (n - length g.1) gs) in
      let b = rows_grouped g.0 (take n g.1) in
      let c = length_take n g.1 in
      let r = rows_cut (n - length g.1) gs in
      omega arith

  -- as many rows are within a limit
  pub rows_limited : (limit : Option ℕ) (gs hs : List (Group I)) → count gs ≡ count hs → count (limited limit gs) ≡ count (limited limit hs)
  rows_limited None gs hs e = e
  rows_limited (Some n) gs hs e = rows_cut n gs ∙ ap (min n) e ∙ sym (rows_cut n hs)

  -- ---- what is given of the same groups
  pub given_same : (b : Bool) (limit : Option ℕ) (all all' gs : List (Group I)) → AreSame b all all' → AreGiven b limit all gs → AreGiven b limit all' gs
  given_same true limit all all' gs h k = k ∙ ap (limited limit) h
  given_same false limit all all' gs h k = record {
    whole = k.whole;
    others = k.others;
    among = IsPermutation-trans (k.whole ++ k.others) all all' k.among h;
    fronts = k.fronts;
    rows = k.rows ∙ rows_limited limit all all' (rows_any all all' h);
    free = λ none. IsPermutation-trans gs all all' (k.free none) h;
  }

  -- under the same flag and limit
  pub given_along : (b c : Bool) (l m : Option ℕ) (all gs : List (Group I)) → c ≡ b → m ≡ l → AreGiven c m all gs → AreGiven b l all gs
  given_along b c l m all gs o e h = subst (λ f. AreGiven f l all gs) o (subst (λ n. AreGiven c n all gs) e h)

  pub front_itself : (g : Group I) → IsFront g g
  front_itself g = record { file = refl; most = length g.1; rows = sym (go g.1) }
    where
      go : (xs : List I) → take (length xs) xs ≡ xs
      go [] = refl
      go (x ∷ xs) = ap (λ ys. x ∷ ys) (go xs)

  pub fronts_itself : (gs : List (Group I)) → AreFronts gs gs
  fronts_itself [] = tt
  fronts_itself (g ∷ gs) = (front_itself g, fronts_itself gs)

  pub fronts_append : (gs ws hs vs : List (Group I)) → AreFronts gs ws → AreFronts hs vs → AreFronts (gs ++ hs) (ws ++ vs)
  fronts_append [] [] hs vs h k = k
  fronts_append [] (w ∷ ws) hs vs h k = absurd h
  fronts_append (g ∷ gs) [] hs vs h k = absurd h
  fronts_append (g ∷ gs) (w ∷ ws) hs vs h k = (h.0, fronts_append gs ws hs vs h.1 k)
