-- Numbers of a list, each once.
use Rattle.std.proofs.Common.{◌≡◌, ◌++◌, ◌||◌, ℕ, zero, suc, Bool, true, false, List, [], ◌∷◌, Some, get_or, filter, refl, sym, ap, ◌∙◌, subst, arith, eqb, append-nil}
use Rattle.std.specs.Prelude.{◌==◌, All, Contains, cond, not}
use Rattle.std.specs.List.{slice_get}
use Rattle.std.proofs.lemmas.Bool.Decides.{nat_tests}
use Rattle.std.proofs.lemmas.List.{get_or_default}
use Rattle.std.proofs.lemmas.List.Elements.{All-cons, All-head, All-tail}
use Rattle.scan_values.specs.Selections.{is_among}
use Rattle.scan_multi.specs.Named.{distinct}
use Rattle.scan_lookup.specs.Grouped.{with_row}

true_false : (b : Bool) → b ≡ true → b ≡ false → ⊥
true_false true p q = cc
true_false false p q = cc

same_some : (x y : ℕ) → Some x ≡ Some y → x ≡ y
same_some x y e = cc

or_left : (a b : Bool) → a ≡ true → (a || b) ≡ true
or_left true b h = refl
or_left false b h = absurd cc

or_right : (a b : Bool) → b ≡ true → (a || b) ≡ true
or_right true b h = refl
or_right false b h = h

or_keeps : (a b c : Bool) → (b ≡ true → c ≡ true) → (a || b) ≡ true → (a || c) ≡ true
or_keeps true b c f h = refl
or_keeps false b c f h = f h

-- ---- what is among a list
pub among_at : (xs : List ℕ) (k x : ℕ) → slice_get xs k ≡ Some x → is_among xs x ≡ true
among_at [] k x e = absurd cc
among_at (y ∷ xs) zero x e =
    let is : y ≡ x = same_some y x e in
    let on : eqb y x ≡ true = grind (arith, nat_tests, is) in
    or_left (eqb y x) (is_among xs x) on
among_at (y ∷ xs) (suc k) x e = or_right (eqb y x) (is_among xs x) (among_at xs k x e)

pub at_among : (xs : List ℕ) (x : ℕ) → is_among xs x ≡ true → (k : ℕ) × (slice_get xs k ≡ Some x)
at_among [] x h = absurd cc
at_among (y ∷ xs) x h = go (eqb y x) refl h (at_among xs x)
  where
    go : (b : Bool) → eqb y x ≡ b → (b || is_among xs x) ≡ true → (is_among xs x ≡ true → (k : ℕ) × (slice_get xs k ≡ Some x)) → (k : ℕ) × (slice_get (y ∷ xs) k ≡ Some x)
    go true e m ih = let is : y ≡ x = grind (arith, nat_tests, e) in (zero, ap Some is)
    go false e m ih = let r = ih m in (suc r.0, r.1)

-- ---- what passes a test
filter_push : (f : ℕ → Bool) (xs : List ℕ) (n : ℕ) → filter f (xs ++ n ∷ []) ≡ filter f xs ++ cond (f n) (n ∷ []) []
filter_push f [] n = refl
filter_push f (x ∷ xs) n = go (f x) (filter_push f xs n)
  where
    go : (b : Bool) → filter f (xs ++ n ∷ []) ≡ filter f xs ++ cond (f n) (n ∷ []) []
        → cond b (x ∷ filter f (xs ++ n ∷ [])) (filter f (xs ++ n ∷ [])) ≡ cond b (x ∷ filter f xs) (filter f xs) ++ cond (f n) (n ∷ []) []
    go true ih = ap (λ (zs : List ℕ). x ∷ zs) ih
    go false ih = ih

among_filter : (f : ℕ → Bool) (xs : List ℕ) (n : ℕ) → f n ≡ true → is_among (filter f xs) n ≡ is_among xs n
among_filter f [] n on = refl
among_filter f (x ∷ xs) n on = go (f x) refl (eqb x n) refl (among_filter f xs n on)
  where
    go : (b : Bool) → f x ≡ b → (d : Bool) → eqb x n ≡ d → is_among (filter f xs) n ≡ is_among xs n → is_among (cond b (x ∷ filter f xs) (filter f xs)) n ≡ (d || is_among xs n)
    go true e d h ih = ap (λ (z : Bool). z || is_among (filter f xs) n) h ∙ ap (λ (z : Bool). d || z) ih
    go false e true h ih = absurd (let is : x ≡ n = grind (arith, nat_tests, h) in true_false (f n) on (ap f (sym is) ∙ e))
    go false e false h ih = ih

among_filtered : (f : ℕ → Bool) (xs : List ℕ) (n : ℕ) → is_among (filter f xs) n ≡ true → is_among xs n ≡ true
among_filtered f [] n h = h
among_filtered f (x ∷ xs) n h = go (f x) (among_filtered f xs n) h
  where
    go : (b : Bool) → (is_among (filter f xs) n ≡ true → is_among xs n ≡ true) → is_among (cond b (x ∷ filter f xs) (filter f xs)) n ≡ true → (eqb x n || is_among xs n) ≡ true
    go true ih m = or_keeps (eqb x n) (is_among (filter f xs) n) (is_among xs n) ih m
    go false ih m = or_right (eqb x n) (is_among xs n) (ih m)

all_filtered : (P : ℕ → Type 0) (f : ℕ → Bool) (xs : List ℕ) → All P xs → All P (filter f xs)
all_filtered P f [] h = h
all_filtered P f (x ∷ xs) h = go (f x) (all_filtered P f xs (All-tail P x xs h))
  where
    go : (b : Bool) → All P (filter f xs) → All P (cond b (x ∷ filter f xs) (filter f xs))
    go true ih = All-cons P x (filter f xs) (All-head P x xs h) ih
    go false ih = ih

-- ---- one number more
module _ (x n : ℕ) where
  abbrev other : ℕ → Bool
  other j = not (j == x)

  flipped : (b : Bool) → (n == x) ≡ b → (d : Bool) → eqb x n ≡ d → b ≡ d
  flipped true e true h = refl
  flipped false e false h = refl
  flipped true e false h = absurd (let is : n ≡ x = grind (arith, nat_tests, e) in let on : eqb x n ≡ true = grind (arith, nat_tests, is) in true_false (eqb x n) on h)
  flipped false e true h = absurd (let is : x ≡ n = grind (arith, nat_tests, h) in let on : (n == x) ≡ true = grind (arith, nat_tests, is) in true_false (n == x) on e)

  other_is : (d : Bool) → eqb x n ≡ d → other n ≡ not d
  other_is d h = ap not (flipped (n == x) refl d h)

  -- what is left of a list without x, where n is added to it
  left : (ys : List ℕ) (d : Bool) → eqb x n ≡ d → filter other (ys ++ n ∷ []) ≡ filter other ys ++ cond (not d) (n ∷ []) []
  left ys d h = filter_push other ys n ∙ ap (λ (b : Bool). filter other ys ++ cond b (n ∷ []) []) (other_is d h)

  abbrev Goes : List ℕ → Bool → Bool → Type 0
  Goes ys d b = x ∷ filter other (cond b ys (ys ++ n ∷ [])) ≡ cond (d || is_among (filter other ys) n) (x ∷ filter other ys) ((x ∷ filter other ys) ++ n ∷ [])

  stays : (ys : List ℕ) (b : Bool) → eqb x n ≡ false → is_among ys n ≡ b
      → cond (is_among (filter other ys) n) (x ∷ filter other ys) ((x ∷ filter other ys) ++ n ∷ []) ≡ cond b (x ∷ filter other ys) ((x ∷ filter other ys) ++ n ∷ [])
  stays ys b h e = ap (λ (z : Bool). cond z (x ∷ filter other ys) ((x ∷ filter other ys) ++ n ∷ [])) (among_filter other ys n (other_is false h) ∙ e)

  goes : (ys : List ℕ) (d : Bool) → eqb x n ≡ d → (b : Bool) → is_among ys n ≡ b → Goes ys d b
  goes ys true h true e = refl
  goes ys true h false e = ap (λ (zs : List ℕ). x ∷ zs) (left ys true h ∙ append-nil (filter other ys))
  goes ys false h true e = sym (stays ys true h e)
  goes ys false h false e = ap (λ (zs : List ℕ). x ∷ zs) (left ys false h) ∙ sym (stays ys false h e)

pub distinct_more : (xs : List ℕ) (n : ℕ) → distinct (xs ++ n ∷ []) ≡ with_row (distinct xs) n
distinct_more [] n = refl
distinct_more (x ∷ xs) n = ap (λ (zs : List ℕ). x ∷ filter (λ j. not (j == x)) zs) (distinct_more xs n) ∙ goes x n (distinct xs) (eqb x n) refl (is_among (distinct xs) n) refl

-- ---- what holds of each, and what is among them
pub among_distinct : (xs : List ℕ) (n : ℕ) → is_among (distinct xs) n ≡ true → is_among xs n ≡ true
among_distinct [] n h = h
among_distinct (x ∷ xs) n h =
    or_keeps (eqb x n) (is_among (filter (λ j. not (j == x)) (distinct xs)) n) (is_among xs n) (λ m. among_distinct xs n (among_filtered (λ j. not (j == x)) (distinct xs) n m)) h

pub all_distinct : (P : ℕ → Type 0) (xs : List ℕ) → All P xs → All P (distinct xs)
all_distinct P [] h = h
all_distinct P (x ∷ xs) h =
    All-cons P x (filter (λ j. not (j == x)) (distinct xs)) (All-head P x xs h) (all_filtered P (λ j. not (j == x)) (distinct xs) (all_distinct P xs (All-tail P x xs h)))

pub contains_distinct : (xs : List ℕ) (n : ℕ) → Contains (distinct xs) n → Contains xs n
contains_distinct xs n (i, lt, e) = subst (Contains xs) e (all_distinct (Contains xs) xs (λ j d l. (j, l, get_or_default xs j (get_or xs j d) d l)) i n lt)
