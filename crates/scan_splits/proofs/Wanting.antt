-- One id more among those that are wanted.
use Rattle.std.proofs.Common.{◌≡◌, ℕ, List, [], ◌∷◌, ◌++◌, Bool, true, false, not, ◌&&◌, ◌||◌, cond, nat_eq, arith, refl, sym, ap, ◌∙◌}
use Rattle.std.specs.List.{list_any}
use Rattle.std.specs.Ordering.{nat_cmp, is_eq}
use Rattle.std.proofs.lemmas.Bool.Decides.{nat_tests}
use Rattle.scan_values.specs.Selections.{is_among}
use Rattle.scan_splits.specs.Wanted.{no_repeats}

or_false : (b : Bool) → (b || false) ≡ b
or_false true = refl
or_false false = refl

or_assoc : (a b c : Bool) → (a || (b || c)) ≡ ((a || b) || c)
or_assoc true b c = refl
or_assoc false b c = refl

-- what stands among ids and one more
pub among-push : (ids : List ℕ) (id n : ℕ) → is_among (ids ++ id ∷ []) n ≡ (is_among ids n || nat_eq id n)
among-push [] id n = or_false (nat_eq id n)
among-push (x ∷ ids) id n = ap (λ b. nat_eq x n || b) (among-push ids id n) ∙ or_assoc (nat_eq x n) (is_among ids n) (nat_eq id n)

same_test : (x y : ℕ) → nat_eq x y ≡ nat_eq y x
same_test x y = grind (arith, nat_tests)

and_true : (a b : Bool) → a ≡ true → b ≡ true → (a && b) ≡ true
and_true true b p q = q
and_true false b p q = absurd cc

and_both : (a b : Bool) → (a && b) ≡ true → (a ≡ true) × (b ≡ true)
and_both true b h = (refl, h)
and_both false b h = absurd cc

not_true : (b : Bool) → not b ≡ true → b ≡ false
not_true true h = absurd cc
not_true false h = refl

neither : (a b : Bool) → (a || b) ≡ false → (a ≡ false) × (b ≡ false)
neither true b h = absurd cc
neither false b h = (refl, h)

-- an id that is not among them is no repeat
pub distinct-push : (ids : List ℕ) (id : ℕ) → no_repeats ids ≡ true → is_among ids id ≡ false → no_repeats (ids ++ id ∷ []) ≡ true
distinct-push [] id h n = refl
distinct-push (x ∷ ids) id h n =
    let parts = and_both (not (is_among ids x)) (no_repeats ids) h in
    let off = neither (nat_eq x id) (is_among ids id) n in
    let apart : is_among (ids ++ id ∷ []) x ≡ false = among-push ids id x ∙ ap (λ b. b || nat_eq id x) (not_true (is_among ids x) parts.0) ∙ same_test id x ∙ off.0 in
    and_true (not (is_among (ids ++ id ∷ []) x)) (no_repeats (ids ++ id ∷ [])) (ap not apart) (distinct-push ids id parts.1 off.1)

-- a set of keys and the list of the ids hold the same, and do so with one more
pub same-push : (keys new ids : List ℕ) (id : ℕ) → ((n : ℕ) → is_among keys n ≡ is_among ids n) → ((n : ℕ) → is_among new n ≡ (nat_eq id n || is_among keys n)) → (n : ℕ) → is_among new n ≡ is_among (ids ++ id ∷ []) n
same-push keys new ids id same more n =
    more n ∙ ap (λ b. nat_eq id n || b) (same n) ∙ or_turn (nat_eq id n) (is_among ids n) ∙ sym (among-push ids id n)
  where
    or_turn : (a b : Bool) → (a || b) ≡ (b || a)
    or_turn true true = refl
    or_turn true false = refl
    or_turn false true = refl
    or_turn false false = refl

eq_is : (x n : ℕ) → is_eq (nat_cmp n x) ≡ nat_eq x n
eq_is x n = grind (arith, nat_tests)

by_keys : (keys : List ℕ) (n : ℕ) → list_any (λ x. is_eq (nat_cmp n x)) keys ≡ is_among keys n
by_keys [] n = refl
by_keys (x ∷ keys) n = λ i. eq_is x n i || by_keys keys n i

split_test : (b c : Bool) → cond b true c ≡ (b || c)
split_test true c = refl
split_test false c = refl

-- the keys with one more, from what a set says of a query
pub among-inserted : (keys new : List ℕ) (id : ℕ) → ((q : ℕ) → list_any (λ x. is_eq (nat_cmp q x)) new ≡ cond (is_eq (nat_cmp id q)) true (list_any (λ x. is_eq (nat_cmp q x)) keys)) → (n : ℕ) → is_among new n ≡ (nat_eq id n || is_among keys n)
among-inserted keys new id updates n =
    sym (by_keys new n) ∙ updates n ∙ split_test (is_eq (nat_cmp id n)) (list_any (λ x. is_eq (nat_cmp n x)) keys) ∙ (λ i. (eq_is n id ∙ same_test n id) i || by_keys keys n i)
