-- What reading on does to several splits.
use Rattle.std.proofs.Common.{◌≡◌, ℕ, ◌+◌, List, [], ◌∷◌, ◌++◌, Bool, true, false, ◌||◌, Option, Some, inl, inr, refl, sym, ap, ◌∙◌, subst, arith, append_assoc}
use Rattle.std.specs.Prelude.{◌⊎◌}
use Rattle.std.proofs.lemmas.List.Folds.{list_any-append}
use Rattle.std.proofs.lemmas.List.Sorted.{IsPermutation-refl, IsPermutation-trans, IsPermutation-append}
use Rattle.scan_values.specs.DataType.{DataType}
use Rattle.scan_values.specs.Marked.{Marked}
use Rattle.scan_values.specs.Selections.{is_among}
use Rattle.scan_segments.specs.Source.{Store}
use Rattle.scan_plans.specs.Came.{Came}
use Rattle.scan_plans.specs.Futures.{FutureData}
use Rattle.scan_streams.specs.Splits.{SplitData, AllHold, AllOf, SomeComesTo, Alike, Goes, parts_left, clean_left, damage_left, overflow_left, may_want, reach, one_part, split_items, clean_items, split_damage, split_overflow, split_may}

pub hold_join : (store : Store) (a b : List SplitData) → AllHold store a → AllHold store b → AllHold store (a ++ b)
hold_join store [] b h k = k
hold_join store (s ∷ a) b h k = (h.0, hold_join store a b h.1 k)

pub hold_split : (store : Store) (a b : List SplitData) → AllHold store (a ++ b) → AllHold store a × AllHold store b
hold_split store [] b h = (tt, h)
hold_split store (s ∷ a) b h = let rest = hold_split store a b h.1 in ((h.0, rest.0), rest.1)

pub of_join : (d : DataType) (a b : List SplitData) → AllOf d a → AllOf d b → AllOf d (a ++ b)
of_join d [] b h k = k
of_join d (s ∷ a) b h k = (h.0, of_join d a b h.1 k)

pub of_split : (d : DataType) (a b : List SplitData) → AllOf d (a ++ b) → AllOf d a × AllOf d b
of_split d [] b h = (tt, h)
of_split d (s ∷ a) b h = let rest = of_split d a b h.1 in ((h.0, rest.0), rest.1)

pub reach_append : (a b : List SplitData) → reach (a ++ b) ≡ reach a + reach b
reach_append [] b = omega arith
reach_append (s ∷ a) b = let r = reach_append a b in omega arith

pub parts_append : (store : Store) (a b : List SplitData) → parts_left store (a ++ b) ≡ parts_left store a ++ parts_left store b
parts_append store [] b = refl
parts_append store (s ∷ a) b = ap (λ xs. one_part (split_items store s) ++ xs) (parts_append store a b) ∙ sym (append_assoc (one_part (split_items store s)) (parts_left store a) (parts_left store b))

pub clean_append : (store : Store) (a b : List SplitData) → clean_left store (a ++ b) ≡ clean_left store a ++ clean_left store b
clean_append store [] b = refl
clean_append store (s ∷ a) b = ap (λ xs. one_part (clean_items store s) ++ xs) (clean_append store a b) ∙ sym (append_assoc (one_part (clean_items store s)) (clean_left store a) (clean_left store b))

pub overflow_append : (store : Store) (a b : List SplitData) → overflow_left store (a ++ b) ≡ (overflow_left store a || overflow_left store b)
overflow_append store a b = list_any-append (split_overflow store) a b

pub damage_append : (store : Store) (a b : List SplitData) → damage_left store (a ++ b) ≡ (damage_left store a || damage_left store b)
damage_append store a b = list_any-append (split_damage store) a b

pub may_append : (a b : List SplitData) (id : ℕ) → may_want (a ++ b) id ≡ (may_want a id || may_want b id)
may_append a b id = list_any-append (λ (s : SplitData). is_among (split_may s) id) a b

module _ (test : FutureData → Came → Bool) (store : Store) where
  pub some_left : (a b : List SplitData) → SomeComesTo test store a → SomeComesTo test store (a ++ b)
  some_left [] b h = absurd h
  some_left (s ∷ a) b (inl h) = inl h
  some_left (s ∷ a) b (inr h) = inr (some_left a b h)

  pub some_right : (a b : List SplitData) → SomeComesTo test store b → SomeComesTo test store (a ++ b)
  some_right [] b h = h
  some_right (s ∷ a) b h = inr (some_right a b h)

  pub some_split : (a b : List SplitData) → SomeComesTo test store (a ++ b) → SomeComesTo test store a ⊎ SomeComesTo test store b
  some_split [] b h = inr h
  some_split (s ∷ a) b (inl h) = inl (inl h)
  some_split (s ∷ a) b (inr h) = go (some_split a b h)
    where
      go : SomeComesTo test store a ⊎ SomeComesTo test store b → SomeComesTo test store (s ∷ a) ⊎ SomeComesTo test store b
      go (inl k) = inl (inr k)
      go (inr k) = inr k

or_cases : (a b : Bool) → (a || b) ≡ true → (a ≡ true) ⊎ (b ≡ true)
or_cases true b e = inl refl
or_cases false b e = inr e

or_left : (a b : Bool) → a ≡ true → (a || b) ≡ true
or_left true b e = refl
or_left false b e = absurd cc

or_right : (a b : Bool) → b ≡ true → (a || b) ≡ true
or_right true b e = refl
or_right false b e = e

pub alike_refl : (ordered : Bool) (xs : List (List Marked)) → Alike ordered xs xs
alike_refl true xs = refl
alike_refl false xs = IsPermutation-refl xs

pub alike_same : (ordered : Bool) (xs ys : List (List Marked)) → xs ≡ ys → Alike ordered xs ys
alike_same ordered xs ys e = subst (Alike ordered xs) e (alike_refl ordered xs)

pub alike_then : (ordered : Bool) (xs ys zs : List (List Marked)) → Alike ordered xs ys → Alike ordered ys zs → Alike ordered xs zs
alike_then true xs ys zs h k = h ∙ k
alike_then false xs ys zs h k = IsPermutation-trans xs ys zs h k

pub alike_append : (ordered : Bool) (xs ys us vs : List (List Marked)) → Alike ordered xs ys → Alike ordered us vs → Alike ordered (xs ++ us) (ys ++ vs)
alike_append true xs ys us vs h k = ap (λ zs. zs ++ us) h ∙ ap (λ zs. ys ++ zs) k
alike_append false xs ys us vs h k = IsPermutation-append xs ys us vs h k

module _ (holds : Option Store) where
  pub goes_refl : (ordered : Bool) (ss : List SplitData) → Goes ordered holds [] ss ss
  goes_refl ordered ss = record {
    stay = λ store e h. h;
    items = λ store e h. alike_refl ordered (parts_left store ss);
    clean = λ store e h. alike_refl ordered (clean_left store ss);
    overflow = λ store e h. refl;
    damage = λ store e h. refl;
    comes = λ test store e h c. c;
    may = λ id h. h;
    dtype = λ d h. h;
    reach = omega arith;
  }

  pub goes_any : (ordered : Bool) (a b : List SplitData) → Goes true holds [] a b → Goes ordered holds [] a b
  goes_any ordered a b g = record {
    stay = g.stay;
    items = λ store e h. alike_same ordered (parts_left store a) (parts_left store b) (g.items store e h);
    clean = λ store e h. alike_same ordered (clean_left store a) (clean_left store b) (g.clean store e h);
    overflow = g.overflow;
    damage = g.damage;
    comes = g.comes;
    may = g.may;
    dtype = g.dtype;
    reach = g.reach;
  }

  pub goes_then : (ordered : Bool) (given : List Marked) (a b c : List SplitData) → Goes ordered holds [] a b → Goes ordered holds given b c → Goes ordered holds given a c
  goes_then ordered given a b c g k = record {
    stay = λ store e h. k.stay store e (g.stay store e h);
    items = λ store e h. alike_then ordered (parts_left store a) (parts_left store b) (one_part given ++ parts_left store c) (g.items store e h) (k.items store e (g.stay store e h));
    clean = λ store e h. alike_then ordered (clean_left store a) (clean_left store b) (one_part given ++ clean_left store c) (g.clean store e h) (k.clean store e (g.stay store e h));
    overflow = λ store e h. k.overflow store e (g.stay store e h) ∙ g.overflow store e h;
    damage = λ store e h. k.damage store e (g.stay store e h) ∙ g.damage store e h;
    comes = λ test store e h t. g.comes test store e h (k.comes test store e (g.stay store e h) t);
    may = λ id h. g.may id (k.may id h);
    dtype = λ d h. k.dtype d (g.dtype d h);
    reach = let r = g.reach in let s = k.reach in omega arith;
  }

  pub goes_same : (ordered : Bool) (a b : List SplitData) → a ≡ b → Goes ordered holds [] a b
  goes_same ordered a b e = subst (Goes ordered holds [] a) e (goes_refl ordered a)

  pub goes_append : (ordered : Bool) (a b c d : List SplitData) → Goes ordered holds [] a b → Goes ordered holds [] c d → Goes ordered holds [] (a ++ c) (b ++ d)
  goes_append ordered a b c d g k = record {
    stay = λ store e h. let p = hold_split store a c h in hold_join store b d (g.stay store e p.0) (k.stay store e p.1);
    items = λ store e h.
        let p = hold_split store a c h in
        subst (λ (z : List (List Marked) × List (List Marked)). Alike ordered z.0 z.1) (λ i. (sym (parts_append store a c) i, sym (parts_append store b d) i))
        (alike_append ordered (parts_left store a) (parts_left store b) (parts_left store c) (parts_left store d) (g.items store e p.0) (k.items store e p.1));
    clean = λ store e h.
        let p = hold_split store a c h in
        subst (λ (z : List (List Marked) × List (List Marked)). Alike ordered z.0 z.1) (λ i. (sym (clean_append store a c) i, sym (clean_append store b d) i))
        (alike_append ordered (clean_left store a) (clean_left store b) (clean_left store c) (clean_left store d) (g.clean store e p.0) (k.clean store e p.1));
    overflow = λ store e h.
        let p = hold_split store a c h in
        overflow_append store b d ∙ ap (λ x. x || overflow_left store d) (g.overflow store e p.0) ∙ ap (λ x. overflow_left store a || x) (k.overflow store e p.1) ∙ sym (overflow_append store a c);
    damage = λ store e h.
        let p = hold_split store a c h in
        damage_append store b d ∙ ap (λ x. x || damage_left store d) (g.damage store e p.0) ∙ ap (λ x. damage_left store a || x) (k.damage store e p.1) ∙ sym (damage_append store a c);
    comes = λ test store e h t. let p = hold_split store a c h in both test store e p.0 p.1 (some_split test store b d t);
    may = λ id h. either id (or_cases (may_want b id) (may_want d id) (sym (may_append b d id) ∙ h));
    dtype = λ t h. let p = of_split t a c h in of_join t b d (g.dtype t p.0) (k.dtype t p.1);
    reach = let r = g.reach in let s = k.reach in let m = reach_append a c in let n = reach_append b d in omega arith;
  }
    where
      both : (test : FutureData → Came → Bool) (store : Store) → holds ≡ Some store → AllHold store a → AllHold store c → SomeComesTo test store b ⊎ SomeComesTo test store d → SomeComesTo test store (a ++ c)
      both test store e p q (inl t) = some_left test store a c (g.comes test store e p t)
      both test store e p q (inr t) = some_right test store a c (k.comes test store e q t)

      either : (id : ℕ) → (may_want b id ≡ true) ⊎ (may_want d id ≡ true) → may_want (a ++ c) id ≡ true
      either id (inl h) = may_append a c id ∙ or_left (may_want a id) (may_want c id) (g.may id h)
      either id (inr h) = may_append a c id ∙ or_right (may_want a id) (may_want c id) (k.may id h)
