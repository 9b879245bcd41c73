-- The live requests stay those of the table.
use Rattle.std.proofs.Common.{◌≡◌, ℕ, List, [], ◌∷◌, Bool, true, false, ◌||◌, cond, eqb, nat_lt, Option, Some, None, is_some, is_none, Result, Ok, Err, OnOk, OnErr, refl, sym, ap, ◌∙◌, subst, arith}
use Rattle.std.proofs.lemmas.Bool.Decides.{nat_tests}
use Rattle.std.specs.Ordering.{nat_cmp}
use Rattle.std.specs.BTreeSet.{insert_key}
use Rattle.scan_segments.specs.Source.{SourceState, without, with_live, without_live, Begins, Stays, has}
use Rattle.scan_sharing.specs.Sharing.{Held, Table, joined, kept, left, answered, with_holder, with_answer, without_holder, is_live, entry_at, Same, Agree}

neither : (a b : Bool) → (a || b) ≡ false → (a ≡ false) × (b ≡ false)
neither true b e = absurd (cc)
neither false b e = (refl, e)

or_under : (a b c : Bool) → (a || cond b true c) ≡ cond b true (a || c)
or_under true true c = refl
or_under true false c = refl
or_under false b c = refl

or_first : (a b c : Bool) → a ≡ b → (a || c) ≡ cond b true c
or_first true true c e = refl
or_first true false c e = absurd (cc)
or_first false true c e = absurd (cc)
or_first false false c e = refl

or_same : (a b c : Bool) → a ≡ b → (a || c) ≡ cond b true (a || c)
or_same true true c e = refl
or_same true false c e = refl
or_same false true c e = absurd (cc)
or_same false false c e = refl

insert_step : (a b : Bool) (n x : ℕ) (xs : List ℕ) (y : ℕ) → nat_lt y x ≡ a → eqb y x ≡ b → has n (insert_key nat_cmp xs y) ≡ cond (eqb n y) true (has n xs)
    → has n (insert_key nat_cmp (x ∷ xs) y) ≡ cond (eqb n y) true (has n (x ∷ xs))
insert_step true b n x xs y p q ih = rw p (or_first (eqb y n) (eqb n y) (has n (x ∷ xs)) (grind (arith, nat_tests)))
insert_step false true n x xs y p q ih = rw (p, q) (or_same (eqb x n) (eqb n y) (has n xs) (grind (arith, nat_tests)))
insert_step false false n x xs y p q ih = rw (p, q, ih) (or_under (eqb x n) (eqb n y) (has n xs))

-- what a set has once a number is put into it
pub has_insert : (n : ℕ) (xs : List ℕ) (y : ℕ) → has n (insert_key nat_cmp xs y) ≡ cond (eqb n y) true (has n xs)
has_insert n [] y = grind (arith, nat_tests)
has_insert n (x ∷ xs) y = insert_step (nat_lt y x) (eqb y x) n x xs y refl refl (has_insert n xs y)

apart_tests : (n i x : ℕ) (c : Bool) → eqb x n ≡ false → (eqb x i || cond (eqb i n) false c) ≡ cond (eqb i n) false (eqb x i || c)
apart_tests n i x c apart = go (eqb x i) (eqb i n) refl refl
  where
    go : (a b : Bool) → eqb x i ≡ a → eqb i n ≡ b → (eqb x i || cond (eqb i n) false c) ≡ cond (eqb i n) false (eqb x i || c)
    go true true p q = let bad : eqb x n ≡ true = grind (arith, nat_tests) in absurd (cc)
    go true false p q = rw (p, q) refl
    go false true p q = rw (p, q) refl
    go false false p q = rw (p, q) refl

same_tests : (n i x : ℕ) (c : Bool) → eqb x n ≡ true → cond (eqb i n) false c ≡ cond (eqb i n) false (eqb x i || c)
same_tests n i x c same = go (eqb i n) refl
  where
    go : (b : Bool) → eqb i n ≡ b → cond (eqb i n) false c ≡ cond (eqb i n) false (eqb x i || c)
    go true q = rw q refl
    go false q = let no : eqb x i ≡ false = grind (arith, nat_tests) in rw (q, no) refl

without_step : (b : Bool) (n i x : ℕ) (xs : List ℕ) → eqb x n ≡ b → has i (without n xs) ≡ cond (eqb i n) false (has i xs) → has i (without n (x ∷ xs)) ≡ cond (eqb i n) false (has i (x ∷ xs))
without_step true n i x xs eq ih = rw (eq, ih) (same_tests n i x (has i xs) eq)
without_step false n i x xs eq ih = rw (eq, ih) (apart_tests n i x (has i xs) eq)

pub has_without : (n i : ℕ) (xs : List ℕ) → has i (without n xs) ≡ cond (eqb i n) false (has i xs)
has_without n i [] = grind (arith, nat_tests)
has_without n i (x ∷ xs) = without_step (eqb x n) n i x xs refl (has_without n i xs)

-- a choice that changes nothing
if_at : (i id : ℕ) (f : ℕ → Bool) (x : Bool) → x ≡ f id → cond (eqb i id) x (f i) ≡ f i
if_at i id f x is = go (eqb i id) refl
  where
    go : (b : Bool) → eqb i id ≡ b → cond (eqb i id) x (f i) ≡ f i
    go true q = let same : i ≡ id = grind (arith, nat_tests) in rw q (is ∙ sym (ap f same))
    go false q = rw q refl

pub always_ok : {U N : Type 0} (r : Result U N) (P : Type 0) → P → OnOk r P
always_ok (Ok x) P p = p
always_ok (Err e) P p = tt

off_where_dead : (live : ℕ → Bool) (id i : ℕ) (b : Bool) → live id ≡ b → cond b (without_live id live) live i ≡ cond (eqb i id) false (live i)
off_where_dead live id i true is = refl
off_where_dead live id i false is = sym (if_at i id live false (sym is))

module _ {A : Type 0} where
  live_put : (b : Bool) (e f : Option (Held A)) → is_live (cond b e f) ≡ cond b (is_live e) (is_live f)
  live_put true e f = refl
  live_put false e f = refl

  live_joined : (n : ℕ) (e : Option (Held A)) → is_some e ≡ true → is_live (Some (joined n e)) ≡ is_live e
  live_joined n None h = absurd (cc)
  live_joined n (Some e) h = refl

  live_answered : (a : A) (e : Option (Held A)) → is_live (answered a e) ≡ false
  live_answered a None = refl
  live_answered a (Some e) = refl

  pub agrees_join : (live : ℕ → Bool) (t u : Table A) (n id : ℕ) → Agree live t → is_some (t id) ≡ true → Same u (with_holder n id t) → Agree live u
  agrees_join live t u n id h there same i =
      h i ∙ sym (ap is_live (same i) ∙ live_put (eqb i id) (Some (joined n (t id))) (t i) ∙ if_at i id (λ k. is_live (t k)) (is_live (Some (joined n (t id)))) (live_joined n (t id) there))

  pub agrees_ask : (live : ℕ → Bool) (t u : Table A) (n id : ℕ) → Agree live t → t id ≡ None → Same u (with_holder n id t) → Agree (with_live id live) u
  agrees_ask live t u n id h none same i =
      ap (cond (eqb i id) true) (h i)
      ∙ sym (ap is_live (same i) ∙ live_put (eqb i id) (Some (joined n (t id))) (t i) ∙ ap (λ e. cond (eqb i id) (is_live (Some (joined n e))) (is_live (t i))) none)

  pub agrees_answer : (live : ℕ → Bool) (t u : Table A) (id : ℕ) (a : A) → Agree live t → Same u (with_answer id a t) → Agree (without_live id live) u
  agrees_answer live t u id a h same i =
      ap (cond (eqb i id) false) (h i)
      ∙ sym (ap is_live (same i) ∙ live_put (eqb i id) (answered a (t id)) (t i) ∙ ap (λ b. cond (eqb i id) b (is_live (t i))) (live_answered a (t id)))

  module _ {U N : Type 0} where
    pub enters_there : (r : Result U N) (live : ℕ → Bool) (es es' : List (ℕ × Held A)) (n id : ℕ) → Agree live (entry_at es) → is_some (entry_at es id) ≡ true
        → OnOk r (Same (entry_at es') (with_holder n id (entry_at es))) → OnErr r (es' ≡ es) → Agree live (entry_at es')
    enters_there (Ok x) live es es' n id h there ok err = agrees_join live (entry_at es) (entry_at es') n id h there ok
    enters_there (Err e) live es es' n id h there ok err = subst (λ xs. Agree live (entry_at xs)) (sym err) h

    pub enters_new : (r : Result U N) (old new : SourceState) (es es' : List (ℕ × Held A)) (n id : ℕ) → Agree old.live (entry_at es) → entry_at es id ≡ None
        → OnOk r (Same (entry_at es') (with_holder n id (entry_at es))) → OnErr r (es' ≡ es) → OnOk r (Begins id old new) → OnErr r (Stays old new) → Agree new.live (entry_at es')
    enters_new (Ok x) old new es es' n id h none ok err begins stays = subst (λ l. Agree l (entry_at es')) (sym begins.live) (agrees_ask old.live (entry_at es) (entry_at es') n id h none ok)
    enters_new (Err e) old new es es' n id h none ok err begins stays = subst (λ (p : (ℕ → Bool) × List (ℕ × Held A)). Agree p.0 (entry_at p.1)) (λ i. (sym stays.live i, sym err i)) h

  pub placed_live : (live : ℕ → Bool) (t : Table A) (id : ℕ) (e : Held A) → Agree live t → t id ≡ Some e → live id ≡ is_none e.answer
  placed_live live t id e h there = h id ∙ ap is_live there

  pub agrees_ended : (live live' : ℕ → Bool) (t u : Table A) (id : ℕ) (a : A) → live' ≡ without_live id live → Agree live t → Same u (with_answer id a t) → Agree live' u
  agrees_ended live live' t u id a is h same = subst (λ l. Agree l u) (sym is) (agrees_answer live t u id a h same)

  live_kept : (ns : List ℕ) (a : Option A) → is_live (kept ns a) ≡ cond (is_some (kept ns a)) (is_none a) false
  live_kept [] a = refl
  live_kept (n ∷ ns) a = refl

  -- other holders are left
  pub agrees_stay : (live : ℕ → Bool) (t u : Table A) (n id : ℕ) (e : Held A) → Agree live t → t id ≡ Some e → is_some (kept (without n e.holders) e.answer) ≡ true → Same u (without_holder n id t) → Agree live u
  agrees_stay live t u n id e h there some same i =
      h i
      ∙ sym
      (ap is_live (same i) ∙ live_put (eqb i id) (left n (t id)) (t i)
      ∙ if_at i id (λ k. is_live (t k)) (is_live (left n (t id))) (ap (λ x. is_live (left n x)) there ∙ live_kept (without n e.holders) e.answer ∙ ap (λ b. cond b (is_none e.answer) false) some ∙ sym (ap is_live there)))

  -- the last holder ends the request, where it is live
  pub agrees_last : (live live' : ℕ → Bool) (t u : Table A) (n id : ℕ) (e : Held A) → Agree live t → t id ≡ Some e → kept (without n e.holders) e.answer ≡ None → Same u (without_holder n id t) → live' ≡ cond (is_none e.answer) (without_live id live) live → Agree live' u
  agrees_last live live' t u n id e h there none same is i =
      ap (λ (l : ℕ → Bool). l i) is ∙ off_where_dead live id i (is_none e.answer) (h id ∙ ap is_live there) ∙ ap (cond (eqb i id) false) (h i)
      ∙ sym (ap is_live (same i) ∙ live_put (eqb i id) (left n (t id)) (t i) ∙ ap (λ x. cond (eqb i id) (is_live x) (is_live (t i))) (ap (left n) there ∙ none))
