-- The ids whose requests have not ended, and sums over them.
use Rattle.std.proofs.Common.{◌≡◌, ℕ, ◌+◌, ◌≤◌, List, [], ◌∷◌, ◌++◌, map, Bool, true, false, not, ◌&&◌, ◌||◌, cond, eqb, refl, sym, ap, ◌∙◌, arith}
use Rattle.std.specs.Prelude.{Option, is_some, option_and_then}
use Rattle.std.proofs.lemmas.Bool.Decides.{nat_tests}
use Rattle.scan_values.specs.Selections.{is_among}
use Rattle.scan_segments.specs.Events.{times}
use Rattle.scan_segments.specs.Keys.{same_key}
use Rattle.scan_segments.specs.Source.{Store}
use Rattle.scan_segments.specs.declared.segment.SegmentKey.{SegmentKey}
use Rattle.scan_drive.specs.Ledger.{open_among, count_held}
use Rattle.scan_drive.specs.Traffic.{key_of}
use Rattle.scan_drive.proofs.Desking.{among_snoc}
use Rattle.scan_drive.proofs.KeyTimes.{times_cons}

-- a sum over ids
abbrev pub weigh : (ℕ → ℕ) → List ℕ → ℕ
weigh w [] = 0
weigh w (id ∷ ids) = w id + weigh w ids

-- one where so
abbrev pub one_if : Bool → ℕ
one_if b = cond b 1 0

pub weigh_append : (w : ℕ → ℕ) (xs ys : List ℕ) → weigh w (xs ++ ys) ≡ weigh w xs + weigh w ys
weigh_append w [] ys = omega arith
weigh_append w (x ∷ xs) ys = let ih = weigh_append w xs ys in omega arith

pub times_weigh : (k : SegmentKey) (name xs : List ℕ) → times k (map (key_of name) xs) ≡ weigh (λ id. one_if (same_key k (key_of name id))) xs
times_weigh k name [] = refl
times_weigh k name (x ∷ xs) = times_cons k (key_of name x) (map (key_of name) xs) ∙ ap (λ n. one_if (same_key k (key_of name x)) + n) (times_weigh k name xs)

-- whether a source holds an id
abbrev pub holds_id : Option Store → ℕ → Bool
holds_id holds id = is_some (option_and_then (λ store. store id) holds)

pub held_weigh : (holds : Option Store) (xs : List ℕ) → count_held holds xs ≡ weigh (λ id. one_if (holds_id holds id)) xs
held_weigh holds [] = refl
held_weigh holds (x ∷ xs) = go (holds_id holds x) refl (held_weigh holds xs) where
  go : (b : Bool) → holds_id holds x ≡ b → count_held holds xs ≡ weigh (λ id. one_if (holds_id holds id)) xs → count_held holds (x ∷ xs) ≡ weigh (λ id. one_if (holds_id holds id)) (x ∷ xs)
  go true is ih = rw is (omega (arith, ih))
  go false is ih = rw is (omega (arith, ih))

-- ---- the ids whose requests have not ended
pub open_same : (f g : ℕ → Bool) (ids : List ℕ) → ((id : ℕ) → g id ≡ f id) → open_among g ids ≡ open_among f ids
open_same f g [] h = refl
open_same f g (x ∷ xs) h = let e = open_same f g xs h in let b = h x in λ i. cond (b i && not (is_among xs x)) (x ∷ e i) (e i)

pub open_nothing : (f : ℕ → Bool) (ids : List ℕ) → ((id : ℕ) → f id ≡ false) → open_among f ids ≡ []
open_nothing f [] h = refl
open_nothing f (x ∷ xs) h = rw (h x) (open_nothing f xs h)

pub open_less : (w : ℕ → ℕ) (f g : ℕ → Bool) (ids : List ℕ) → ((id : ℕ) → g id ≡ true → f id ≡ true) → weigh w (open_among g ids) ≤ weigh w (open_among f ids)
open_less w f g [] h = omega arith
open_less w f g (x ∷ xs) h = go (g x) (f x) (not (is_among xs x)) (h x) (open_less w f g xs h) where
  go : (a b c : Bool) → (a ≡ true → b ≡ true) → weigh w (open_among g xs) ≤ weigh w (open_among f xs) → weigh w (cond (a && c) (x ∷ open_among g xs) (open_among g xs)) ≤ weigh w (cond (b && c) (x ∷ open_among f xs) (open_among f xs))
  go true true true n ih = omega (arith, ih)
  go true true false n ih = ih
  go true false c n ih = let bad : false ≡ true = n refl in absurd cc
  go false true true n ih = omega (arith, ih)
  go false true false n ih = ih
  go false false c n ih = ih

-- an id is asked for that was not live
pub open_ask : (f g : ℕ → Bool) (id : ℕ) (ids : List ℕ) → f id ≡ false → ((q : ℕ) → g q ≡ cond (eqb q id) true (f q)) → open_among g (ids ++ id ∷ []) ≡ open_among f ids ++ id ∷ []
open_ask f g id [] dead h = let on : eqb id id ≡ true = grind (arith, nat_tests) in let here : g id ≡ true = h id ∙ ap (λ b. cond b true (f id)) on in rw here refl
open_ask f g id (x ∷ xs) dead h = go (eqb x id) refl (open_ask f g id xs dead h) where
  tail : (b : Bool) (rest : List ℕ) → rest ≡ open_among f xs ++ id ∷ [] → cond b (x ∷ rest) rest ≡ cond b (x ∷ open_among f xs) (open_among f xs) ++ id ∷ []
  tail true rest e = ap (λ ys. x ∷ ys) e
  tail false rest e = e

  and_false : (a : Bool) → (a && false) ≡ false
  and_false true = refl
  and_false false = refl

  or_true : (a : Bool) → (a || true) ≡ true
  or_true true = refl
  or_true false = refl

  or_false : (a : Bool) → (a || false) ≡ a
  or_false true = refl
  or_false false = refl

  go : (b : Bool) → eqb x id ≡ b → open_among g (xs ++ id ∷ []) ≡ open_among f xs ++ id ∷ [] → cond (g x && not (is_among (xs ++ id ∷ []) x)) (x ∷ open_among g (xs ++ id ∷ [])) (open_among g (xs ++ id ∷ [])) ≡ cond (f x && not (is_among xs x)) (x ∷ open_among f xs) (open_among f xs) ++ id ∷ []
  go true is ih =
      let same : x ≡ id = grind (arith, nat_tests) in
      let on : eqb id x ≡ true = grind (arith, nat_tests) in
      let there : is_among (xs ++ id ∷ []) x ≡ true = among_snoc xs id x ∙ ap (λ b. is_among xs x || b) on ∙ or_true (is_among xs x) in
      let off : f x ≡ false = ap f same ∙ dead in
      let test : (g x && not (is_among (xs ++ id ∷ []) x)) ≡ false = ap (λ b. g x && not b) there ∙ and_false (g x) in
      rw (test, off) ih
  go false is ih =
      let off : eqb id x ≡ false = grind (arith, nat_tests) in
      let same : is_among (xs ++ id ∷ []) x ≡ is_among xs x = among_snoc xs id x ∙ ap (λ b. is_among xs x || b) off ∙ or_false (is_among xs x) in
      let live : g x ≡ f x = h x ∙ ap (λ b. cond b true (f x)) is in
      let test : (g x && not (is_among (xs ++ id ∷ []) x)) ≡ (f x && not (is_among xs x)) = λ i. live i && not (same i) in
      rw test (tail (f x && not (is_among xs x)) (open_among g (xs ++ id ∷ [])) ih)

-- one of them has ended
open_other : (f g : ℕ → Bool) (id : ℕ) (ids : List ℕ) → is_among ids id ≡ false → ((q : ℕ) → g q ≡ cond (eqb q id) false (f q)) → open_among g ids ≡ open_among f ids
open_other f g id [] none h = refl
open_other f g id (x ∷ xs) none h = go (eqb x id) refl none (open_other f g id xs) where
  go : (b : Bool) → eqb x id ≡ b → (b || is_among xs id) ≡ false → (is_among xs id ≡ false → ((q : ℕ) → g q ≡ cond (eqb q id) false (f q)) → open_among g xs ≡ open_among f xs)
      → cond (g x && not (is_among xs x)) (x ∷ open_among g xs) (open_among g xs) ≡ cond (f x && not (is_among xs x)) (x ∷ open_among f xs) (open_among f xs)
  go true is n ih = absurd cc
  go false is n ih =
      let live : g x ≡ f x = h x ∙ ap (λ b. cond b false (f x)) is in
      let e : open_among g xs ≡ open_among f xs = ih n h in
      λ i. cond (live i && not (is_among xs x)) (x ∷ e i) (e i)

pub open_end : (w : ℕ → ℕ) (f g : ℕ → Bool) (id : ℕ) (ids : List ℕ) → f id ≡ true → is_among ids id ≡ true → ((q : ℕ) → g q ≡ cond (eqb q id) false (f q)) → weigh w (open_among f ids) ≡ w id + weigh w (open_among g ids)
open_end w f g id [] live there h = absurd cc
open_end w f g id (x ∷ xs) live there h = go (eqb x id) (is_among xs id) refl refl there (λ t. open_end w f g id xs live t h) where
  test_on : (a b : Bool) → a ≡ true → b ≡ true → (a && not b) ≡ false
  test_on a b p q = rw (p, q) refl

  test_off : (a b : Bool) → a ≡ true → b ≡ false → (a && not b) ≡ true
  test_off a b p q = rw (p, q) refl

  tail : (b : Bool) → weigh w (open_among f xs) ≡ w id + weigh w (open_among g xs) → weigh w (cond b (x ∷ open_among f xs) (open_among f xs)) ≡ w id + weigh w (cond b (x ∷ open_among g xs) (open_among g xs))
  tail true e = omega (arith, e)
  tail false e = e

  go : (b a : Bool) → eqb x id ≡ b → is_among xs id ≡ a → (b || is_among xs id) ≡ true → (is_among xs id ≡ true → weigh w (open_among f xs) ≡ w id + weigh w (open_among g xs))
      → weigh w (cond (f x && not (is_among xs x)) (x ∷ open_among f xs) (open_among f xs)) ≡ w id + weigh w (cond (g x && not (is_among xs x)) (x ∷ open_among g xs) (open_among g xs))
  go true true is on t ih =
      let same : x ≡ id = grind (arith, nat_tests) in
      let gone : g x ≡ false = h x ∙ ap (λ b. cond b false (f x)) is in
      let test : (f x && not (is_among xs x)) ≡ false = test_on (f x) (is_among xs x) (ap f same ∙ live) (ap (is_among xs) same ∙ on) in
      rw (test, gone) (ih on)
  go true false is on t ih =
      let same : x ≡ id = grind (arith, nat_tests) in
      let gone : g x ≡ false = h x ∙ ap (λ b. cond b false (f x)) is in
      let test : (f x && not (is_among xs x)) ≡ true = test_off (f x) (is_among xs x) (ap f same ∙ live) (ap (is_among xs) same ∙ on) in
      let e : open_among g xs ≡ open_among f xs = open_other f g id xs on h in
      rw (test, gone) (λ i. w (same i) + weigh w (sym e i))
  go false a is on t ih =
      let stay : g x ≡ f x = h x ∙ ap (λ b. cond b false (f x)) is in
      rw stay (tail (f x && not (is_among xs x)) (ih t))
