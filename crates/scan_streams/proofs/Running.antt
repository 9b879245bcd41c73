-- For how many ids a run waits.
use Rattle.std.proofs.Common.{◌≡◌, ℕ, ◌+◌, List, [], ◌∷◌, length, Bool, true, false, not, ◌&&◌, ◌||◌, cond, eqb, nat_eq, Option, Some, None, is_none, refl, sym, ap, ◌∙◌, arith}
use Rattle.std.specs.Prelude.{filter, option_map}
use Rattle.std.specs.FinMap as map
use Rattle.std.proofs.lemmas.Bool.Decides.{nat_tests}
use Rattle.std.specs.Cmp.{nat_cmp_total}
use Rattle.scan_segments.proofs.LiveSets.{at-id}
use Rattle.scan_values.specs.Selections.{is_among}
use Rattle.scan_splits.specs.declared.inbox.Arrival.{Arrival}
use Rattle.scan_splits.specs.Arrivals.{Arrivals, content}
use Rattle.scan_splits.specs.Wanted.{no_repeats}
use Rattle.scan_spelling.specs.Places.{Place}
use Rattle.scan_plans.specs.Came.{came}
use Rattle.scan_plans.specs.Given.{AreLacking}
use Rattle.scan_plans.specs.Wants.{names_id}
use Rattle.scan_streams.specs.Runs.{lacks, is_nil}

and_both : (a b : Bool) → (a && b) ≡ true → (a ≡ true) × (b ≡ true)
and_both true b h = (refl, h)
and_both false b h = absurd cc

not_true : (b : Bool) → not b ≡ true → b ≡ false
not_true true h = absurd cc
not_true false h = refl

-- of an id that has arrived nothing lacks, and of the others what lacked
pub lacks_after : (inbox : Arrivals) (id : ℕ) (a : Arrival) (q : ℕ) → lacks (map.insert inbox id a) q ≡ cond (eqb id q) false (lacks inbox q)
lacks_after inbox id a q = ap is_none (map.get-insert nat_cmp_total inbox id a q ∙ ap (λ b. cond b (Some a) (map.get inbox q)) (at-id q id)) ∙ go (eqb id q)
  where
    go : (b : Bool) → is_none (cond b (Some a) (map.get inbox q)) ≡ cond b false (is_none (map.get inbox q))
    go true = refl
    go false = refl

-- a test that is off at one id more lets one id less pass
counts_same : (p q : ℕ → Bool) (id : ℕ) → ((k : ℕ) → q k ≡ cond (eqb id k) false (p k)) → (xs : List ℕ) → is_among xs id ≡ false → filter q xs ≡ filter p xs
counts_same p q id h [] n = refl
counts_same p q id h (x ∷ xs) n = go (counts_same p q id h xs) (eqb x id) refl (is_among xs id) refl
  where
    go : (is_among xs id ≡ false → filter q xs ≡ filter p xs) → (b : Bool) → eqb x id ≡ b → (c : Bool) → is_among xs id ≡ c → filter q (x ∷ xs) ≡ filter p (x ∷ xs)
    go ih true e c f = let bad : true ≡ false = rw e at n in absurd cc
    go ih false e true f = let bad : true ≡ false = rw (e, f) at n in absurd cc
    go ih false e false f =
        let off : eqb id x ≡ false = grind (arith, nat_tests) in
        let same : q x ≡ p x = h x ∙ ap (λ b. cond b false (p x)) off in
        rw (same, ih f) refl

pub counts_less : (p q : ℕ → Bool) (id : ℕ) → ((k : ℕ) → q k ≡ cond (eqb id k) false (p k)) → (xs : List ℕ) → no_repeats xs ≡ true → is_among xs id ≡ true → p id ≡ true → length (filter q xs) + 1 ≡ length (filter p xs)
counts_less p q id h [] d n on = absurd cc
counts_less p q id h (x ∷ xs) d n on = go (λ e f. counts_less p q id h xs e f on) (eqb x id) refl (p x) refl
  where
    parts : (not (is_among xs x) ≡ true) × (no_repeats xs ≡ true)
    parts = and_both (not (is_among xs x)) (no_repeats xs) d

    go : (no_repeats xs ≡ true → is_among xs id ≡ true → length (filter q xs) + 1 ≡ length (filter p xs)) → (b : Bool) → eqb x id ≡ b → (c : Bool) → p x ≡ c → length (filter q (x ∷ xs)) + 1 ≡ length (filter p (x ∷ xs))
    go ih true e c f =
        let same : x ≡ id = grind (arith, nat_tests) in
        let on-x : p x ≡ true = ap p same ∙ on in
        let is : eqb id x ≡ true = grind (arith, nat_tests) in
        let off : q x ≡ false = h x ∙ ap (λ b. cond b false (p x)) is in
        let rest = counts_same p q id h xs (sym (ap (is_among xs) same) ∙ not_true (is_among xs x) parts.0) in
        rw (off, on-x, rest) (omega arith)
    go ih false e true f =
        let is : eqb id x ≡ false = grind (arith, nat_tests) in
        let same : q x ≡ true = h x ∙ ap (λ b. cond b false (p x)) is ∙ f in
        let among : is_among xs id ≡ true = rw e at n in
        let step = ih parts.1 among in
        rw (same, f) (omega arith)
    go ih false e false f =
        let is : eqb id x ≡ false = grind (arith, nat_tests) in
        let same : q x ≡ false = h x ∙ ap (λ b. cond b false (p x)) is ∙ f in
        let among : is_among xs id ≡ true = rw e at n in
        rw (same, f) (ih parts.1 among)

pub all_pass : (p : ℕ → Bool) (xs : List ℕ) → ((id : ℕ) → is_among xs id ≡ true → p id ≡ true) → filter p xs ≡ xs
all_pass p [] h = refl
all_pass p (x ∷ xs) h =
    let is : eqb x x ≡ true = grind (arith, nat_tests) in
    let on : p x ≡ true = h x (rw is refl) in
    rw on (ap (λ ys. x ∷ ys) (all_pass p xs (λ id n. h id (go (eqb x id) (is_among xs id) n))))
  where
    go : (a b : Bool) → b ≡ true → (a || b) ≡ true
    go true b e = refl
    go false b e = e

came_none : (inbox : Arrivals) (id : ℕ) → is_none (came inbox id) ≡ lacks inbox id
came_none inbox id = go (map.get inbox id)
  where
    go : (o : Option Arrival) → is_none (option_map content o) ≡ is_none o
    go None = refl
    go (Some a) = refl

-- what a poll says that lacks does
pub lacking_lacks : (places : List Place) (inbox : Arrivals) (ids : List ℕ) → AreLacking places (came inbox) ids → (id : ℕ) → is_among ids id ≡ true → lacks inbox id ≡ true
lacking_lacks places inbox ids h id n = sym (came_none inbox id) ∙ (and_both (names_id id places) (is_none (came inbox id)) (sym (h.exact id) ∙ n)).1

pub left_pending : (places : List Place) (inbox : Arrivals) (ids : List ℕ) → AreLacking places (came inbox) ids → length ids ≡ length (filter (lacks inbox) ids)
left_pending places inbox ids h = sym (ap length (all_pass (lacks inbox) ids (lacking_lacks places inbox ids h)))

pub left_delivered : (inbox new : Arrivals) (id : ℕ) (a : Arrival) (ids : List ℕ) → new ≡ map.insert inbox id a → no_repeats ids ≡ true → (is_among ids id && lacks inbox id) ≡ true → length (filter (lacks new) ids) + 1 ≡ length (filter (lacks inbox) ids)
left_delivered inbox new id a ids e d w =
    let parts = and_both (is_among ids id) (lacks inbox id) w in
    ap (λ (i : Arrivals). length (filter (lacks i) ids) + 1) e ∙ counts_less (lacks inbox) (lacks (map.insert inbox id a)) id (lacks_after inbox id a) ids d parts.0 parts.1

pub nil_length : (xs : List ℕ) → nat_eq (length xs) 0 ≡ is_nil xs
nil_length [] = refl
nil_length (x ∷ xs) = grind (arith, nat_tests)
