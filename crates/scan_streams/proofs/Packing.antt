-- Which slots are empty, have news, are arrays or wait, after a step.
use Rattle.std.proofs.Common.{◌≡◌, ◌≢◌, ℕ, suc, zero, ◌+◌, ◌<◌, ◌≤◌, List, [], ◌∷◌, ◌++◌, length, set, map, take, drop, Bool, true, false, ◌||◌, ◌&&◌, eqb, Option, inl, inr, refl, sym, ap, ◌∙◌, subst, arith, length-set}
use Rattle.std.specs.Prelude.{◌⊎◌, filter}
use Rattle.std.specs.List.{flat_map, list_all}
use Rattle.std.proofs.lemmas.Bool.{cases_eq}
use Rattle.std.proofs.lemmas.Bool.Decides.{nat_tests}
use Rattle.std.proofs.lemmas.List.{get_or_past, set_past, length-map, map-set, map-append, drop-map, take-map, get_or-map}
use Rattle.scan_segments.specs.Source.{Store}
use Rattle.scan_values.specs.Arrays.{ArrayData}
use Rattle.scan_values.specs.Selections.{is_among}
use Rattle.scan_splits.specs.Arrivals.{Arrivals}
use Rattle.scan_plans.specs.Futures.{FutureData}
use Rattle.scan_streams.specs.Desks.{Waiters, waits}
use Rattle.scan_streams.specs.Runs.{lacks, is_nil}
use Rattle.scan_streams.specs.Slots.{slot_at, slot_split, slot_waits, is_empty, is_done, is_fresh, HasNews}
use Rattle.scan_streams.specs.Splits.{Goes}
use Rattle.scan_streams.specs.Looks.{Looked}
use Rattle.scan_streams.specs.Readings.{ring, Linked, Packed, IsFull, next_slot, later, news_of, turn_after}
use Rattle.scan_streams.specs.declared.slot.Slot.{Slot}
use Rattle.scan_streams.specs.declared.slot.Slot.TheVariants as slot
use Rattle.scan_streams.proofs.Counting.{among_later, among_head}
use Rattle.scan_streams.proofs.Going.{goes_refl}
use Rattle.scan_streams.proofs.Handing.{le_or_lt, at_set, at_set_same, at_set_other}
use Rattle.scan_streams.proofs.Ringing.{others, ring_first, ring_next}

-- ---- a look at a slot
-- what is true of the slot that was looked at, and was of each slot, is true of each
looked_at : (holds : Option Store) (p : ℕ) (old new : List Slot) (h : Looked holds p old new) (P : ℕ → Slot → Type 0) → P p h.slot → ((q : ℕ) → P q (slot_at old q)) → (q : ℕ) → P q (slot_at new q)
looked_at holds p old new h P here all q = subst (λ xs. P q (slot_at xs q)) (sym h.now) (go (le_or_lt (length old) p))
  where
    go : (length old ≤ p) ⊎ (p < length old) → P q (slot_at (set old p h.slot) q)
    go (inl le) = subst (λ xs. P q (slot_at xs q)) (sym (set_past old p h.slot le)) (all q)
    go (inr lt) = at_set P old p h.slot lt here (λ k n. all k) q

pub looked_length : (holds : Option Store) (p : ℕ) (old new : List Slot) → Looked holds p old new → length new ≡ length old
looked_length holds p old new h = ap length h.now ∙ length-set old p h.slot

pub looked_goes : (holds : Option Store) (p : ℕ) (old new : List Slot) → Looked holds p old new → (q : ℕ) → Goes true holds [] (slot_split (slot_at old q)) (slot_split (slot_at new q))
looked_goes holds p old new h = looked_at holds p old new h (λ q s. Goes true holds [] (slot_split (slot_at old q)) (slot_split s)) h.goes (λ q. goes_refl holds true (slot_split (slot_at old q)))

pub looked_empty : (holds : Option Store) (p : ℕ) (old new : List Slot) → Looked holds p old new → (q : ℕ) → is_empty (slot_at new q) ≡ is_empty (slot_at old q)
looked_empty holds p old new h = looked_at holds p old new h (λ q s. is_empty s ≡ is_empty (slot_at old q)) h.empty (λ q. refl)

-- the slot that was looked at has no news any more
pub looked_news : (holds : Option Store) (p : ℕ) (old new : List Slot) (news : List ℕ) → Looked holds p old new → HasNews old (p ∷ news) → HasNews new news
looked_news holds p old new news h has q f = go (cases_eq q p)
  where
    old_news : (e : is_fresh (slot_at old p) ≡ false) → HasNews old news
    old_news e k g = cases (cases_eq k p)
      where
        cases : (k ≡ p) ⊎ (k ≢ p) → is_among news k ≡ true
        cases (inl is) = let bad : false ≡ true = sym e ∙ ap (λ j. is_fresh (slot_at old j)) (sym is) ∙ g in absurd cc
        cases (inr other) = let off : eqb p k ≡ false = grind (arith, nat_tests) in rw off at (has k g)

    not_fresh : (length old ≤ p) ⊎ (p < length old) → is_fresh (slot_at new p) ≡ false
    not_fresh (inl le) = ap (λ xs. is_fresh (slot_at xs p)) (h.now ∙ set_past old p h.slot le) ∙ ap is_fresh (get_or_past old p slot.Empty le)
    not_fresh (inr lt) = ap (λ xs. is_fresh (slot_at xs p)) h.now ∙ ap is_fresh (at_set_same old p h.slot lt) ∙ h.settled

    go : (q ≡ p) ⊎ (q ≢ p) → is_among news q ≡ true
    go (inl is) = let bad : false ≡ true = sym (not_fresh (le_or_lt (length old) p)) ∙ ap (λ j. is_fresh (slot_at new j)) (sym is) ∙ f in absurd cc
    go (inr other) =
        let off : eqb p q ≡ false = grind (arith, nat_tests) in
        let was : is_fresh (slot_at old q) ≡ true = ap is_fresh (sym (at_set_other old p q h.slot other)) ∙ ap (λ xs. is_fresh (slot_at xs q)) (sym h.now) ∙ f in
        rw off at (has q was)

-- ---- the same slots are empty
pub empties_same : (old new : List Slot) → length new ≡ length old → ((q : ℕ) → is_empty (slot_at new q) ≡ is_empty (slot_at old q)) → map is_empty new ≡ map is_empty old
empties_same [] [] n h = refl
empties_same [] (y ∷ new) n h = absurd (omega (arith, n))
empties_same (x ∷ old) [] n h = absurd (omega (arith, n))
empties_same (x ∷ old) (y ∷ new) n h = λ i. h zero i ∷ empties_same old new (omega (arith, n)) (λ q. h (suc q)) i

nil_of : (xs ys : List Slot) → length ys ≡ length xs → ys ≡ [] → xs ≡ []
nil_of [] ys n e = refl
nil_of (x ∷ xs) ys n e = let l = ap length e in absurd (omega (arith, n, l))

pub full_same : (old new : List Slot) (queue : List FutureData) → length new ≡ length old → ((q : ℕ) → is_empty (slot_at new q) ≡ is_empty (slot_at old q)) → IsFull old queue → IsFull new queue
full_same old new queue n h f = (λ q lt e. f.0 q (omega (arith, n, lt)) (sym (h q) ∙ e), λ e. f.1 (nil_of old new n e))

-- ---- an array is given, and its slot goes to the next split
among_right : (xs ys : List ℕ) (id : ℕ) → is_among ys id ≡ true → is_among (xs ++ ys) id ≡ true
among_right [] ys id h = h
among_right (x ∷ xs) ys id h = among_later x id (xs ++ ys) (among_right xs ys id h)

among_left : (xs ys : List ℕ) (id : ℕ) → is_among xs id ≡ true → is_among (xs ++ ys) id ≡ true
among_left [] ys id h = absurd cc
among_left (x ∷ xs) ys id h = go (eqb x id) (is_among xs id) (is_among (xs ++ ys) id) (λ k. among_left xs ys id k) h
  where
    go : (a b c : Bool) → (b ≡ true → c ≡ true) → (a || b) ≡ true → (a || c) ≡ true
    go true b c k e = refl
    go false b c k e = k e

next_waits : (queue : List FutureData) (id : ℕ) → slot_waits (next_slot queue) id ≡ false
next_waits [] id = refl
next_waits (f ∷ queue) id = refl

next_done : (queue : List FutureData) → is_done (next_slot queue) ≡ false
next_done [] = refl
next_done (f ∷ queue) = refl

pub given_links : (d : Waiters) (xs : List Slot) (p : ℕ) (a : ArrayData) (queue : List FutureData) → p < length xs → slot_at xs p ≡ slot.Done a → Linked d xs → Linked d (set xs p (next_slot queue))
given_links d xs p a queue lt is l = record { same = λ id. at_set (λ q s. waits d id q ≡ slot_waits s id) xs p (next_slot queue) lt (l.same id p ∙ ap (λ s. slot_waits s id) is ∙ sym (next_waits queue id)) (λ q n. l.same id q); live = l.live }

pub given_news : (xs : List Slot) (p : ℕ) (queue : List FutureData) (news : List ℕ) → p < length xs → HasNews xs news → HasNews (set xs p (next_slot queue)) (news ++ news_of queue p)
given_news xs p queue news lt h = at_set (λ q s. is_fresh s ≡ true → is_among (news ++ news_of queue p) q ≡ true) xs p (next_slot queue) lt (here queue) (λ q n f. among_left news (news_of queue p) q (h q f))
  where
    here : (q : List FutureData) → is_fresh (next_slot q) ≡ true → is_among (news ++ news_of q p) p ≡ true
    here [] f = absurd cc
    here (x ∷ q) f = among_right news (p ∷ []) p (among_head p [])

pub given_lists : (xs : List Slot) (p : ℕ) (queue : List FutureData) (done : List ℕ) → p < length xs → ((q : ℕ) → is_done (slot_at xs q) ≡ true → is_among (p ∷ done) q ≡ true) → (q : ℕ) → is_done (slot_at (set xs p (next_slot queue)) q) ≡ true → is_among done q ≡ true
given_lists xs p queue done lt h = at_set (λ q s. is_done s ≡ true → is_among done q ≡ true) xs p (next_slot queue) lt (λ f. let bad : false ≡ true = sym (next_done queue) ∙ f in absurd cc) there
  where
    there : (q : ℕ) → q ≢ p → is_done (slot_at xs q) ≡ true → is_among done q ≡ true
    there q n f = let off : eqb p q ≡ false = grind (arith, nat_tests) in rw off at (h q f)

-- where a listed slot is no array, the others are listed
pub lists_less : (xs : List Slot) (p : ℕ) (done : List ℕ) → is_done (slot_at xs p) ≡ false → ((q : ℕ) → is_done (slot_at xs q) ≡ true → is_among (p ∷ done) q ≡ true) → (q : ℕ) → is_done (slot_at xs q) ≡ true → is_among done q ≡ true
lists_less xs p done off h q f = go (cases_eq q p)
  where
    go : (q ≡ p) ⊎ (q ≢ p) → is_among done q ≡ true
    go (inl is) = let bad : false ≡ true = sym off ∙ ap (λ k. is_done (slot_at xs k)) (sym is) ∙ f in absurd cc
    go (inr n) = let out : eqb p q ≡ false = grind (arith, nat_tests) in rw out at (h q f)

pub given_full : (xs : List Slot) (p : ℕ) (queue : List FutureData) → p < length xs → IsFull xs queue → IsFull (set xs p (next_slot queue)) (later queue)
given_full xs p queue lt f = (λ q l e. at q (subst (λ n. q < n) (length-set xs p (next_slot queue)) l) e, λ e. let n = length-set xs p (next_slot queue) in let z = ap length e in absurd (omega (arith, n, z, lt)))
  where
    here : (q : List FutureData) → is_empty (next_slot q) ≡ true → later q ≡ []
    here [] e = refl
    here (x ∷ q) e = absurd cc

    at : (q : ℕ) → q < length xs → is_empty (slot_at (set xs p (next_slot queue)) q) ≡ true → later queue ≡ []
    at = at_set (λ q s. q < length xs → is_empty s ≡ true → later queue ≡ []) xs p (next_slot queue) lt (λ l e. here queue e) (λ q n l e. ap later (f.0 q l e))

-- ---- behind an empty slot stand only empty ones
-- no slot is empty
abbrev pub NoneIn : List Bool → Type 0
NoneIn [] = Unit {0}
NoneIn (b ∷ bs) = (b ≡ false) × NoneIn bs

none_join : (a b : List Bool) → NoneIn a → NoneIn b → NoneIn (a ++ b)
none_join [] b h k = k
none_join (x ∷ a) b h k = (h.0, none_join a b h.1 k)

none_drop : (k : ℕ) (bs : List Bool) → NoneIn bs → NoneIn (drop k bs)
none_drop zero bs h = h
none_drop (suc k) [] h = tt
none_drop (suc k) (b ∷ bs) h = none_drop k bs h.1

none_take : (k : ℕ) (bs : List Bool) → NoneIn bs → NoneIn (take k bs)
none_take zero bs h = tt
none_take (suc k) [] h = tt
none_take (suc k) (b ∷ bs) h = (h.0, none_take k bs h.1)

none_of : (xs : List Slot) → ((q : ℕ) → q < length xs → is_empty (slot_at xs q) ≡ true → ⊥) → NoneIn (map is_empty xs)
none_of [] h = tt
none_of (x ∷ xs) h = (go (is_empty x) (λ e. h zero (omega arith) e), none_of xs (λ q lt e. h (suc q) (omega (arith, lt)) e))
  where
    go : (b : Bool) → (b ≡ true → ⊥) → b ≡ false
    go true n = absurd (n refl)
    go false n = refl

all_snoc : (bs : List Bool) → list_all (λ x. x) bs ≡ true → list_all (λ x. x) (bs ++ true ∷ []) ≡ true
all_snoc [] h = refl
all_snoc (true ∷ bs) h = all_snoc bs h
all_snoc (false ∷ bs) h = absurd cc

packed_empty : (bs : List Bool) → Packed bs → Packed (bs ++ true ∷ [])
packed_empty [] h = (λ e. refl, tt)
packed_empty (b ∷ bs) h = (λ e. all_snoc bs (h.0 e), packed_empty bs h.1)

packed_none : (bs : List Bool) → NoneIn bs → Packed (bs ++ false ∷ [])
packed_none [] h = (λ e. refl, tt)
packed_none (b ∷ bs) h = (λ e. let bad : false ≡ true = sym h.0 ∙ e in absurd cc, packed_none bs h.1)

pub given_packed : (k : ℕ) (xs : List Slot) (queue : List FutureData) → k < length xs → IsFull xs queue → Packed (ring k (map is_empty xs)) → Packed (ring (turn_after true k (length xs)) (map is_empty (set xs k (next_slot queue))))
given_packed k xs queue lt f h =
    subst Packed (sym is) (go queue f)
  where
    bs : List Bool
    bs = map is_empty xs

    lt_bs : k < length bs
    lt_bs = let n = length-map xs is_empty in omega (arith, n, lt)

    is : ring (turn_after true k (length xs)) (map is_empty (set xs k (next_slot queue))) ≡ others k bs ++ is_empty (next_slot queue) ∷ []
    is = ap (ring (turn_after true k (length xs))) (map-set is_empty xs k (next_slot queue)) ∙ ap (λ n. ring (turn_after true k n) (set bs k (is_empty (next_slot queue)))) (sym (length-map xs is_empty)) ∙ ring_next k bs (is_empty (next_slot queue)) lt_bs

    rest : Packed (others k bs)
    rest = (subst Packed (ring_first k bs true lt_bs) h).1

    go : (q : List FutureData) → IsFull xs q → Packed (others k bs ++ is_empty (next_slot q) ∷ [])
    go [] g = packed_empty (others k bs) rest
    go (x ∷ q) g =
        let none = none_of xs (λ p l e. filled (g.0 p l e)) in
        packed_none (others k bs) (none_join (drop (k + 1) bs) (take k bs) (none_drop (k + 1) bs none) (none_take k bs none))
      where
        filled : x ∷ q ≡ [] → ⊥
        filled e = let n = ap length e in absurd (omega (arith, n))

-- ---- nothing is left
some_lacks : (inbox : Arrivals) (ids : List ℕ) → ((id : ℕ) → (is_among ids id && lacks inbox id) ≡ false) → is_nil (filter (lacks inbox) ids) ≡ true
some_lacks inbox [] h = refl
some_lacks inbox (x ∷ ids) h = go (some_lacks inbox ids) (lacks inbox x) refl
  where
    go : (((id : ℕ) → (is_among ids id && lacks inbox id) ≡ false) → is_nil (filter (lacks inbox) ids) ≡ true) → (b : Bool) → lacks inbox x ≡ b → is_nil (filter (lacks inbox) (x ∷ ids)) ≡ true
    go ih true e = let on = among_head x ids in let bad : true ≡ false = ap (λ b. b && true) (sym on) ∙ ap (λ b. is_among (x ∷ ids) x && b) (sym e) ∙ h x in absurd cc
    go ih false e = rw e (ih (λ id. less (eqb x id) (is_among ids id) (lacks inbox id) (h id)))
      where
        less : (a b c : Bool) → ((a || b) && c) ≡ false → (b && c) ≡ false
        less true true c k = k
        less true false c k = refl
        less false b c k = k

-- a slot that has no news, waits for nothing and is no array is empty
pub idle_empty : (s : Slot) → is_fresh s ≡ false → ((id : ℕ) → slot_waits s id ≡ false) → is_done s ≡ false → is_empty s ≡ true
idle_empty slot.Empty f w d = refl
idle_empty (slot.Done a) f w d = absurd cc
idle_empty (slot.Run r) f w d = let bad : false ≡ true = sym f ∙ some_lacks r.inbox r.wanted w in absurd cc

flat_empty : (xs : List Slot) → list_all (λ x. x) (map is_empty xs) ≡ true → flat_map slot_split xs ≡ []
flat_empty [] h = refl
flat_empty (slot.Empty ∷ xs) h = flat_empty xs h
flat_empty (slot.Run r ∷ xs) h = absurd cc
flat_empty (slot.Done a ∷ xs) h = absurd cc

map_ring : (k : ℕ) (xs : List Slot) → map is_empty (ring k xs) ≡ ring k (map is_empty xs)
map_ring k xs = map-append is_empty (drop k xs) (take k xs) ∙ (λ i. sym (drop-map is_empty k xs) i ++ sym (take-map is_empty k xs) i)

-- where the first slot of the ring is empty, all are
pub ring_empty : (k : ℕ) (xs : List Slot) → k < length xs → is_empty (slot_at xs k) ≡ true → Packed (ring k (map is_empty xs)) → flat_map slot_split (ring k xs) ≡ []
ring_empty k xs lt e h = flat_empty (ring k xs) (ap (list_all (λ x. x)) (map_ring k xs ∙ first) ∙ all)
  where
    lt_bs : k < length (map is_empty xs)
    lt_bs = let n = length-map xs is_empty in omega (arith, n, lt)

    first : ring k (map is_empty xs) ≡ true ∷ others k (map is_empty xs)
    first = ring_first k (map is_empty xs) true lt_bs ∙ ap (λ b. b ∷ others k (map is_empty xs)) (get_or-map is_empty xs k slot.Empty true lt ∙ e)

    all : list_all (λ x. x) (true ∷ others k (map is_empty xs)) ≡ true
    all = (subst Packed first h).0 refl

pub slots_empty : (xs : List Slot) → ((q : ℕ) → is_empty (slot_at xs q) ≡ true) → flat_map slot_split xs ≡ []
slots_empty xs h = flat_empty xs (go xs h)
  where
    go : (ys : List Slot) → ((q : ℕ) → is_empty (slot_at ys q) ≡ true) → list_all (λ x. x) (map is_empty ys) ≡ true
    go [] k = refl
    go (y ∷ ys) k = rw (k zero) (go ys (λ q. k (suc q)))

pub ring_none : (k : ℕ) → ring {T = Slot} k [] ≡ []
ring_none zero = refl
ring_none (suc k) = refl
