-- What a look at a slot does.
use Rattle.std.proofs.Common.{◌≡◌, ◌≢◌, ℕ, suc, ◌+◌, ◌*◌, ◌<◌, ◌≤◌, List, [], ◌∷◌, ◌++◌, length, set, map, Bool, true, false, cond, ◌||◌, ◌&&◌, eqb, Option, is_none, inl, inr, refl, sym, ap, ◌∙◌, subst, arith, length-append}
use Rattle.std.specs.Prelude.{◌⊎◌, if◌then◌else◌, option_and_then}
use Rattle.std.proofs.lemmas.List.{length-map}
use Rattle.scan_values.specs.Marked.{Marked}
use Rattle.std.proofs.lemmas.Bool.Decides.{nat_tests}
use Rattle.std.proofs.lemmas.List.Folds.{list_any-append}
use Rattle.scan_segments.specs.Source.{Store, SourceState}
use Rattle.scan_values.specs.Arrays.{ArrayData}
use Rattle.scan_values.specs.Selections.{is_among}
use Rattle.scan_values.specs.Val.{marked}
use Rattle.scan_spelling.specs.Places.{Place}
use Rattle.scan_splits.specs.Arrivals.{Arrivals}
use Rattle.scan_splits.specs.Wanted.{is_any}
use Rattle.scan_plans.specs.Came.{Came, came, arrived, Holds}
use Rattle.scan_plans.specs.Given.{AreLacking}
use Rattle.scan_plans.specs.Futures.{FutureData, SameFuture, GivesItems, masks_in, rows_of, future_may, future_wanted, future_overflow}
use Rattle.scan_plans.specs.Masks.{MaskData, Filter, mask_wanted, mask_may, filters_wanted, filters_may, kept, filtered, mask_of}
use Rattle.scan_plans.specs.MaskLists.{masks_wanted, masks_may, SameMasks, under, nulled}
use Rattle.scan_plans.specs.Meaning.{true_rows, value_at}
use Rattle.scan_plans.specs.Wants.{wanted, may, names_id, are_here}
use Rattle.scan_plans.proofs.Wanting.{wants_may}
use Rattle.scan_streams.specs.Sources.{SourceMoves}
use Rattle.scan_streams.specs.Runs.{RunData, lacks, run_waits, is_ready}
use Rattle.scan_streams.specs.Desks.{Waiters, waits}
use Rattle.scan_streams.specs.Measures.{open_ids, run_steps, slot_steps, slots_steps}
use Rattle.scan_streams.specs.Readings.{Linked}
use Rattle.scan_streams.specs.Slots.{slot_at, slot_split, slot_waits, wanted_in, is_fresh, is_empty, also_if}
use Rattle.scan_streams.specs.Splits.{unread, read, one_part, Goes, SomeComesTo}
use Rattle.scan_streams.specs.Looks.{MayAsk, Halts, HaltsAt, Among, Asked, FoundWaits, FoundDone, Looked}
use Rattle.scan_streams.specs.declared.fault.Halt.{Halt}
use Rattle.scan_streams.specs.declared.fault.Halt.TheVariants as halt
use Rattle.scan_streams.specs.declared.slot.Slot.{Slot}
use Rattle.scan_streams.proofs.Asking.{moves_weaker}
use Rattle.scan_streams.proofs.Running.{lacking_lacks}
use Rattle.scan_streams.proofs.Counting.{no_more, among_head}
use Rattle.scan_streams.proofs.Handing.{waits_not_ready, at_set, steps_set}
use Rattle.scan_streams.proofs.Looking.{extends_self, future_self, items_same, damage_same, overflow_same, type_same, future_later, future_then}

or_cases : (a b : Bool) → (a || b) ≡ true → (a ≡ true) ⊎ (b ≡ true)
or_cases true b e = inl refl
or_cases false b e = inr e

or_left : (a b : Bool) → a ≡ true → (a || b) ≡ true
or_left true b e = refl
or_left false b e = absurd cc

or_right : (a b : Bool) → b ≡ true → (a || b) ≡ true
or_right true b e = refl
or_right false b e = e

and_both : (a b : Bool) → (a && b) ≡ true → (a ≡ true) × (b ≡ true)
and_both true b h = (refl, h)
and_both false b h = absurd cc

names_both : (id : ℕ) (ps qs : List Place) → names_id id (ps ++ qs) ≡ (names_id id ps || names_id id qs)
names_both id ps qs = list_any-append (λ (p : Place). eqb p.id id) ps qs

among_both : (xs ys : List ℕ) (id : ℕ) → is_among (xs ++ ys) id ≡ (is_among xs id || is_among ys id)
among_both xs ys id = list_any-append (λ x. eqb x id) xs ys

in_first : (xs ys : List ℕ) (id : ℕ) → is_among xs id ≡ true → is_among (xs ++ ys) id ≡ true
in_first xs ys id h = among_both xs ys id ∙ or_left (is_among xs id) (is_among ys id) h

in_second : (xs ys : List ℕ) (id : ℕ) → is_among ys id ≡ true → is_among (xs ++ ys) id ≡ true
in_second xs ys id h = among_both xs ys id ∙ or_right (is_among xs id) (is_among ys id) h

if_names : (b : Bool) (id : ℕ) (ps : List Place) → names_id id (if b then ps else []) ≡ true → names_id id ps ≡ true
if_names true id ps h = h
if_names false id ps h = absurd cc

-- what a mask wants, whatever has arrived, is named when it is made
filters_named : (here : Came) (bits : List Bool) (fs : List Filter) (id : ℕ) → names_id id (filters_wanted here bits fs) ≡ true → is_among (filters_may fs) id ≡ true
filters_named here bits [] id h = absurd cc
filters_named here bits (f ∷ fs) id h =
    go (filters_named here (kept f.0 (arrived here) f.1 bits) fs id) (or_cases (names_id id first) (names_id id rest) (sym (names_both id first rest) ∙ h))
  where
    first : List Place
    first = wanted f.0 here (true_rows f.1 bits)

    rest : List Place
    rest = if are_here first here then filters_wanted here (kept f.0 (arrived here) f.1 bits) fs else []

    go : (names_id id (filters_wanted here (kept f.0 (arrived here) f.1 bits) fs) ≡ true → is_among (filters_may fs) id ≡ true) → (names_id id first ≡ true) ⊎ (names_id id rest ≡ true) → is_among (filters_may (f ∷ fs)) id ≡ true
    go ih (inl k) = in_first (may f.0) (filters_may fs) id (wants_may f.0 here (true_rows f.1 bits) id k)
    go ih (inr k) = in_second (may f.0) (filters_may fs) id (ih (if_names (are_here first here) id (filters_wanted here (kept f.0 (arrived here) f.1 bits) fs) k))

masks_named : (here : Came) (ms : List MaskData) (last : List Place) (ids : List ℕ) (id : ℕ) → (names_id id last ≡ true → is_among ids id ≡ true) → names_id id (masks_wanted ms here last) ≡ true → is_among (masks_may ms ++ ids) id ≡ true
masks_named here [] last ids id k h = k h
masks_named here (m ∷ ms) last ids id k h =
    go (masks_named here ms last ids id k) (or_cases (names_id id (mask_wanted m here)) (names_id id rest) (sym (names_both id (mask_wanted m here) rest) ∙ h))
  where
    rest : List Place
    rest = if are_here (mask_wanted m here) here then masks_wanted ms here last else []

    assoc : is_among ((mask_may m ++ masks_may ms) ++ ids) id ≡ ((is_among (mask_may m) id || is_among (masks_may ms) id) || is_among ids id)
    assoc = among_both (mask_may m ++ masks_may ms) ids id ∙ ap (λ b. b || is_among ids id) (among_both (mask_may m) (masks_may ms) id)

    up : is_among (masks_may ms ++ ids) id ≡ true → ((is_among (mask_may m) id || is_among (masks_may ms) id) || is_among ids id) ≡ true
    up e = cases (is_among (mask_may m) id) (is_among (masks_may ms) id) (is_among ids id) (sym (among_both (masks_may ms) ids id) ∙ e)
      where
        cases : (a b c : Bool) → (b || c) ≡ true → ((a || b) || c) ≡ true
        cases true b c f = refl
        cases false b c f = f

    go : (names_id id (masks_wanted ms here last) ≡ true → is_among (masks_may ms ++ ids) id ≡ true) → (names_id id (mask_wanted m here) ≡ true) ⊎ (names_id id rest ≡ true) → is_among ((mask_may m ++ masks_may ms) ++ ids) id ≡ true
    go ih (inl e) = assoc ∙ or_left (is_among (mask_may m) id || is_among (masks_may ms) id) (is_among ids id) (or_left (is_among (mask_may m) id) (is_among (masks_may ms) id) (filters_named here m.known m.filters id e))
    go ih (inr e) = assoc ∙ up (ih (if_names (are_here (mask_wanted m here) here) id (masks_wanted ms here last) e))

-- what a future wants, whatever has arrived, is named when it is made
pub future_named : (f : FutureData) (here : Came) (id : ℕ) → names_id id (future_wanted f here) ≡ true → is_among (future_may f) id ≡ true
future_named f here id h = masks_named here (masks_in f) (wanted f.tree here (rows_of f (arrived here))) (may f.tree) id (wants_may f.tree here (rows_of f (arrived here)) id) h

masks_less : (here : Came) (ns ms : List MaskData) (id : ℕ) → SameMasks here ns ms → is_among (masks_may ns) id ≡ true → is_among (masks_may ms) id ≡ true
masks_less here [] ms id s h = absurd cc
masks_less here (n ∷ ns) [] id s h = absurd s
masks_less here (n ∷ ns) (m ∷ ms) id s h = go (masks_less here ns ms id s.1) (or_cases (is_among (mask_may n) id) (is_among (masks_may ns) id) (sym (among_both (mask_may n) (masks_may ns) id) ∙ h))
  where
    go : (is_among (masks_may ns) id ≡ true → is_among (masks_may ms) id ≡ true) → (is_among (mask_may n) id ≡ true) ⊎ (is_among (masks_may ns) id ≡ true) → is_among (mask_may m ++ masks_may ms) id ≡ true
    go ih (inl e) = in_first (mask_may m) (masks_may ms) id (s.0.may id e)
    go ih (inr e) = in_second (mask_may m) (masks_may ms) id (ih e)

-- a future that means the same as another names no more
pub future_less : (here : Came) (g f : FutureData) (id : ℕ) → SameFuture here g f → is_among (future_may g) id ≡ true → is_among (future_may f) id ≡ true
future_less here g f id s h = go (or_cases (is_among (masks_may (masks_in g)) id) (is_among (may g.tree) id) (sym (among_both (masks_may (masks_in g)) (may g.tree) id) ∙ h))
  where
    go : (is_among (masks_may (masks_in g)) id ≡ true) ⊎ (is_among (may g.tree) id ≡ true) → is_among (future_may f) id ≡ true
    go (inl e) = in_first (masks_may (masks_in f)) (may f.tree) id (masks_less here (masks_in g) (masks_in f) id s.masks e)
    go (inr e) = in_second (masks_may (masks_in f)) (may f.tree) id (sym (ap (λ t. is_among (may t) id) s.tree) ∙ e)

ready_none : (r : RunData) (id : ℕ) → is_ready r ≡ true → run_waits r id ≡ false
ready_none r id h = go (run_waits r id) refl
  where
    go : (b : Bool) → run_waits r id ≡ b → run_waits r id ≡ false
    go true e = let no = sym h ∙ waits_not_ready r id e in absurd cc
    go false e = e

-- what lacks for a run is named, and wanted
lacking_wanted : (f : FutureData) (inbox : Arrivals) (ids : List ℕ) (id : ℕ) → AreLacking (future_wanted f (came inbox)) (came inbox) ids → is_among ids id ≡ true → names_id id (future_wanted f (came inbox)) ≡ true
lacking_wanted f inbox ids id h n = (and_both (names_id id (future_wanted f (came inbox))) (is_none (came inbox id)) (sym (h.exact id) ∙ n)).0

pub new_place : (d : Waiters) (slots : List Slot) (p : ℕ) (y : Slot) → Linked d slots → FoundWaits (slot_at slots p) y → (id : ℕ) → waits d id p ≡ false
new_place d slots p y l f id = l.same id p ∙ ap (λ s. slot_waits s id) f.was ∙ ready_none f.run id f.ready

pub done_place : (d : Waiters) (slots : List Slot) (p : ℕ) (y : Slot) → Linked d slots → FoundDone (slot_at slots p) y → (id : ℕ) → waits d id p ≡ false
done_place d slots p y l f id = l.same id p ∙ ap (λ s. slot_waits s id) f.was ∙ ready_none f.run id f.ready

-- the ids that a split is asked for may be asked
pub may_ask : (holds : Option Store) (x y : Slot) (s t : SourceState) → FoundWaits x y → SourceMoves (Among (wanted_in y)) s t → SourceMoves (MayAsk holds (slot_split x)) s t
may_ask holds x y s t f m = moves_weaker (Among (wanted_in y)) (MayAsk holds (slot_split x)) s t (λ id n. subst (λ z. MayAsk holds (slot_split z) id) (sym f.was) (asked id (subst (λ z. Among (wanted_in z) id) f.now n))) m
  where
    asked : (id : ℕ) → Among f.next.wanted id → MayAsk holds (unread f.run.future f.run.inbox ∷ []) id
    asked id n =
        let named = lacking_wanted f.run.future f.run.inbox f.next.wanted id f.lacking n in (
          or_left (is_among (future_may f.run.future) id) false (future_named f.run.future (came f.run.inbox) id named),
          λ store e h. inl (record { at = f.run.future; then = came f.run.inbox; holds = h.0; more = extends_self (came f.run.inbox); same = future_self (came f.run.inbox) f.run.future; meets = named }),
        )

-- what has arrived is a store of its own
holds_arrived : (here : Came) → Holds (arrived here) here
holds_arrived here id bytes e = ap (λ o. option_and_then (λ b. b) o) e

kept_length : (f : Filter) (store : Store) (i : ℕ) (bits : List Bool) → length (kept f.0 store i bits) ≡ length bits
kept_length f store i [] = refl
kept_length f store i (b ∷ bits) = ap suc (kept_length f store (i + 1) bits)

filtered_length : (store : Store) (bits : List Bool) (fs : List Filter) → length (filtered store bits fs) ≡ length bits
filtered_length store bits [] = refl
filtered_length store bits (f ∷ fs) = filtered_length store (kept f.0 store f.1 bits) fs ∙ kept_length f store f.1 bits

rows_few : (i : ℕ) (bits : List Bool) → length (true_rows i bits) ≤ length bits
rows_few i [] = omega arith
rows_few i (true ∷ bits) = let h = rows_few (i + 1) bits in omega arith
rows_few i (false ∷ bits) = let h = rows_few (i + 1) bits in omega arith

nulled_length : (bits : List Bool) (vs : List Marked) → length (nulled bits vs) ≡ length vs
nulled_length bits [] = refl
nulled_length [] (v ∷ vs) = ap suc (nulled_length [] vs)
nulled_length (true ∷ bits) (v ∷ vs) = ap suc (nulled_length bits vs)
nulled_length (false ∷ bits) (v ∷ vs) = ap suc (nulled_length bits vs)

under_length : (store : Store) (ms : List MaskData) (vs : List Marked) → length (under store ms vs) ≡ length vs
under_length store [] vs = refl
under_length store (m ∷ ms) vs = under_length store ms (nulled (mask_of m store) vs) ∙ nulled_length (mask_of m store) vs

known_length : (m : MaskData) (store : Store) → length (mask_of m store) ≡ length m.known
known_length m store = filtered_length store m.known m.filters

same_reach : (here : Came) (g f : FutureData) → SameFuture here g f → length (g.mask).known ≡ length (f.mask).known
same_reach here g f s =
    sym (known_length g.mask (arrived here)) ∙ ap length (s.masks.0.mask (arrived here) (holds_arrived here)) ∙ known_length f.mask (arrived here)

given_reach : (here : Came) (f : FutureData) (a : ArrayData) → GivesItems here f a → length a.items ≤ length (f.mask).known
given_reach here f a g =
    let store : Store = arrived here in
    let is = ap length (g.items store (holds_arrived here)) in
    let m = length-map a.items marked in
    let u = under_length store f.outer (map (value_at f.tree store) (rows_of f store)) in
    let v = length-map (rows_of f store) (value_at f.tree store) in
    let w = rows_few f.first (mask_of f.mask store) in
    let k = known_length f.mask store in
    omega arith

pub waits_goes : (holds : Option Store) (f g : FutureData) (inbox : Arrivals) → SameFuture (came inbox) g f → Goes true holds [] (unread f inbox ∷ []) (unread g inbox ∷ [])
waits_goes holds f g inbox s = record {
  stay = λ store e h. h;
  items = λ store e h. ap (λ xs. one_part xs ++ []) (sym (items_same (came inbox) store g f h.0 s));
  clean = λ store e h. λ i. one_part (cond (sym (damage_same (came inbox) store g f h.0 s) i) [] (sym (items_same (came inbox) store g f h.0 s) i)) ++ [];
  overflow = λ store e h. ap (λ b. b || false) (overflow_same (came inbox) store g f h.0 s);
  damage = λ store e h. ap (λ b. b || false) (damage_same (came inbox) store g f h.0 s);
  comes = λ test store e h c. back test store c;
  may = λ id h. go id (or_cases (is_among (future_may g) id) false h);
  dtype = λ d h. (type_same (came inbox) g f s ∙ h.0, tt);
  reach = let r = same_reach (came inbox) g f s in omega arith;
}
  where
    back : (test : FutureData → Came → Bool) (store : Store) → SomeComesTo test store (unread g inbox ∷ []) → SomeComesTo test store (unread f inbox ∷ [])
    back test store (inl c) = inl (record { at = c.at; then = c.then; holds = c.holds; more = c.more; same = future_then c.then c.at g f c.same (future_later (came inbox) c.then g f c.more s); meets = c.meets })
    back test store (inr c) = absurd c

    go : (id : ℕ) → (is_among (future_may g) id ≡ true) ⊎ (false ≡ true) → (is_among (future_may f) id || false) ≡ true
    go id (inl e) = or_left (is_among (future_may f) id) false (future_less (came inbox) g f id s e)
    go id (inr e) = absurd cc

pub done_goes : (holds : Option Store) (f : FutureData) (inbox : Arrivals) (a : ArrayData) → GivesItems (came inbox) f a → Goes true holds [] (unread f inbox ∷ []) (read a ∷ [])
done_goes holds f inbox a g = record {
  stay = λ store e h. (tt, tt);
  items = λ store e h. ap (λ xs. one_part xs ++ []) (sym (g.items store h.0));
  clean = λ store e h. λ i. one_part (cond (g.clean store h.0 i) [] (sym (g.items store h.0) i)) ++ [];
  overflow = λ store e h. sym (ap (λ b. b || false) (g.within store h.0));
  damage = λ store e h. sym (ap (λ b. b || false) (g.clean store h.0));
  comes = λ test store e h c. none test store c;
  may = λ id h. absurd cc;
  dtype = λ d h. (g.dtype ∙ h.0, tt);
  reach = let r = given_reach (came inbox) f a g in omega arith;
}
  where
    none : (test : FutureData → Came → Bool) (store : Store) → SomeComesTo test store (read a ∷ []) → SomeComesTo test store (unread f inbox ∷ [])
    none test store (inl c) = absurd c
    none test store (inr c) = absurd c

lacking_not_ready : (places : List Place) (inbox : Arrivals) (r : RunData) → r.inbox ≡ inbox → AreLacking places (came inbox) r.wanted → is_ready r ≡ false
lacking_not_ready places inbox r e h = go r.wanted refl h.some
  where
    go : (ids : List ℕ) → r.wanted ≡ ids → is_any ids ≡ true → is_ready r ≡ false
    go [] i n = absurd cc
    go (x ∷ ids) i n =
        let among : is_among r.wanted x ≡ true = ap (λ xs. is_among xs x) i ∙ among_head x ids in
        let l : lacks r.inbox x ≡ true = ap (λ b. lacks b x) e ∙ lacking_lacks places inbox r.wanted h x among in
        waits_not_ready r x (and_true (is_among r.wanted x) (lacks r.inbox x) among l)
      where
        and_true : (a b : Bool) → a ≡ true → b ≡ true → (a && b) ≡ true
        and_true true b p q = q
        and_true false b p q = absurd cc

pub waits_looked : (holds : Option Store) (slots : List Slot) (p : ℕ) (y : Slot) → FoundWaits (slot_at slots p) y → Looked holds p slots (set slots p y)
waits_looked holds slots p y f = record {
  slot = y;
  now = refl;
  goes = subst (λ (k : Slot × Slot). Goes true holds [] (slot_split k.0) (slot_split k.1)) (λ i. (sym f.was i, sym f.now i))
      (subst (λ inbox. Goes true holds [] (unread f.run.future f.run.inbox ∷ []) (unread f.next.future inbox ∷ [])) (sym f.inbox) (waits_goes holds f.run.future f.next.future f.run.inbox f.same));
  settled = ap is_fresh f.now ∙ lacking_not_ready (future_wanted f.run.future (came f.run.inbox)) f.run.inbox f.next f.inbox f.lacking;
  empty = ap is_empty f.now ∙ sym (ap is_empty f.was);
}

pub done_looked : (holds : Option Store) (slots : List Slot) (p : ℕ) (y : Slot) → FoundDone (slot_at slots p) y → Looked holds p slots (set slots p y)
done_looked holds slots p y f = record {
  slot = y;
  now = refl;
  goes = subst (λ (k : Slot × Slot). Goes true holds [] (slot_split k.0) (slot_split k.1)) (λ i. (sym f.was i, sym f.now i)) (done_goes holds f.run.future f.run.inbox f.array f.gives);
  settled = ap is_fresh f.now;
  empty = ap is_empty f.now ∙ sym (ap is_empty f.was);
}

pub waits_links : (d e : Waiters) (slots : List Slot) (p : ℕ) (y : Slot) → p < length slots → Linked d slots → FoundWaits (slot_at slots p) y → Asked (wanted_in y) p d e → Linked e (set slots p y)
waits_links d e slots p y lt l f a = record { same = λ id. at_set (λ q s. waits e id q ≡ slot_waits s id) slots p y lt (here id) (others id); live = a.1 l.live }
  where
    or_false : (b : Bool) → (b || false) ≡ b
    or_false true = refl
    or_false false = refl

    and_false : (b : Bool) → (b && false) ≡ false
    and_false true = refl
    and_false false = refl

    and_true : (b : Bool) → (b && true) ≡ b
    and_true true = refl
    and_true false = refl

    lacks_all : (id : ℕ) (b : Bool) → is_among f.next.wanted id ≡ b → b ≡ (b && lacks f.next.inbox id)
    lacks_all id true n = sym (ap (λ i. lacks i id) f.inbox ∙ lacking_lacks (future_wanted f.run.future (came f.run.inbox)) f.run.inbox f.next.wanted f.lacking id n)
    lacks_all id false n = refl

    here : (id : ℕ) → waits e id p ≡ slot_waits y id
    here id =
        let on : eqb p p ≡ true = grind (arith, nat_tests) in
        a.0 id p ∙ ap (λ b. b || (is_among (wanted_in y) id && eqb p p)) (new_place d slots p y l f id) ∙ ap (λ b. is_among (wanted_in y) id && b) on ∙ and_true (is_among (wanted_in y) id)
        ∙ ap (λ s. is_among (wanted_in s) id) f.now ∙ lacks_all id (is_among f.next.wanted id) refl ∙ sym (ap (λ s. slot_waits s id) f.now)

    others : (id q : ℕ) → q ≢ p → waits e id q ≡ slot_waits (slot_at slots q) id
    others id q n =
        let off : eqb p q ≡ false = grind (arith, nat_tests) in
        a.0 id q ∙ ap (λ b. waits d id q || (is_among (wanted_in y) id && b)) off ∙ ap (λ b. waits d id q || b) (and_false (is_among (wanted_in y) id)) ∙ or_false (waits d id q) ∙ l.same id q

pub done_links : (d : Waiters) (slots : List Slot) (p : ℕ) (y : Slot) → p < length slots → Linked d slots → FoundDone (slot_at slots p) y → Linked d (set slots p y)
done_links d slots p y lt l f = record { same = λ id. at_set (λ q s. waits d id q ≡ slot_waits s id) slots p y lt (done_place d slots p y l f id ∙ sym (ap (λ s. slot_waits s id) f.now)) (λ q n. l.same id q); live = l.live }

pub waits_steps : (slots : List Slot) (p : ℕ) (y : Slot) → p < length slots → FoundWaits (slot_at slots p) y → slots_steps (set slots p y) ≤ slots_steps slots
waits_steps slots p y lt f =
    let sum = steps_set slots p y lt in
    let was = ap slot_steps f.was in
    let now = ap slot_steps f.now in
    let less = no_more (lacks f.next.inbox) (lacks f.run.inbox) (future_may f.next.future ++ f.next.wanted) (future_may f.run.future ++ f.run.wanted) inside in
    let off = lacking_not_ready (future_wanted f.run.future (came f.run.inbox)) f.run.inbox f.next f.inbox f.lacking in
    let new : run_steps f.next ≡ 3 * open_ids f.next + 1 = rw off refl in
    let old : run_steps f.run ≡ 3 * open_ids f.run + 2 = rw f.ready refl in
    omega arith
  where
    inside : (id : ℕ) → is_among (future_may f.next.future ++ f.next.wanted) id ≡ true → lacks f.next.inbox id ≡ true → (is_among (future_may f.run.future ++ f.run.wanted) id ≡ true) × (lacks f.run.inbox id ≡ true)
    inside id n m = (in_first (future_may f.run.future) f.run.wanted id (go (or_cases (is_among (future_may f.next.future) id) (is_among f.next.wanted id) (sym (among_both (future_may f.next.future) f.next.wanted id) ∙ n))), sym (ap (λ i. lacks i id) f.inbox) ∙ m)
      where
        go : (is_among (future_may f.next.future) id ≡ true) ⊎ (is_among f.next.wanted id ≡ true) → is_among (future_may f.run.future) id ≡ true
        go (inl e) = future_less (came f.run.inbox) f.next.future f.run.future id f.same e
        go (inr e) = future_named f.run.future (came f.run.inbox) id (lacking_wanted f.run.future f.run.inbox f.next.wanted id f.lacking e)

also_length : (b : Bool) (p : ℕ) (list : List ℕ) → length (also_if b p list) ≤ length list + 1
also_length true p list = let n = length-append list (p ∷ []) in omega arith
also_length false p list = omega arith

pub done_steps : (slots : List Slot) (p : ℕ) (y : Slot) (b : Bool) (done more : List ℕ) → p < length slots → FoundDone (slot_at slots p) y → more ≡ also_if b p done → slots_steps (set slots p y) + length more ≤ slots_steps slots + length done
done_steps slots p y b done more lt f m =
    let sum = steps_set slots p y lt in
    let was = ap slot_steps f.was in
    let now = ap slot_steps f.now in
    let old : run_steps f.run ≡ 3 * open_ids f.run + 2 = rw f.ready refl in
    let l = also_length b p done in
    let n = ap length m in
    omega arith

pub halts_at : (s t : SourceState) (x : Slot) (h : Halt) → HaltsAt x h → Halts s t (slot_split x) h
halts_at s t x (halt.Source id) h = absurd h
halts_at s t x (halt.Corrupt id) h = subst (λ z. Halts s t (slot_split z) (halt.Corrupt id)) (sym h.1) (λ store e k. inl (record { at = h.0.future; then = came h.0.inbox; holds = k.0; more = extends_self (came h.0.inbox); same = future_self (came h.0.inbox) h.0.future; meets = h.2 }))
halts_at s t x halt.Overflow h = subst (λ z. Halts s t (slot_split z) halt.Overflow) (sym h.1) (λ store e k. or_left (future_overflow h.0.future store) false (h.2 store k.0))
halts_at s t x halt.NoMemory h = tt
