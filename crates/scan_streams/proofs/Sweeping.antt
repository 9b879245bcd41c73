-- What arrivals do to the slots that wait for them.
use Rattle.std.proofs.Common.{◌≡◌, ◌≢◌, ℕ, ◌+◌, ◌<◌, ◌≤◌, List, [], ◌∷◌, length, set, get_or, Bool, true, false, not, ◌||◌, ◌&&◌, cond, eqb, Option, Some, None, is_none, inl, inr, refl, sym, ap, ◌∙◌, subst, arith, length-set}
use Rattle.std.specs.Prelude.{◌⊎◌, option_map, IfSome, is_some}
use Rattle.std.specs.Cmp.{nat_cmp_total}
use Rattle.std.specs.FinMap as finite
use Rattle.std.proofs.lemmas.Bool.{cases_eq}
use Rattle.std.proofs.lemmas.Bool.Decides.{nat_tests}
use Rattle.scan_segments.proofs.LiveSets.{at-id}
use Rattle.scan_segments.specs.Source.{Store, SourceState}
use Rattle.scan_values.specs.Selections.{is_among}
use Rattle.scan_splits.specs.Arrivals.{Arrivals, content}
use Rattle.scan_splits.specs.Wanted.{no_repeats}
use Rattle.scan_splits.specs.declared.inbox.Arrival.{Arrival}
use Rattle.scan_splits.specs.declared.inbox.Arrival.TheVariants as arrival
use Rattle.scan_plans.specs.Came.{Came, came, Holds}
use Rattle.scan_plans.specs.Futures.{FutureData}
use Rattle.scan_streams.specs.Runs.{lacks}
use Rattle.std.specs.Ordering.{nat_cmp}
use Rattle.std.specs.BTreeMap.{is_at}
use Rattle.scan_streams.specs.Measures.{slots_steps}
use Rattle.scan_streams.specs.Desks.{Waiters, waiters_at, is_in, Moves, Tells, live_ids, is_awaited}
use Rattle.scan_streams.specs.Slots.{slot_at, slot_split, slot_waits, handed, handed_all, AllWait, HasNews}
use Rattle.scan_streams.specs.Splits.{unread, Goes, Extends, SomeComesTo}
use Rattle.scan_streams.specs.Looks.{SlotGoes, EachGoes, PolledOne, Fetched}
use Rattle.scan_streams.specs.Readings.{Linked}
use Rattle.scan_streams.specs.declared.slot.Slot.{Slot}
use Rattle.scan_streams.specs.declared.slot.Slot.TheVariants as slot
use Rattle.scan_streams.proofs.Desking.{moved}
use Rattle.scan_streams.proofs.Running.{lacks_after}
use Rattle.scan_streams.proofs.Counting.{among_later, among_head}
use Rattle.scan_streams.proofs.Handing.{waits_within, at_set_same, at_set_other}
use Rattle.scan_streams.proofs.Looking.{extends_then}
use Rattle.scan_streams.proofs.Going.{goes_refl, goes_then}

and_both : (a b : Bool) → (a && b) ≡ true → (a ≡ true) × (b ≡ true)
and_both true b h = (refl, h)
and_both false b h = absurd cc

not_true : (b : Bool) → not b ≡ true → b ≡ false
not_true true h = absurd cc
not_true false h = refl

pub came_after : (inbox : Arrivals) (id : ℕ) (a : Arrival) (q : ℕ) → came (finite.insert inbox id a) q ≡ cond (eqb id q) (Some (content a)) (came inbox q)
came_after inbox id a q = ap (option_map content) (finite.get-insert nat_cmp_total inbox id a q ∙ ap (λ b. cond b (Some a) (finite.get inbox q)) (at-id q id)) ∙ go (eqb id q)
  where
    go : (b : Bool) → option_map content (cond b (Some a) (finite.get inbox q)) ≡ cond b (Some (content a)) (option_map content (finite.get inbox q))
    go true = refl
    go false = refl

-- a told store has what arrived
told_has : (s : SourceState) (id : ℕ) (a : Arrival) (store : Store) → s.holds ≡ Some store → Tells s id a → store id ≡ content a
told_has s id (arrival.Bytes bytes) store e t = subst (λ o. IfSome o (λ (st : Store). st id ≡ Some bytes)) e t
told_has s id arrival.Missing store e t = subst (λ o. IfSome o (λ (st : Store). st id ≡ None)) e t

pub holds_after : (store : Store) (inbox : Arrivals) (id : ℕ) (a : Arrival) → store id ≡ content a → Holds store (came inbox) → Holds store (came (finite.insert inbox id a))
holds_after store inbox id a t h q bytes is = go (eqb id q) refl (sym (came_after inbox id a q) ∙ is)
  where
    some_is : (x y : Option (List ℕ)) → Some x ≡ Some y → x ≡ y
    some_is x y e = cc

    go : (b : Bool) → eqb id q ≡ b → cond (eqb id q) (Some (content a)) (came inbox q) ≡ Some bytes → store q ≡ bytes
    go true e k =
        let same : id ≡ q = grind (arith, nat_tests) in
        let at : Some (content a) ≡ Some bytes = rw e at k in
        ap store (sym same) ∙ t ∙ some_is (content a) bytes at
    go false e k = let at : came inbox q ≡ Some bytes = rw e at k in h q bytes at

pub extends_after : (inbox : Arrivals) (id : ℕ) (a : Arrival) → lacks inbox id ≡ true → Extends (came inbox) (came (finite.insert inbox id a))
extends_after inbox id a none q bytes is = came_after inbox id a q ∙ go (eqb id q) refl
  where
    empty : (o : Option Arrival) → is_none o ≡ true → option_map content o ≡ Some bytes → ⊥
    empty None n e = absurd cc
    empty (Some x) n e = absurd cc

    go : (b : Bool) → eqb id q ≡ b → cond b (Some (content a)) (came inbox q) ≡ Some bytes
    go true e =
        let same : id ≡ q = grind (arith, nat_tests) in
        absurd (empty (finite.get inbox id) none (ap (came inbox) same ∙ is))
    go false e = is

-- a split goes on where something arrives for it
pub goes_after : (s : SourceState) (f : FutureData) (inbox : Arrivals) (id : ℕ) (a : Arrival) → lacks inbox id ≡ true → Tells s id a → Goes true s.holds [] (unread f inbox ∷ []) (unread f (finite.insert inbox id a) ∷ [])
goes_after s f inbox id a none t = record {
  stay = λ store e h. (holds_after store inbox id a (told_has s id a store e t) h.0, tt);
  items = λ store e h. refl;
  clean = λ store e h. refl;
  overflow = λ store e h. refl;
  damage = λ store e h. refl;
  comes = λ test store e h c. back test store c;
  may = λ k h. h;
  dtype = λ d h. h;
  reach = omega arith;
}
  where
    back : (test : FutureData → Came → Bool) (store : Store) → SomeComesTo test store (unread f (finite.insert inbox id a) ∷ []) → SomeComesTo test store (unread f inbox ∷ [])
    back test store (inl c) = inl (record { at = c.at; then = c.then; holds = c.holds; more = extends_then (came inbox) (came (finite.insert inbox id a)) c.then (extends_after inbox id a none) c.more; same = c.same; meets = c.meets })
    back test store (inr c) = absurd c

pub goes_handed : (s : SourceState) (x : Slot) (id : ℕ) (a : Arrival) → slot_waits x id ≡ true → Tells s id a → SlotGoes s.holds x (handed id a x)
goes_handed s slot.Empty id a w t = absurd cc
goes_handed s (slot.Done b) id a w t = absurd cc
goes_handed s (slot.Run r) id a w t = record { goes = goes_after s r.future r.inbox id a (and_both (is_among r.wanted id) (lacks r.inbox id) w).1 t; empty = refl; done = refl }

pub slot_goes_refl : (o : Option Store) (x : Slot) → SlotGoes o x x
slot_goes_refl o x = record { goes = goes_refl o true (slot_split x); empty = refl; done = refl }

-- the slot at a place, after arrivals
pub handed_at : (id : ℕ) (a : Arrival) (ps : List ℕ) (slots : List Slot) (p : ℕ) → AllWait id ps slots → no_repeats ps ≡ true → slot_at (handed_all id a ps slots) p ≡ cond (is_among ps p) (handed id a (slot_at slots p)) (slot_at slots p)
handed_at id a [] slots p w d = refl
handed_at id a (k ∷ ps) slots p w d =
    handed_at id a ps (set slots k x) p (λ q m. ap (λ y. slot_waits y id) (at_set_other slots k q x (apart q m)) ∙ w q (among_later k q ps m)) parts.1
    ∙ go (cases_eq p k)
  where
    parts : (not (is_among ps k) ≡ true) × (no_repeats ps ≡ true)
    parts = and_both (not (is_among ps k)) (no_repeats ps) d

    x : Slot
    x = handed id a (slot_at slots k)

    lt : k < length slots
    lt = waits_within slots k id (w k (among_head k ps))

    apart : (q : ℕ) → is_among ps q ≡ true → q ≢ k
    apart q m e = let bad = sym m ∙ ap (is_among ps) e ∙ not_true (is_among ps k) parts.0 in absurd cc

    go : (p ≡ k) ⊎ (p ≢ k) → cond (is_among ps p) (handed id a (slot_at (set slots k x) p)) (slot_at (set slots k x) p) ≡ cond (is_among (k ∷ ps) p) (handed id a (slot_at slots p)) (slot_at slots p)
    go (inl e) =
        let on : eqb k k ≡ true = grind (arith, nat_tests) in
        rw (e, not_true (is_among ps k) parts.0, on, at_set_same slots k x lt) refl
    go (inr n) =
        let off : eqb k p ≡ false = grind (arith, nat_tests) in
        rw (off, at_set_other slots k p x n) refl

pub handed_length : (id : ℕ) (a : Arrival) (ps : List ℕ) (slots : List Slot) → length (handed_all id a ps slots) ≡ length slots
handed_length id a [] slots = refl
handed_length id a (p ∷ ps) slots = handed_length id a ps (set slots p (handed id a (slot_at slots p))) ∙ length-set slots p (handed id a (slot_at slots p))

pub each_goes : (s : SourceState) (id : ℕ) (a : Arrival) (ps : List ℕ) (slots : List Slot) → AllWait id ps slots → no_repeats ps ≡ true → Tells s id a → EachGoes s.holds slots (handed_all id a ps slots)
each_goes s id a ps slots w d t = record {
  len = handed_length id a ps slots;
  at = λ p. subst (SlotGoes s.holds (slot_at slots p)) (sym (handed_at id a ps slots p w d)) (go p (is_among ps p) refl);
}
  where
    go : (p : ℕ) (b : Bool) → is_among ps p ≡ b → SlotGoes s.holds (slot_at slots p) (cond b (handed id a (slot_at slots p)) (slot_at slots p))
    go p true e = goes_handed s (slot_at slots p) id a (w p e) t
    go p false e = slot_goes_refl s.holds (slot_at slots p)

waits_handed : (x : Slot) (id : ℕ) (a : Arrival) (q : ℕ) → slot_waits (handed id a x) q ≡ cond (eqb id q) false (slot_waits x q)
waits_handed slot.Empty id a q = go (eqb id q)
  where
    go : (b : Bool) → false ≡ cond b false false
    go true = refl
    go false = refl
waits_handed (slot.Done x) id a q = go (eqb id q)
  where
    go : (b : Bool) → false ≡ cond b false false
    go true = refl
    go false = refl
waits_handed (slot.Run r) id a q = ap (λ b. is_among r.wanted q && b) (lacks_after r.inbox id a q) ∙ go (eqb id q) (is_among r.wanted q) (lacks r.inbox q)
  where
    go : (b c d : Bool) → (c && cond b false d) ≡ cond b false (c && d)
    go true true d = refl
    go true false d = refl
    go false c d = refl

-- those that waited for what arrived wait for it
pub wait_all : (id : ℕ) (places : List ℕ) (d : Waiters) (slots : List Slot) → Linked d slots → waiters_at d id ≡ Some places → AllWait id places slots
wait_all id places d slots l is p m = sym (l.same id p) ∙ ap (λ o. is_in o p) is ∙ m

pub links_after : (id : ℕ) (a : Arrival) (places : List ℕ) (d e : Waiters) (slots : List Slot) → Linked d slots → waiters_at d id ≡ Some places → Moves id None d e → no_repeats places ≡ true → Linked e (handed_all id a places slots)
links_after id a places d e slots l is m once = record {
  same = λ q p.
      ap (λ o. is_in o p) (moved id None d e m q)
      ∙ go q p (eqb q id) refl (is_among places p) refl
      ∙ sym (ap (λ x. slot_waits x q) (handed_at id a places slots p (wait_all id places d slots l is) once));
  live = λ q. ap is_awaited (moved id None d e m q) ∙ gone q (eqb q id);
}
  where
    gone : (q : ℕ) (b : Bool) → is_awaited (cond b None (waiters_at d q)) ≡ true
    gone q true = refl
    gone q false = l.live q

    go : (q p : ℕ) (b : Bool) → eqb q id ≡ b → (c : Bool) → is_among places p ≡ c → is_in (cond b None (waiters_at d q)) p ≡ slot_waits (cond c (handed id a (slot_at slots p)) (slot_at slots p)) q
    go q p true g true n =
        let on : eqb id q ≡ true = grind (arith, nat_tests) in
        sym (waits_handed (slot_at slots p) id a q ∙ ap (λ b. cond b false (slot_waits (slot_at slots p) q)) on)
    go q p true g false n =
        let same : q ≡ id = grind (arith, nat_tests) in
        sym (ap (slot_waits (slot_at slots p)) same ∙ sym (l.same id p) ∙ ap (λ o. is_in o p) is ∙ n)
    go q p false g true n =
        let off : eqb id q ≡ false = grind (arith, nat_tests) in
        l.same q p ∙ sym (waits_handed (slot_at slots p) id a q ∙ ap (λ b. cond b false (slot_waits (slot_at slots p) q)) off)
    go q p false g false n = l.same q p

pub each_then : (o : Option Store) (a b c : List Slot) → EachGoes o a b → EachGoes o b c → EachGoes o a c
each_then o a b c g h = record {
  len = h.len ∙ g.len;
  at = λ p. record {
    goes = goes_then o true [] (slot_split (slot_at a p)) (slot_split (slot_at b p)) (slot_split (slot_at c p)) (g.at p).goes (h.at p).goes;
    empty = (h.at p).empty ∙ (g.at p).empty;
    done = (h.at p).done ∙ (g.at p).done;
  };
}

-- what polls of some of the ids did
pub record Sweeps (ids : List ℕ) (i : ℕ) (came : Bool) (old now : List Slot) (news later : List ℕ) (d e : Waiters) (s t : SourceState) : Type 0 where
  pub goes : EachGoes s.holds old now
  pub has : HasNews old news → HasNews now later
  pub nearer : came ≡ true → slots_steps now + length later < slots_steps old + length news
  pub slots_stay : came ≡ false → now ≡ old
  pub news_stay : came ≡ false → later ≡ news
  pub desk_stays : came ≡ false → e ≡ d
  pub put_off : came ≡ false → 0 < i → is_some (waiters_at d (get_or ids 0 0)) ≡ true → t.turns < s.turns

pub sweeps_next : (ids : List ℕ) (i id : ℕ) (came one : Bool) (old now next : List Slot) (news later more : List ℕ) (d e f : Waiters) (s t u : SourceState) → t.holds ≡ s.holds → t.turns ≤ s.turns → u.turns ≤ t.turns → EachGoes t.holds now next
    → (HasNews now later → HasNews next more) → PolledOne one id now next later more e f t u → Sweeps ids i came old now news later d e s t → Sweeps ids (i + 1) (came || one) old next news more d f s u
sweeps_next ids i id came true old now next news later more d e f s t u held fell fell' g n p h = record {
  goes = each_then s.holds old now next h.goes (subst (λ o. EachGoes o now next) held g);
  has = λ k. n (h.has k);
  nearer = λ _. near came h.nearer h.slots_stay h.news_stay;
  slots_stay = λ c. absurd (not_false came c);
  news_stay = λ c. absurd (not_false came c);
  desk_stays = λ c. absurd (not_false came c);
  put_off = λ c. absurd (not_false came c);
}
  where
    not_false : (b : Bool) → (b || true) ≡ false → ⊥
    not_false true c = absurd cc
    not_false false c = absurd cc

    near : (b : Bool) → (b ≡ true → slots_steps now + length later < slots_steps old + length news) → (b ≡ false → now ≡ old) → (b ≡ false → later ≡ news) → slots_steps next + length more < slots_steps old + length news
    near true k q r = let x = k refl in omega (arith, p, x)
    near false k q r = let x = ap slots_steps (q refl) in let y = ap length (r refl) in omega (arith, p, x, y)
sweeps_next ids i id came false old now next news later more d e f s t u held fell fell' g n p h = record {
  goes = each_then s.holds old now next h.goes (subst (λ o. EachGoes o now next) held g);
  has = λ k. n (h.has k);
  nearer = λ c. let k = h.nearer (is came true c) in let x = ap slots_steps p.0 in let y = ap length p.1 in omega (arith, k, x, y);
  slots_stay = λ c. p.0 ∙ h.slots_stay (is came false c);
  news_stay = λ c. p.1 ∙ h.news_stay (is came false c);
  desk_stays = λ c. p.2 ∙ h.desk_stays (is came false c);
  put_off = λ c lt live. let k = p.3 in omega (arith, k, fell);
}
  where
    is : (a b : Bool) → (a || false) ≡ b → a ≡ b
    is true b c = c
    is false b c = c

first_live : (d : Waiters) → (d ≡ [] → ⊥) → is_some (waiters_at d (get_or (live_ids d) 0 0)) ≡ true
first_live [] h = absurd (h refl)
first_live (x ∷ d) h = let on : is_at (nat_cmp x.0) x.0 ≡ true = at-id x.0 x.0 ∙ grind (arith, nat_tests) in ap (λ b. is_some (cond b (Some x.1) (waiters_at d x.0))) on

pub sweeps_all : (ids : List ℕ) (i : ℕ) (came : Bool) (old now : List Slot) (news later : List ℕ) (d e : Waiters) (s t : SourceState) → ids ≡ live_ids d → length ids ≤ i → Sweeps ids i came old now news later d e s t → Fetched came old now news later d s t
sweeps_all ids i true old now news later d e s t is le h = h.nearer refl
sweeps_all ids i false old now news later d e s t is le h = (h.slots_stay refl, h.news_stay refl, λ some. h.put_off refl (within d some is) (subst (λ xs. is_some (waiters_at d (get_or xs 0 0)) ≡ true) (sym is) (first_live d some)))
  where
    within : (k : Waiters) → (k ≡ [] → ⊥) → ids ≡ live_ids k → 0 < i
    within [] n q = absurd (n refl)
    within (x ∷ k) n q = let l = ap length q in omega (arith, l, le)
