-- What a step does.
use Rattle.std.proofs.Common.{◌≡◌, ℕ, ◌+◌, ◌<◌, ◌≤◌, List, [], ◌∷◌, ◌++◌, length, set, map, Bool, true, false, Option, Some, None, Result, Ok, Err, IfOk, inl, inr, refl, sym, ap, ◌∙◌, subst, arith, length-append}
use Rattle.std.specs.Prelude.{IfErr}
use Rattle.std.proofs.lemmas.List.{length-set}
use Rattle.scan_segments.specs.Source.{Store, SourceState}
use Rattle.scan_values.specs.Arrays.{ArrayData}
use Rattle.scan_values.specs.Val.{marked}
use Rattle.scan_values.specs.Selections.{is_among}
use Rattle.scan_plans.specs.Futures.{FutureData}
use Rattle.scan_streams.specs.Advances.{LooksAtSlot, LooksOn, FetchesLive, FetchesOn, Advances}
use Rattle.scan_streams.specs.Looks.{Looked, Gives, GivesSlot, MayAsk, Halts, Steps, step_items}
use Rattle.scan_streams.specs.Measures.{slots_steps, queue_steps, slot_steps, steps_left}
use Rattle.scan_streams.specs.Readings.{splits_in, splits_of, Standing, ListsDone, Keeps, TakesNews, IsNews, IsTurn, next_slot, later, news_of, turn_after}
use Rattle.scan_streams.specs.Slots.{slot_at, slot_split, is_done}
use Rattle.scan_streams.specs.Sources.{SourceMoves}
use Rattle.scan_streams.specs.Splits.{SplitData, read, Goes, AllOf}
use Rattle.scan_streams.specs.declared.fault.Halt.{Halt}
use Rattle.scan_streams.specs.declared.reading.Reading.{Reading}
use Rattle.scan_streams.specs.declared.reading.Step.{Step}
use Rattle.scan_streams.specs.declared.reading.Step.TheVariants as step
use Rattle.scan_streams.specs.declared.slot.Slot.{Slot}
use Rattle.scan_streams.specs.declared.slot.Slot.TheVariants as slot
use Rattle.scan_streams.proofs.Going.{goes_same, goes_then}
use Rattle.scan_streams.proofs.Handing.{steps_set}
use Rattle.scan_streams.proofs.Packing.{looked_length, looked_goes, lists_less}
use Rattle.scan_streams.proofs.Parting.{part_slot, moves_whole, halts_whole}
use Rattle.scan_streams.proofs.Ringing.{done_within, given_first}
use Rattle.scan_streams.proofs.Standing.{Stands, Parts, stands_of, standing, stands_look, stands_fetch, stands_give, none_left}
use Rattle.scan_streams.proofs.Turning.{goes_slots, goes_each, goes_pop}

-- the splits of a reading, by its parts
splits_are : (a : Reading) (k : ℕ) (xs : List Slot) (fs : List FutureData) → a.head ≡ k → a.slots.items ≡ xs → a.queue ≡ fs → splits_of a ≡ splits_in k xs fs
splits_are a k xs fs h s q = λ i. splits_in (h i) (s i) (q i)

keeps_splits : (old mid : Reading) → Keeps old mid → splits_of mid ≡ splits_of old
keeps_splits old mid k = splits_are mid old.head old.slots.items old.queue k.head k.slots k.queue

keeps_standing : (old mid : Reading) → Keeps old mid → Standing old → Standing mid
keeps_standing old mid k h = standing mid old.ordered old.head old.slots.items old.queue old.news.items old.done.items old.desk (record { ordered = k.ordered; head = k.head; slots = k.slots; queue = k.queue; news = k.news; done = k.done; desk = k.desk }) (stands_of old h)

-- ---- a look at a slot with news
look_advances : (place : ℕ) (old mid new : Reading) (s t : SourceState) → Standing old → TakesNews old mid place → LooksAtSlot s.holds place mid new → Advances step.More old new s t
look_advances place old mid new s t h n l = record {
  stands = standing new old.ordered old.head new.slots.items old.queue mid.news.items new.done.items new.desk (record { ordered = l.ordered ∙ n.ordered; head = l.head ∙ n.head; slots = refl; queue = l.queue ∙ n.queue; news = l.news; done = refl; desk = refl })
      (stands_look old.ordered old.head place old.slots.items new.slots.items old.queue mid.news.items old.done.items new.done.items old.desk new.desk s.holds
      (subst (λ ns. Stands old.ordered old.head old.slots.items old.queue ns old.done.items old.desk) n.news (stands_of old h)) looked l.links (subst (λ o. ListsDone o new.slots.items new.done.items) n.ordered l.lists));
  goes = subst (Goes old.ordered s.holds [] (splits_of old)) (sym (splits_are new old.head new.slots.items old.queue (l.head ∙ n.head) refl (l.queue ∙ n.queue)))
      (goes_slots s.holds old.ordered old.head old.slots.items new.slots.items old.queue (looked_length s.holds place old.slots.items new.slots.items looked) (looked_goes s.holds place old.slots.items new.slots.items looked));
  nearer =
      let a = l.steps in
      let b = ap slots_steps n.slots in
      let c = ap length n.done in
      let d = ap queue_steps (l.queue ∙ n.queue) in
      let e = ap length l.news in
      let f = ap length n.news in
      omega (arith, a, b, c, d, e, f);
  dtype = λ d all. tt;
  begun = looked_length s.holds place old.slots.items new.slots.items looked;
}
  where
    looked : Looked s.holds place old.slots.items new.slots.items
    looked = subst (λ xs. Looked s.holds place xs new.slots.items) n.slots l.looked

pub look_step : (r : Result Step Halt) (place : ℕ) (old mid new : Reading) (s t : SourceState) → Standing old → TakesNews old mid place → IfOk r (λ x. LooksOn s.holds place mid new x) → IfOk r (λ x. Advances x old new s t)
look_step (Err e) place old mid new s t h n l = tt
look_step (Ok step.More) place old mid new s t h n l = look_advances place old mid new s t h n l
look_step (Ok (step.Array a)) place old mid new s t h n l = absurd l
look_step (Ok step.Pending) place old mid new s t h n l = absurd l
look_step (Ok step.End) place old mid new s t h n l = absurd l

pub look_source : (place : ℕ) (old mid : Reading) (holds : Option Store) (s t : SourceState) → TakesNews old mid place → SourceMoves (MayAsk holds (slot_split (slot_at mid.slots.items place))) s t → SourceMoves (MayAsk holds (splits_of old)) s t
look_source place old mid holds s t n m = moves_whole (slot_split (slot_at old.slots.items place)) (splits_of old) (part_slot old.head old.slots.items old.queue place) holds s t (subst (λ xs. SourceMoves (MayAsk holds (slot_split (slot_at xs place))) s t) n.slots m)

pub look_halts : (r : Result Step Halt) (place : ℕ) (old mid : Reading) (s t : SourceState) → TakesNews old mid place → IfErr r (λ x. Halts s t (slot_split (slot_at mid.slots.items place)) x) → IfErr r (λ x. Halts s t (splits_of old) x)
look_halts (Ok x) place old mid s t n h = tt
look_halts (Err x) place old mid s t n h = halts_whole (slot_split (slot_at old.slots.items place)) (splits_of old) (part_slot old.head old.slots.items old.queue place) s t x (subst (λ xs. Halts s t (slot_split (slot_at xs place)) x) n.slots h)

-- ---- where nothing has news
no_news : (o : Option ℕ) (old mid : Reading) → ((x : ℕ) → o ≡ Some x → ⊥) → IsNews old mid o → Keeps old mid × (old.news.items ≡ [])
no_news None old mid n h = h
no_news (Some x) old mid n h = absurd (n x refl)

no_turn : (o : Option ℕ) (old mid : Reading) → ((x : ℕ) → o ≡ Some x → ⊥) → IsTurn old mid o → IsTurn old mid None
no_turn None old mid n h = h
no_turn (Some x) old mid n h = absurd (n x refl)

keeps_steps : (old mid : Reading) → Keeps old mid → steps_left mid ≡ steps_left old
keeps_steps old mid k = λ i. (slots_steps (k.slots i) + queue_steps (k.queue i)) + (length (k.news i) + length (k.done i))

nearer_after : (x : Step) (old mid new : Reading) (s t : SourceState) → Keeps old mid → Steps x mid new s t → Steps x old new s t
nearer_after step.More old mid new s t k h = subst (λ n. steps_left new < n) (keeps_steps old mid k) h
nearer_after (step.Array a) old mid new s t k h = subst (λ n. steps_left new < n) (keeps_steps old mid k) h
nearer_after step.Pending old mid new s t k h = h
nearer_after step.End old mid new s t k h = h

-- a step of a reading that is as before
advances_after : (x : Step) (old mid new : Reading) (s t : SourceState) → Keeps old mid → Advances x mid new s t → Advances x old new s t
advances_after x old mid new s t k h = record {
  stands = h.stands;
  goes = subst (λ (z : Bool × List SplitData). Goes z.0 s.holds (step_items x) z.1 (splits_of new)) (λ i. (k.ordered i, keeps_splits old mid k i)) h.goes;
  nearer = nearer_after x old mid new s t k h.nearer;
  dtype = λ d all. h.dtype d (subst (AllOf d) (sym (keeps_splits old mid k)) all);
  begun = h.begun ∙ ap length k.slots;
}

-- ---- an array whose turn it is
-- the slot whose turn it is, and what stays
record Turned (old mid : Reading) (place : ℕ) : Type 0 where
  pub at : old.ordered ≡ true → place ≡ old.head
  pub is : old.ordered ≡ true → is_done (slot_at old.slots.items place) ≡ true
  pub first : old.ordered ≡ false → old.done.items ≡ place ∷ mid.done.items
  pub fewer : length mid.done.items ≤ length old.done.items
  pub slots : mid.slots.items ≡ old.slots.items
  pub queue : mid.queue ≡ old.queue
  pub head : mid.head ≡ old.head
  pub news : mid.news.items ≡ old.news.items
  pub desk : mid.desk ≡ old.desk
  pub ordered : mid.ordered ≡ old.ordered

turned : (place : ℕ) (old mid : Reading) → IsTurn old mid (Some place) → Turned old mid place
turned place old mid (inl h) =
    subst (λ (m : Reading). Turned old m place) (sym h.same) (record {
      at = λ e. h.at;
      is = λ e. ap (λ p. is_done (slot_at old.slots.items p)) h.at ∙ h.done;
      first = λ e. let bad : true ≡ false = sym h.ordered ∙ e in absurd cc;
      fewer = omega arith;
      slots = refl;
      queue = refl;
      head = refl;
      news = refl;
      desk = refl;
      ordered = refl;
    })
turned place old mid (inr h) =
    let t = h.1 in
    record {
      at = λ e. let bad : true ≡ false = sym e ∙ h.0 in absurd cc;
      is = λ e. let bad : true ≡ false = sym e ∙ h.0 in absurd cc;
      first = λ e. t.done;
      fewer = let n = ap length t.done in omega (arith, n);
      slots = t.slots;
      queue = t.queue;
      head = t.head;
      news = t.news;
      desk = t.desk;
      ordered = t.ordered;
    }

next_steps : (fs : List FutureData) (place : ℕ) → slot_steps (next_slot fs) + queue_steps (later fs) + length (news_of fs place) ≤ queue_steps fs
next_steps [] place = omega arith
next_steps (f ∷ fs) place = omega arith

give_advances : (place : ℕ) (a : ArrayData) (old mid new : Reading) (s : SourceState) → Standing old → Turned old mid place → GivesSlot place a mid new → Advances (step.Array a) old new s s
give_advances place a old mid new s h t g = record {
  stands = standing new old.ordered (turn_after old.ordered old.head (length old.slots.items)) (set old.slots.items place (next_slot old.queue)) (later old.queue) (old.news.items ++ news_of old.queue place) new.done.items old.desk
      (record { ordered = g.ordered ∙ t.ordered; head = head; slots = slots; queue = g.queue ∙ ap later t.queue; news = news; done = refl; desk = g.desk ∙ t.desk })
      (stands_give old.ordered old.head place old.slots.items a old.queue old.news.items old.done.items new.done.items old.desk (stands_of old h) is t.at (λ e. t.first e ∙ ap (λ ds. place ∷ ds) (sym g.done)));
  goes = goes_then s.holds old.ordered (map marked a.items) (splits_of old) (read a ∷ splits_of new) (splits_of new) first (goes_pop s.holds old.ordered a (splits_of new));
  nearer =
      let sum = steps_set old.slots.items place (next_slot old.queue) lt in
      let one = ap slot_steps is in
      let more = next_steps old.queue place in
      let x = ap slots_steps slots in
      let y = ap queue_steps (g.queue ∙ ap later t.queue) in
      let z = ap length news in
      let n = length-append old.news.items (news_of old.queue place) in
      let d = ap length g.done in
      let e = t.fewer in
      omega (arith, sum, one, more, x, y, z, n, d, e);
  dtype = λ d all. (first.dtype d all).0;
  begun = ap length slots ∙ length-set old.slots.items place (next_slot old.queue);
}
  where
    is : slot_at old.slots.items place ≡ slot.Done a
    is = ap (λ xs. slot_at xs place) (sym t.slots) ∙ g.was

    lt : place < length old.slots.items
    lt = done_within old.slots.items place (ap is_done is)

    head : new.head ≡ turn_after old.ordered old.head (length old.slots.items)
    head = g.head ∙ (λ i. turn_after (t.ordered i) (t.head i) (length (t.slots i)))

    slots : new.slots.items ≡ set old.slots.items place (next_slot old.queue)
    slots = g.slots ∙ (λ i. set (t.slots i) place (next_slot (t.queue i)))

    news : new.news.items ≡ old.news.items ++ news_of old.queue place
    news = g.news ∙ (λ i. t.news i ++ news_of (t.queue i) place)

    first : Goes old.ordered s.holds [] (splits_of old) (read a ∷ splits_of new)
    first =
        subst (λ ss. Goes old.ordered s.holds [] (splits_of old) (read a ∷ ss))
        (sym (splits_are new (turn_after old.ordered old.head (length old.slots.items)) (set old.slots.items place (next_slot old.queue)) (later old.queue) head slots (g.queue ∙ ap later t.queue)))
        (given_first s.holds old.ordered old.head place old.slots.items a old.queue lt is t.at h.still)

-- the slot that was listed is no array
pass_advances : (place : ℕ) (old mid new : Reading) (s : SourceState) → Standing old → Turned old mid place → Keeps mid new → is_done (slot_at mid.slots.items place) ≡ false → Advances step.More old new s s
pass_advances place old mid new s h t k off = go old.ordered refl
  where
    none : is_done (slot_at old.slots.items place) ≡ false
    none = ap (λ xs. is_done (slot_at xs place)) (sym t.slots) ∙ off

    all : Parts new old.ordered old.head old.slots.items old.queue old.news.items mid.done.items old.desk
    all = record { ordered = k.ordered ∙ t.ordered; head = k.head ∙ t.head; slots = k.slots ∙ t.slots; queue = k.queue ∙ t.queue; news = k.news ∙ t.news; done = k.done; desk = k.desk ∙ t.desk }

    splits : splits_of new ≡ splits_of old
    splits = splits_are new old.head old.slots.items old.queue (k.head ∙ t.head) (k.slots ∙ t.slots) (k.queue ∙ t.queue)

    stands : old.ordered ≡ false → Stands old.ordered old.head old.slots.items old.queue old.news.items mid.done.items old.desk
    stands e = record {
      links = h.links;
      has = h.news;
      lists = λ f. lists_less old.slots.items place mid.done.items none (subst (λ ds. (q : ℕ) → is_done (slot_at old.slots.items q) ≡ true → is_among ds q ≡ true) (t.first e) (h.done e));
      turn = h.turn;
      full = h.full;
      packed = h.packed;
      still = h.still;
    }

    go : (b : Bool) → old.ordered ≡ b → Advances step.More old new s s
    go true e = let bad : true ≡ false = sym (t.is e) ∙ none in absurd cc
    go false e = record {
      stands = standing new old.ordered old.head old.slots.items old.queue old.news.items mid.done.items old.desk all (stands e);
      goes = goes_same s.holds old.ordered (splits_of old) (splits_of new) (sym splits);
      nearer =
          let x = ap slots_steps (k.slots ∙ t.slots) in
          let y = ap queue_steps (k.queue ∙ t.queue) in
          let z = ap length (k.news ∙ t.news) in
          let d = ap length k.done in
          let f = ap length (t.first e) in
          omega (arith, x, y, z, d, f);
      dtype = λ d all. tt;
      begun = ap length (k.slots ∙ t.slots);
    }

gives_advances : (x : Step) (place : ℕ) (old mid new : Reading) (s : SourceState) → Standing old → Turned old mid place → Gives place mid new x → Advances x old new s s
gives_advances step.More place old mid new s h t g = pass_advances place old mid new s h t g.0 g.1
gives_advances (step.Array a) place old mid new s h t g = give_advances place a old mid new s h t g
gives_advances step.Pending place old mid new s h t g = absurd g
gives_advances step.End place old mid new s h t g = absurd g

pub give_step : (r : Result Step Halt) (o : Option ℕ) (place : ℕ) (old kept mid new : Reading) (s : SourceState) → Standing old → ((x : ℕ) → o ≡ Some x → ⊥) → IsNews old kept o → IsTurn kept mid (Some place) → IfOk r (λ x. Gives place mid new x) → IfOk r (λ x. Advances x old new s s)
give_step (Err e) o place old kept mid new s h n k t g = tt
give_step (Ok x) o place old kept mid new s h n k t g =
    let kept_is = (no_news o old kept n k).0 in
    advances_after x old kept new s s kept_is (gives_advances x place kept mid new s (keeps_standing old kept kept_is h) (turned place kept mid t) g)

pub turn_desk : (o : Option ℕ) (place : ℕ) (old kept mid : Reading) → ((x : ℕ) → o ≡ Some x → ⊥) → IsNews old kept o → IsTurn kept mid (Some place) → mid.desk ≡ old.desk
turn_desk o place old kept mid n k t = (turned place kept mid t).desk ∙ (no_news o old kept n k).0.desk

pub turn_ordered : (o : Option ℕ) (place : ℕ) (old kept mid : Reading) → ((x : ℕ) → o ≡ Some x → ⊥) → IsNews old kept o → IsTurn kept mid (Some place) → mid.ordered ≡ old.ordered
turn_ordered o place old kept mid n k t = (turned place kept mid t).ordered ∙ (no_news o old kept n k).0.ordered

-- ---- where no array has its turn
keeps_then : (a b c : Reading) → Keeps a b → Keeps b c → Keeps a c
keeps_then a b c h k = record { slots = k.slots ∙ h.slots; queue = k.queue ∙ h.queue; head = k.head ∙ h.head; news = k.news ∙ h.news; done = k.done ∙ h.done; desk = k.desk ∙ h.desk; ordered = k.ordered ∙ h.ordered }

pub end_step : (o p : Option ℕ) (old kept new : Reading) (s : SourceState) → Standing old → ((x : ℕ) → o ≡ Some x → ⊥) → IsNews old kept o → ((x : ℕ) → p ≡ Some x → ⊥) → IsTurn kept new p → new.desk ≡ [] → Advances step.End old new s s
end_step o p old kept new s h n k m t none =
    let a = no_news o old kept n k in
    let b = no_turn p kept new m t in
    let all = keeps_then old kept new a.0 b.0 in
    record {
      stands = keeps_standing old new all h;
      goes = goes_same s.holds old.ordered (splits_of old) (splits_of new) (sym (keeps_splits old new all));
      nearer =
          keeps_splits old new all ∙ none_left old.ordered old.head old.slots.items old.queue old.news.items old.done.items old.desk (stands_of old h) a.1 (sym all.desk ∙ none)
          (subst (λ (z : Bool × (List Slot × ℕ)). z.0 ≡ true → is_done (slot_at z.1.0 z.1.1) ≡ false) (λ i. (a.0.ordered i, (a.0.slots i, a.0.head i))) b.1)
          (subst (λ (z : Bool × List ℕ). z.0 ≡ false → z.1 ≡ []) (λ i. (a.0.ordered i, a.0.done i)) b.2);
      dtype = λ d h. tt;
      begun = ap length all.slots;
    }

live_standing : (came : Bool) (old new : Reading) (s t : SourceState) → Standing old → FetchesLive came old new s t → Standing new
live_standing came old new s t h f =
    standing new old.ordered old.head new.slots.items old.queue new.news.items old.done.items new.desk (record { ordered = f.ordered; head = f.head; slots = refl; queue = f.queue; news = refl; done = f.done; desk = refl })
    (stands_fetch old.ordered old.head old.slots.items new.slots.items old.queue old.news.items new.news.items old.done.items old.desk new.desk s.holds (stands_of old h) f.goes f.links f.has)

live_goes : (came : Bool) (old new : Reading) (s t : SourceState) → FetchesLive came old new s t → Goes old.ordered s.holds [] (splits_of old) (splits_of new)
live_goes came old new s t f =
    subst (Goes old.ordered s.holds [] (splits_of old)) (sym (splits_are new old.head new.slots.items old.queue f.head refl f.queue)) (goes_each s.holds old.ordered old.head old.slots.items new.slots.items old.queue f.goes)

fetch_advances : (x : Step) (old new : Reading) (s t : SourceState) → Standing old → (old.desk ≡ [] → ⊥) → FetchesOn old new s t x → Advances x old new s t
fetch_advances step.More old new s t h some f = record {
  stands = live_standing true old new s t h f;
  goes = live_goes true old new s t f;
  nearer = let a = f.fetched in let b = ap queue_steps f.queue in let c = ap length f.done in omega (arith, a, b, c);
  dtype = λ d all. tt;
  begun = (f.goes).len;
}
fetch_advances step.Pending old new s t h some f = record {
  stands = live_standing false old new s t h f;
  goes = live_goes false old new s t f;
  nearer = f.fetched.2 some;
  dtype = λ d all. tt;
  begun = (f.goes).len;
}
fetch_advances (step.Array a) old new s t h some f = absurd f
fetch_advances step.End old new s t h some f = absurd f

pub fetch_step : (r : Result Step Halt) (o p : Option ℕ) (old kept mid new : Reading) (s t : SourceState)
    → Standing old → ((x : ℕ) → o ≡ Some x → ⊥) → IsNews old kept o → ((x : ℕ) → p ≡ Some x → ⊥) → IsTurn kept mid p → (mid.desk ≡ [] → ⊥) → IfOk r (λ x. FetchesOn mid new s t x) → IfOk r (λ x. Advances x old new s t)
fetch_step (Err e) o p old kept mid new s t h n k m u some f = tt
fetch_step (Ok x) o p old kept mid new s t h n k m u some f =
    let all = keeps_then old kept mid (no_news o old kept n k).0 (no_turn p kept mid m u).0 in
    advances_after x old mid new s t all (fetch_advances x mid new s t (keeps_standing old mid all h) some f)
