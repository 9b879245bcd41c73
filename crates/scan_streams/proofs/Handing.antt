-- What has arrived is handed to the slots that wait for it.
use Rattle.std.proofs.Common.{◌≡◌, ◌≢◌, ℕ, suc, zero, ◌+◌, ◌*◌, ◌<◌, ◌≤◌, List, [], ◌∷◌, ◌++◌, length, drop, set, get_or, Bool, true, false, not, ◌&&◌, ◌||◌, cond, eqb, inl, inr, refl, sym, ap, ◌∙◌, subst, arith, length-append, get_or-set_same, get_or-set_other}
use Rattle.std.specs.Prelude.{◌⊎◌, filter, if◌then◌else◌}
use Rattle.std.proofs.lemmas.Bool.{cases_eq}
use Rattle.std.proofs.lemmas.Bool.Decides.{nat_tests}
use Rattle.std.proofs.lemmas.List.{get_or_past}
use Rattle.scan_values.specs.Selections.{is_among}
use Rattle.scan_splits.specs.declared.inbox.Arrival.{Arrival}
use Rattle.scan_splits.specs.Wanted.{no_repeats}
use Rattle.scan_plans.specs.Futures.{future_may}
use Rattle.scan_streams.specs.Runs.{RunData, lacks, run_waits, is_ready, with_arrival}
use Rattle.scan_streams.specs.Measures.{open_ids, slot_steps, slots_steps}
use Rattle.scan_streams.specs.Slots.{slot_at, slot_waits, is_fresh, handed, handed_all, AllWait, HasNews, also_if}
use Rattle.scan_streams.specs.declared.slot.Slot.{Slot}
use Rattle.scan_streams.specs.declared.slot.Slot.TheVariants as slot
use Rattle.scan_streams.proofs.Desking.{among_snoc}
use Rattle.scan_streams.proofs.Running.{lacks_after}
use Rattle.scan_streams.proofs.Counting.{among_later, among_head, fewer}

pub le_or_lt : (a b : ℕ) → (a ≤ b) ⊎ (b < a)
le_or_lt a b = go (cases a b)
  where
    cases : (x y : ℕ) → (x ≤ y) ⊎ (y < x)
    cases x y = grind arith

    go : (a ≤ b) ⊎ (b < a) → (a ≤ b) ⊎ (b < a)
    go h = h

-- a slot that waits is within the list
pub waits_within : (slots : List Slot) (p id : ℕ) → slot_waits (slot_at slots p) id ≡ true → p < length slots
waits_within slots p id h = go (le_or_lt (length slots) p)
  where
    go : (length slots ≤ p) ⊎ (p < length slots) → p < length slots
    go (inr lt) = lt
    go (inl le) = let past = get_or_past slots p slot.Empty le in let bad : false ≡ true = sym (ap (λ s. slot_waits s id) past) ∙ h in absurd cc

pub at_set_other : (slots : List Slot) (p q : ℕ) (s : Slot) → q ≢ p → slot_at (set slots p s) q ≡ slot_at slots q
at_set_other slots p q s n = get_or-set_other slots p q s slot.Empty n

pub at_set_same : (slots : List Slot) (p : ℕ) (s : Slot) → p < length slots → slot_at (set slots p s) p ≡ s
at_set_same slots p s lt = get_or-set_same slots p s slot.Empty lt

-- what is true of a slot that was set and of the others is true of each
pub at_set : (P : ℕ → Slot → Type 0) (slots : List Slot) (p : ℕ) (s : Slot) → p < length slots → P p s → ((q : ℕ) → q ≢ p → P q (slot_at slots q)) → (q : ℕ) → P q (slot_at (set slots p s) q)
at_set P slots p s lt here others q = go (cases_eq q p)
  where
    go : (q ≡ p) ⊎ (q ≢ p) → P q (slot_at (set slots p s) q)
    go (inl is) = subst (λ k. P k (slot_at (set slots p s) k)) (sym is) (subst (P p) (sym (at_set_same slots p s lt)) here)
    go (inr other) = subst (P q) (sym (at_set_other slots p q s other)) (others q other)

-- the steps of a list of which one slot is another
pub steps_set : (slots : List Slot) (p : ℕ) (s : Slot) → p < length slots → slots_steps (set slots p s) + slot_steps (slot_at slots p) ≡ slots_steps slots + slot_steps s
steps_set [] p s lt = absurd (omega arith)
steps_set (x ∷ slots) zero s lt = omega arith
steps_set (x ∷ slots) (suc p) s lt = let ih = steps_set slots p s (omega arith) in omega arith

and_both : (a b : Bool) → (a && b) ≡ true → (a ≡ true) × (b ≡ true)
and_both true b h = (refl, h)
and_both false b h = absurd cc

not_true : (b : Bool) → not b ≡ true → b ≡ false
not_true true h = absurd cc
not_true false h = refl

among_right : (xs ys : List ℕ) (id : ℕ) → is_among ys id ≡ true → is_among (xs ++ ys) id ≡ true
among_right [] ys id h = h
among_right (x ∷ xs) ys id h = among_later x id (xs ++ ys) (among_right xs ys id h)

-- an arrival that a run waits for leaves less open
pub arrival_opens : (r : RunData) (id : ℕ) (a : Arrival) → run_waits r id ≡ true → open_ids (with_arrival id a r) + 1 ≤ open_ids r
arrival_opens r id a w =
    let parts = and_both (is_among r.wanted id) (lacks r.inbox id) w in
    let new = with_arrival id a r in
    let ids = future_may r.future ++ r.wanted in
    let here : eqb id id ≡ true = grind (arith, nat_tests) in
    fewer (lacks new.inbox) (lacks r.inbox) ids ids id (λ k n e. (n, was k (sym (lacks_after r.inbox id a k) ∙ e))) (among_right (future_may r.future) r.wanted id parts.0) parts.1 (lacks_after r.inbox id a id ∙ ap (λ b. cond b false (lacks r.inbox id)) here)
  where
    was : (k : ℕ) → cond (eqb id k) false (lacks r.inbox k) ≡ true → lacks r.inbox k ≡ true
    was k e = go (eqb id k) e
      where
        go : (b : Bool) → cond b false (lacks r.inbox k) ≡ true → lacks r.inbox k ≡ true
        go true h = absurd cc
        go false h = h

-- a run that waits is not ready
pub waits_not_ready : (r : RunData) (id : ℕ) → run_waits r id ≡ true → is_ready r ≡ false
waits_not_ready r id w = let parts = and_both (is_among r.wanted id) (lacks r.inbox id) w in go r.wanted parts.0 parts.1
  where
    go : (ids : List ℕ) → is_among ids id ≡ true → lacks r.inbox id ≡ true → Rattle.scan_streams.specs.Runs.is_nil (filter (lacks r.inbox) ids) ≡ false
    go [] n l = absurd cc
    go (x ∷ ids) n l = cases (λ h. go ids h l) (lacks r.inbox x) refl
      where
        cases : (is_among ids id ≡ true → Rattle.scan_streams.specs.Runs.is_nil (filter (lacks r.inbox) ids) ≡ false) → (b : Bool) → lacks r.inbox x ≡ b → Rattle.scan_streams.specs.Runs.is_nil (filter (lacks r.inbox) (x ∷ ids)) ≡ false
        cases ih true e = rw e refl
        cases ih false e = rw e (ih (rest (eqb x id) refl))
          where
            rest : (b : Bool) → eqb x id ≡ b → is_among ids id ≡ true
            rest true g = let is : x ≡ id = grind (arith, nat_tests) in let bad = sym (ap (lacks r.inbox) is ∙ l) ∙ e in absurd cc
            rest false g = rw g at n

abbrev pub as_number : Bool → ℕ
as_number true = 1
as_number false = 0

-- each arrival brings the end nearer, also where the slot has news then
pub handed_steps : (s : Slot) (id : ℕ) (a : Arrival) → slot_waits s id ≡ true → slot_steps (handed id a s) + as_number (is_fresh (handed id a s)) + 1 ≤ slot_steps s
handed_steps slot.Empty id a w = absurd cc
handed_steps (slot.Done b) id a w = absurd cc
handed_steps (slot.Run r) id a w =
    let less = arrival_opens r id a w in
    let off = waits_not_ready r id w in
    rw off (go (is_ready (with_arrival id a r)) less)
  where
    go : (b : Bool) → open_ids (with_arrival id a r) + 1 ≤ open_ids r → 3 * open_ids (with_arrival id a r) + (if b then 2 else 1) + as_number b + 1 ≤ 3 * open_ids r + 1
    go true h = omega arith
    go false h = omega arith

pub drop_next : {T : Type 0} (xs : List T) (i : ℕ) (d : T) → i < length xs → drop i xs ≡ get_or xs i d ∷ drop (i + 1) xs
drop_next [] i d lt = absurd (omega arith)
drop_next (x ∷ xs) zero d lt = refl
drop_next (x ∷ xs) (suc i) d lt = let e : suc i + 1 ≡ suc (i + 1) = omega arith in drop_next xs i d (omega arith) ∙ ap (λ k. get_or xs i d ∷ drop k (x ∷ xs)) (sym e)

-- what is to be handed to the rest of the places, and what was done for the others
pub record Hands (id : ℕ) (a : Arrival) (rest places : List ℕ) (slots now : List Slot) (news later : List ℕ) : Type 0 where
  pub slots_are : handed_all id a rest now ≡ handed_all id a places slots
  pub wait : AllWait id rest now
  pub once : no_repeats rest ≡ true
  pub has : HasNews slots news → HasNews now later
  pub steps : slots_steps now + length later + length places ≤ slots_steps slots + length news + length rest

among_apart : (p q : ℕ) (rest : List ℕ) → is_among rest p ≡ false → is_among rest q ≡ true → q ≢ p
among_apart p q rest n h e = let bad = sym h ∙ ap (is_among rest) e ∙ n in absurd cc

later_has : (b : Bool) (p q : ℕ) (later : List ℕ) → is_among later q ≡ true → is_among (also_if b p later) q ≡ true
later_has false p q later h = h
later_has true p q later h = among_snoc later p q ∙ ap (λ c. c || eqb p q) h

later_here : (b : Bool) (p : ℕ) (later : List ℕ) → b ≡ true → is_among (also_if b p later) p ≡ true
later_here false p later h = absurd cc
later_here true p later h = let here : eqb p p ≡ true = grind (arith, nat_tests) in among_snoc later p p ∙ ap (λ c. is_among later p || c) here ∙ or_true (is_among later p)
  where
    or_true : (c : Bool) → (c || true) ≡ true
    or_true true = refl
    or_true false = refl

later_length : (b : Bool) (p : ℕ) (later : List ℕ) → length (also_if b p later) ≡ length later + as_number b
later_length true p later = length-append later (p ∷ [])
later_length false p later = omega arith

pub hands_next : (id : ℕ) (a : Arrival) (p : ℕ) (rest places : List ℕ) (slots now : List Slot) (news later : List ℕ) (s : Slot) → Hands id a (p ∷ rest) places slots now news later → s ≡ handed id a (slot_at now p) → Hands id a rest places slots (set now p s) news (also_if (is_fresh s) p later)
hands_next id a p rest places slots now news later s h is =
    let parts = and_both (not (is_among rest p)) (no_repeats rest) h.once in
    let off = not_true (is_among rest p) parts.0 in
    let w = h.wait p (among_head p rest) in
    let lt = waits_within now p id w in
    let n : length (also_if (is_fresh s) p later) ≡ length later + as_number (is_fresh s) = later_length (is_fresh s) p later in
    let less = handed_steps (slot_at now p) id a w in
    let less_s : slot_steps s + as_number (is_fresh s) + 1 ≤ slot_steps (slot_at now p) = subst (λ x. slot_steps x + as_number (is_fresh x) + 1 ≤ slot_steps (slot_at now p)) (sym is) less in
    let sum = steps_set now p s lt in
    let done = h.steps in
    record {
      slots_are = ap (λ x. handed_all id a rest (set now p x)) is ∙ h.slots_are;
      wait = λ q m. ap (λ x. slot_waits x id) (at_set_other now p q s (among_apart p q rest off m)) ∙ h.wait q (among_later p q rest m);
      once = parts.1;
      has = λ old. at_set (λ q x. is_fresh x ≡ true → is_among (also_if (is_fresh s) p later) q ≡ true) now p s lt (λ f. later_here (is_fresh s) p later f) (λ q other f. later_has (is_fresh s) p q later (h.has old q f));
      steps = omega arith;
    }

pub head_within : (id : ℕ) (a : Arrival) (p : ℕ) (rest places : List ℕ) (slots now : List Slot) (news later : List ℕ) → Hands id a (p ∷ rest) places slots now news later → p < length now
head_within id a p rest places slots now news later h = waits_within now p id (h.wait p (among_head p rest))

pub hands_news : (id : ℕ) (a : Arrival) (p : ℕ) (rest places : List ℕ) (slots now : List Slot) (news later more : List ℕ) (s : Slot) (ready : Bool) → Hands id a (p ∷ rest) places slots now news later → s ≡ handed id a (slot_at now p) → ready ≡ is_fresh s
    → more ≡ also_if ready p later → Hands id a rest places slots (set now p s) news more
hands_news id a p rest places slots now news later more s ready h is r m =
    subst (λ (ns : List ℕ). Hands id a rest places slots (set now p s) news ns) (sym (m ∙ ap (λ b. also_if b p later) r)) (hands_next id a p rest places slots now news later s h is)
