-- Each step brings a split nearer to its end, or leaves it as it was.
use Rattle.std.proofs.Common.{◌≡◌, ℕ, ◌+◌, ◌*◌, ◌<◌, ◌≤◌, List, [], ◌∷◌, ◌++◌, Bool, true, false, cond, eqb, inl, inr, refl, sym, ap, ◌∙◌, subst, arith}
use Rattle.std.specs.Prelude.{◌⊎◌, if◌then◌else◌}
use Rattle.std.proofs.lemmas.Bool.Decides.{nat_tests}
use Rattle.scan_values.specs.Selections.{is_among}
use Rattle.scan_segments.specs.Source.{Store}
use Rattle.scan_splits.specs.Arrivals.{Arrivals}
use Rattle.scan_splits.specs.Wanted.{no_repeats}
use Rattle.scan_splits.specs.declared.inbox.Arrival.{Arrival}
use Rattle.scan_drive.specs.Looks.{FoundWaits, IsPolled, EachPolled, is_ended}
use Rattle.scan_drive.specs.Lost.{EndsBy}
use Rattle.scan_drive.specs.Measures.{is_there, open_ids, run_steps, stage_steps, IsNearer, Advances, EachAdvances}
use Rattle.scan_drive.specs.Runs.{RunData, run_waits, is_ready, with_arrival}
use Rattle.scan_drive.specs.Slots.{slot_at, stage_waits, stage_handed, stage_given_up, handed, given_up, at_each, is_fresh, is_halted, MayTake, AllTake}
use Rattle.scan_drive.specs.Splits.{SplitState, Event, lacks}
use Rattle.scan_drive.specs.declared.slot.Halt.{Halt}
use Rattle.scan_drive.specs.declared.slot.Slot.{Slot}
use Rattle.scan_drive.specs.declared.slot.Stage.{Stage}
use Rattle.scan_drive.specs.declared.slot.Stage.TheVariants as stage
use Rattle.scan_drive.proofs.Counting.{fewer, no_more}
use Rattle.scan_drive.proofs.Handing.{and_both, among_later}
use Rattle.scan_drive.proofs.Linking.{each_at, each_length, waits_settled}
use Rattle.scan_drive.proofs.Running.{lacks_after}
use Rattle.scan_drive.proofs.Seating.{or_cases, among_append}

among_right : (xs ys : List ℕ) (id : ℕ) → is_among ys id ≡ true → is_among (xs ++ ys) id ≡ true
among_right [] ys id h = h
among_right (x ∷ xs) ys id h = among_later x id (xs ++ ys) (among_right xs ys id h)

among_left : (xs ys : List ℕ) (id : ℕ) → is_among xs id ≡ true → is_among (xs ++ ys) id ≡ true
among_left xs ys id h = among_append xs ys id ∙ ap (λ b. Rattle.std.specs.Prelude.◌||◌ b (is_among ys id)) h

ready_off : (b : Bool) → (if b then 2 else 1) ≤ 2
ready_off true = omega arith
ready_off false = omega arith

ready_least : (b : Bool) → 1 ≤ (if b then 2 else 1)
ready_least true = omega arith
ready_least false = omega arith

module _ {W I : Type 0} (split : W → SplitState I) where
  -- an arrival that a run waits for leaves less open
  arrival_opens : (r : RunData W) (id : ℕ) (a : Arrival) → run_waits r id ≡ true → open_ids split (with_arrival id a r) + 1 ≤ open_ids split r
  arrival_opens r id a w =
      let parts = and_both (is_among r.wanted id) (lacks r.inbox id) w in
      let new = with_arrival id a r in
      let ids = (split r.work).may ++ r.wanted in
      let here : eqb id id ≡ true = grind (arith, nat_tests) in
      fewer (lacks new.inbox) (lacks r.inbox) ids ids id (λ k n e. (n, was k (sym (lacks_after r.inbox id a k) ∙ e))) (among_right (split r.work).may r.wanted id parts.0) parts.1 (lacks_after r.inbox id a id ∙ ap (λ b. cond b false (lacks r.inbox id)) here)
    where
      was : (k : ℕ) → cond (eqb id k) false (lacks r.inbox k) ≡ true → lacks r.inbox k ≡ true
      was k e = go (eqb id k) e
        where
          go : (b : Bool) → cond b false (lacks r.inbox k) ≡ true → lacks r.inbox k ≡ true
          go true h = absurd cc
          go false h = h

  steps_least : (r : RunData W) → 1 ≤ run_steps split r
  steps_least r = let least = ready_least (is_ready r) in omega arith

  steps_ready : (r : RunData W) → is_ready r ≡ true → run_steps split r ≡ 3 * open_ids split r + 2
  steps_ready r e = ap (λ (b : Bool). 3 * open_ids split r + (if b then 2 else 1)) e

  steps_off : (r : RunData W) → is_ready r ≡ false → run_steps split r ≡ 3 * open_ids split r + 1
  steps_off r e = ap (λ (b : Bool). 3 * open_ids split r + (if b then 2 else 1)) e

  arrival_nearer : (r : RunData W) (id : ℕ) (a : Arrival) → run_waits r id ≡ true → run_steps split (with_arrival id a r) < run_steps split r
  arrival_nearer r id a w =
      let less = arrival_opens r id a w in
      let most = ready_off (is_ready (with_arrival id a r)) in
      let least = ready_least (is_ready r) in
      omega arith

module _ {W I R : Type 0} (split : W → SplitState I) where
  pub advances_refl : (s : Slot W R) → Advances split s s
  advances_refl s = record { file_is = refl; there = refl; nears = inl refl }

  pub advances_then : (a b c : Slot W R) → Advances split a b → Advances split b c → Advances split a c
  advances_then a b c p q = record { file_is = q.file_is ∙ p.file_is; there = q.there ∙ p.there; nears = go p.nears q.nears }
    where
      go : (b ≡ a) ⊎ IsNearer split a b → (c ≡ b) ⊎ IsNearer split b c → (c ≡ a) ⊎ IsNearer split a c
      go (inl e) (inl f) = inl (f ∙ e)
      go (inl e) (inr n) = inr (subst (λ (s : Slot W R). IsNearer split s c) e n)
      go (inr m) (inl f) = inr (subst (IsNearer split a) (sym f) m)
      go (inr m) (inr n) = inr (omega arith)

  -- what was nearer stays so
  pub nearer_then : (a b c : Slot W R) → IsNearer split a b → Advances split b c → IsNearer split a c
  nearer_then a b c m q = go q.nears
    where
      go : (c ≡ b) ⊎ IsNearer split b c → IsNearer split a c
      go (inl e) = subst (IsNearer split a) (sym e) m
      go (inr n) = omega arith

  pub all_refl : (slots : List (Slot W R)) → EachAdvances split slots slots
  all_refl slots = record { len = refl; at = λ p. advances_refl (slot_at slots p) }

  pub all_then : (a b c : List (Slot W R)) → EachAdvances split a b → EachAdvances split b c → EachAdvances split a c
  all_then a b c p q = record { len = q.len ∙ p.len; at = λ k. advances_then (slot_at a k) (slot_at b k) (slot_at c k) (p.at k) (q.at k) }

  -- something has arrived
  pub nearer_handed : (id : ℕ) (a : Arrival) (s : Slot W R) → stage_waits s.stage id ≡ true → IsNearer split s (handed id a s)
  nearer_handed id a s w = go s.stage w
    where
      go : (x : Stage W R) → stage_waits x id ≡ true → stage_steps split (stage_handed id a x) < stage_steps split x
      go stage.Empty v = absurd cc
      go (stage.Reads r) v = arrival_nearer split r id a v
      go (stage.Read rows) v = absurd cc
      go (stage.Halted r h) v = absurd cc

  pub advances_handed : (id : ℕ) (a : Arrival) (s : Slot W R) → MayTake id s → Advances split s (handed id a s)
  advances_handed id a s t = record { file_is = refl; there = there s.stage; nears = go s.stage refl }
    where
      there : (x : Stage W R) → is_there (stage_handed id a x) ≡ is_there x
      there stage.Empty = refl
      there (stage.Reads r) = refl
      there (stage.Read rows) = refl
      there (stage.Halted r k) = refl

      again : (x : Stage W R) → s.stage ≡ x → stage_handed id a x ≡ x → handed id a s ≡ s
      again x e f = ap (λ (z : Stage W R). record s { stage = stage_handed id a z }) e ∙ ap (λ (z : Stage W R). record s { stage = z }) (f ∙ sym e)

      go : (x : Stage W R) → s.stage ≡ x → (handed id a s ≡ s) ⊎ IsNearer split s (handed id a s)
      go stage.Empty e = inl (again stage.Empty e refl)
      go (stage.Reads r) e = inr (nearer_handed id a s (t (ap is_halted e)))
      go (stage.Read rows) e = inl (again (stage.Read rows) e refl)
      go (stage.Halted r h) e = inl (again (stage.Halted r h) e refl)

  -- a split is given up
  pub nearer_lost : (h : Halt) (id : ℕ) (s : Slot W R) → stage_waits s.stage id ≡ true → IsNearer split s (given_up h s)
  nearer_lost h id s w = go s.stage w
    where
      go : (x : Stage W R) → stage_waits x id ≡ true → stage_steps split (stage_given_up h x) < stage_steps split x
      go stage.Empty v = absurd cc
      go (stage.Reads r) v = let l = steps_least split r in omega arith
      go (stage.Read rows) v = absurd cc
      go (stage.Halted r k) v = absurd cc

  pub advances_lost : (h : Halt) (s : Slot W R) → Advances split s (given_up h s)
  advances_lost h s = record { file_is = refl; there = there s.stage; nears = go s.stage refl }
    where
      there : (x : Stage W R) → is_there (stage_given_up h x) ≡ is_there x
      there stage.Empty = refl
      there (stage.Reads r) = refl
      there (stage.Read rows) = refl
      there (stage.Halted r k) = refl

      again : (x : Stage W R) → s.stage ≡ x → stage_given_up h x ≡ x → given_up h s ≡ s
      again x e f = ap (λ (z : Stage W R). record s { stage = stage_given_up h z }) e ∙ ap (λ (z : Stage W R). record s { stage = z }) (f ∙ sym e)

      less : (x : Stage W R) (r : RunData W) → s.stage ≡ x → x ≡ stage.Reads r → stage_steps split (stage_given_up h s.stage) < stage_steps split s.stage
      less x r e f = let l = steps_least split r in subst (λ (z : Stage W R). stage_steps split (stage_given_up h z) < stage_steps split z) (sym (e ∙ f)) (omega arith)

      go : (x : Stage W R) → s.stage ≡ x → (given_up h s ≡ s) ⊎ IsNearer split s (given_up h s)
      go stage.Empty e = inl (again stage.Empty e refl)
      go (stage.Reads r) e = inr (less (stage.Reads r) r e refl)
      go (stage.Read rows) e = inl (again (stage.Read rows) e refl)
      go (stage.Halted r k) e = inl (again (stage.Halted r k) e refl)

  -- the same of the slots at several places
  pub all_each : (id : ℕ) (f : Slot W R → Slot W R) (places : List ℕ) (slots : List (Slot W R)) → AllTake id places slots → no_repeats places ≡ true → ((s : Slot W R) → MayTake id s → Advances split s (f s)) → EachAdvances split slots (at_each f places slots)
  all_each id f places slots t once h = record { len = each_length f places slots; at = λ p. subst (Advances split (slot_at slots p)) (sym (each_at id f places slots p t once)) (go p (is_among places p) refl) }
    where
      go : (p : ℕ) (b : Bool) → is_among places p ≡ b → Advances split (slot_at slots p) (cond b (f (slot_at slots p)) (slot_at slots p))
      go p true m = h (slot_at slots p) (t p m)
      go p false m = advances_refl (slot_at slots p)

module _ {W I R : Type 0} (split : W → SplitState I) (comes : W → Arrivals → Store → Event → Type 0) (items : R → List I) where
  -- a split that waits for other segments now
  pub nearer_waits : (s t : Slot W R) → FoundWaits split comes items s.stage t.stage → IsNearer split s t
  nearer_waits s t f =
      let off : is_ready f.next ≡ false = sym (ap is_fresh f.now) ∙ waits_settled split comes items s.stage t.stage f in
      let fewer_open : open_ids split f.next ≤ open_ids split f.run =
      no_more (lacks f.next.inbox) (lacks f.run.inbox) ((split f.next.work).may ++ f.next.wanted) ((split f.run.work).may ++ f.run.wanted)
      (λ id m l. (
        there id (or_cases (is_among (split f.next.work).may id) (is_among f.next.wanted id) (sym (among_append (split f.next.work).may f.next.wanted id) ∙ m)),
        sym (ap (λ (i : Arrivals). lacks i id) f.inbox) ∙ l,
      )) in
      let less : run_steps split f.next < run_steps split f.run = subst (λ n. run_steps split f.next < n) (sym (steps_ready split f.run f.ready)) (subst (λ n. n < 3 * open_ids split f.run + 2) (sym (steps_off split f.next off)) (omega (arith, fewer_open))) in
      subst (λ (x : Stage W R). stage_steps split t.stage < stage_steps split x) (sym f.was) (subst (λ (x : Stage W R). stage_steps split x < run_steps split f.run) (sym f.now) less)
    where
      there : (id : ℕ) → (is_among (split f.next.work).may id ≡ true) ⊎ (is_among f.next.wanted id ≡ true) → is_among ((split f.run.work).may ++ f.run.wanted) id ≡ true
      there id (inl m) = among_left (split f.run.work).may f.run.wanted id (f.same.may id m)
      there id (inr m) = among_left (split f.run.work).may f.run.wanted id (f.lacking.may id m)

  -- a split that has ended
  pub nearer_ended : (s t : Slot W R) → is_fresh s.stage ≡ true → is_ended t.stage ≡ true → IsNearer split s t
  nearer_ended s t f e = let a = most t.stage e in let b = least s.stage f in omega arith
    where
      most : (x : Stage W R) → is_ended x ≡ true → stage_steps split x ≤ 1
      most stage.Empty h = omega arith
      most (stage.Reads r) h = absurd cc
      most (stage.Read rows) h = omega arith
      most (stage.Halted r k) h = omega arith

      least : (x : Stage W R) → is_fresh x ≡ true → 2 ≤ stage_steps split x
      least stage.Empty h = absurd cc
      least (stage.Reads r) h = subst (λ n. 2 ≤ n) (sym (steps_ready split r h)) (omega arith)
      least (stage.Read rows) h = absurd cc
      least (stage.Halted r k) h = absurd cc

  ended_there : (x : Stage W R) → is_ended x ≡ true → is_there x ≡ true
  ended_there stage.Empty h = h
  ended_there (stage.Reads r) h = refl
  ended_there (stage.Read rows) h = refl
  ended_there (stage.Halted r k) h = refl

  fresh_there : (x : Stage W R) → is_fresh x ≡ true → is_there x ≡ true
  fresh_there stage.Empty h = h
  fresh_there (stage.Reads r) h = refl
  fresh_there (stage.Read rows) h = refl
  fresh_there (stage.Halted r k) h = refl

  polled_advances : (asked : Bool) (s t : Slot W R) → IsPolled split comes items asked s t → Advances split s t
  polled_advances true s t p = let f = p.waits refl in record { file_is = p.file_is; there = ap is_there f.now ∙ sym (ap is_there f.was); nears = inr (nearer_waits s t f) }
  polled_advances false s t p = record { file_is = p.file_is; there = there (p.other refl); nears = go (p.other refl) }
    where
      there : (t ≡ s) ⊎ ((is_fresh s.stage ≡ true) × (is_ended t.stage ≡ true) × EndsBy s.stage t.stage) → is_there t.stage ≡ is_there s.stage
      there (inl e) = ap (λ (x : Slot W R). is_there x.stage) e
      there (inr e) = ended_there t.stage e.1 ∙ sym (fresh_there s.stage e.0)

      go : (t ≡ s) ⊎ ((is_fresh s.stage ≡ true) × (is_ended t.stage ≡ true) × EndsBy s.stage t.stage) → (t ≡ s) ⊎ IsNearer split s t
      go (inl e) = inl e
      go (inr e) = inr (nearer_ended s t e.0 e.1)

  pub all_polled : (asking : List ℕ) (old new : List (Slot W R)) → EachPolled split comes items asking old new → EachAdvances split old new
  all_polled asking old new p = record { len = p.len; at = λ k. polled_advances (is_among asking k) (slot_at old k) (slot_at new k) (p.at k) }
