-- Which slots wait for what is live, as something comes and as splits are polled.
use Rattle.std.proofs.Common.{◌≡◌, ◌≢◌, ℕ, ◌<◌, List, [], ◌∷◌, length, set, Bool, true, false, not, ◌&&◌, cond, eqb, Option, Some, None, Result, Ok, Err, OnOk, inl, inr, refl, sym, ap, ◌∙◌, subst, arith, length-set}
use Rattle.std.specs.Prelude.{◌⊎◌, filter, IfSome}
use Rattle.std.proofs.lemmas.Bool.{cases_eq}
use Rattle.std.proofs.lemmas.Bool.Decides.{nat_tests}
use Rattle.scan_values.specs.Selections.{is_among}
use Rattle.scan_segments.specs.Source.{Store, SourceState}
use Rattle.scan_splits.specs.Arrivals.{Arrivals, content}
use Rattle.scan_splits.specs.Wanted.{no_repeats, is_any}
use Rattle.scan_splits.specs.declared.inbox.Arrival.{Arrival}
use Rattle.scan_splits.specs.declared.inbox.Arrival.TheVariants as arrival
use Rattle.scan_drive.specs.Desks.{Waiters, waiters_at, waits, is_in, Moves, Tells}
use Rattle.scan_drive.specs.Files.{Part}
use Rattle.scan_drive.specs.Links.{Linked, OfFile, StaysLinked, KeepsTold}
use Rattle.scan_drive.specs.Looks.{FoundWaits, is_ended}
use Rattle.scan_drive.specs.Runs.{RunData, run_waits, is_ready, is_nil, with_arrival}
use Rattle.scan_drive.specs.Slots.{slot_at, stage_waits, is_fresh, is_halted, stage_handed, stage_given_up, handed, given_up, at_each, MayTake, AllTake, SlotKeeps, StageOk, wanted_in}
use Rattle.scan_drive.specs.Splits.{SplitState, Event, wants, lacks}
use Rattle.scan_drive.specs.declared.slot.Halt.{Halt}
use Rattle.scan_drive.specs.declared.slot.Slot.{Slot}
use Rattle.scan_drive.specs.declared.slot.Stage.{Stage}
use Rattle.scan_drive.specs.declared.slot.Stage.TheVariants as stage
use Rattle.scan_drive.proofs.Desking.{moved}
use Rattle.scan_drive.proofs.Handing.{and_both, not_true, among_later, among_head, take_within, at_set_same, at_set_other}
use Rattle.scan_drive.proofs.Keeping.{each_refl, each_then, each_handed, each_lost}
use Rattle.scan_drive.proofs.Running.{lacks_after}

ne_of : (a b : ℕ) → eqb a b ≡ false → a ≢ b
ne_of a b e f = let here : eqb a b ≡ true = grind (arith, nat_tests) in let bad = sym e ∙ here in absurd cc

ne_off : (a b : ℕ) → a ≢ b → eqb a b ≡ false
ne_off a b n = go (eqb a b) refl
  where
    go : (t : Bool) → eqb a b ≡ t → eqb a b ≡ false
    go false e = e
    go true e = let same : a ≡ b = grind (arith, nat_tests) in absurd (n same)

-- what waits after an end waited before, for another id
waits_before : (id : ℕ) (d e : Waiters) → Moves id None d e → (q p : ℕ) → waits e q p ≡ true → (q ≢ id) × (waits d q p ≡ true)
waits_before id d e m q p h = go (eqb q id) refl (sym (ap (λ o. is_in o p) (moved id None d e m q)) ∙ h)
  where
    go : (t : Bool) → eqb q id ≡ t → is_in (cond t None (waiters_at d q)) p ≡ true → (q ≢ id) × (waits d q p ≡ true)
    go true k w = absurd cc
    go false k w = (ne_of q id k, w)

pub waits_still : (id : ℕ) (d e : Waiters) → Moves id None d e → (q p : ℕ) → q ≢ id → waits d q p ≡ true → waits e q p ≡ true
waits_still id d e m q p n h = ap (λ o. is_in o p) (moved id None d e m q) ∙ ap (λ t. is_in (cond t None (waiters_at d q)) p) (ne_off q id n) ∙ h

pub waits_not_ready : {W : Type 0} (r : RunData W) (id : ℕ) → run_waits r id ≡ true → is_ready r ≡ false
waits_not_ready r id w = let parts = and_both (is_among r.wanted id) (lacks r.inbox id) w in go r.wanted parts.0 parts.1
  where
    go : (ids : List ℕ) → is_among ids id ≡ true → lacks r.inbox id ≡ true → is_nil (filter (lacks r.inbox) ids) ≡ false
    go [] n l = absurd cc
    go (x ∷ ids) n l = cases (λ h. go ids h l) (lacks r.inbox x) refl
      where
        cases : (is_among ids id ≡ true → is_nil (filter (lacks r.inbox) ids) ≡ false) → (b : Bool) → lacks r.inbox x ≡ b → is_nil (filter (lacks r.inbox) (x ∷ ids)) ≡ false
        cases ih true e = rw e refl
        cases ih false e = rw e (ih (rest (eqb x id) refl))
          where
            rest : (b : Bool) → eqb x id ≡ b → is_among ids id ≡ true
            rest true g = let is : x ≡ id = grind (arith, nat_tests) in let bad = sym (ap (lacks r.inbox) is ∙ l) ∙ e in absurd cc
            rest false g = rw g at n

module _ {W R : Type 0} where
  -- a split that waits for nothing takes nothing
  fresh_takes : (x : Stage W R) (id : ℕ) → is_fresh x ≡ true → (is_halted x ≡ false → stage_waits x id ≡ true) → ⊥
  fresh_takes stage.Empty id f t = absurd cc
  fresh_takes (stage.Reads r) id f t = let bad = sym f ∙ waits_not_ready r id (t refl) in absurd cc
  fresh_takes (stage.Read rows) id f t = absurd cc
  fresh_takes (stage.Halted r h) id f t = absurd cc

  -- the splits that wait for a live id take what comes of it
  pub take_all : (file id : ℕ) (places : List ℕ) (d : Waiters) (slots : List (Slot W R)) → Linked file d slots → waiters_at d id ≡ Some places → AllTake id places slots
  take_all file id places d slots l is p m = l.takes id p (ap (λ o. is_in o p) is ∙ m)

  -- the slot at a place, after a step at several
  pub each_at : (id : ℕ) (f : Slot W R → Slot W R) (ps : List ℕ) (slots : List (Slot W R)) (p : ℕ) → AllTake id ps slots → no_repeats ps ≡ true → slot_at (at_each f ps slots) p ≡ cond (is_among ps p) (f (slot_at slots p)) (slot_at slots p)
  each_at id f [] slots p w d = refl
  each_at id f (k ∷ ps) slots p w d =
      each_at id f ps (set slots k x) p (λ q m. subst (MayTake id) (sym (at_set_other slots k q x (apart q m))) (w q (among_later k q ps m))) parts.1
      ∙ go (cases_eq p k)
    where
      parts : (not (is_among ps k) ≡ true) × (no_repeats ps ≡ true)
      parts = and_both (not (is_among ps k)) (no_repeats ps) d

      x : Slot W R
      x = f (slot_at slots k)

      lt : k < length slots
      lt = take_within slots k id (w k (among_head k ps))

      apart : (q : ℕ) → is_among ps q ≡ true → q ≢ k
      apart q m e = let bad = sym m ∙ ap (is_among ps) e ∙ not_true (is_among ps k) parts.0 in absurd cc

      go : (p ≡ k) ⊎ (p ≢ k) → cond (is_among ps p) (f (slot_at (set slots k x) p)) (slot_at (set slots k x) p) ≡ cond (is_among (k ∷ ps) p) (f (slot_at slots p)) (slot_at slots p)
      go (inl e) =
          let on : eqb k k ≡ true = grind (arith, nat_tests) in
          rw (e, not_true (is_among ps k) parts.0, on, at_set_same slots k x lt) refl
      go (inr n) =
          let off : eqb k p ≡ false = grind (arith, nat_tests) in
          rw (off, at_set_other slots k p x n) refl

  pub each_length : (f : Slot W R → Slot W R) (ps : List ℕ) (slots : List (Slot W R)) → length (at_each f ps slots) ≡ length slots
  each_length f [] slots = refl
  each_length f (p ∷ ps) slots = each_length f ps (set slots p (f (slot_at slots p))) ∙ length-set slots p (f (slot_at slots p))

  -- what is done at the slots that wait for an id: their files stay, they take what else they took, and wait for no more
  record Steps (id : ℕ) (f : Slot W R → Slot W R) : Type 0 where
    file_is : (s : Slot W R) → (f s).file ≡ s.file
    takes : (s : Slot W R) (q : ℕ) → q ≢ id → MayTake q s → MayTake q (f s)
    empty : (s : Slot W R) → s.stage ≡ stage.Empty → (f s).stage ≡ stage.Empty
    fewer : (s : Slot W R) (q : ℕ) → stage_waits (f s).stage q ≡ true → (stage_waits s.stage q ≡ true) × (q ≢ id)

  linked_each : (file id : ℕ) (f : Slot W R → Slot W R) (places : List ℕ) (d e : Waiters) (slots : List (Slot W R)) → Steps id f → Linked file d slots → waiters_at d id ≡ Some places → Moves id None d e → no_repeats places ≡ true →
      Linked file e (at_each f places slots) × OfFile file slots (at_each f places slots)
  linked_each file id f places d e slots st l is m once = (
    record {
      file_is = λ q p w. file_at p ∙ l.file_is q p (waits_before id d e m q p w).1;
      takes = λ q p w. let b = waits_before id d e m q p w in subst (MayTake q) (sym (at p)) (takes q p b.0 (l.takes q p b.1) (is_among places p));
      live = λ q p f w. live q p (sym (file_at p) ∙ f) (is_among places p) refl (sym (ap (λ (s : Slot W R). stage_waits s.stage q) (at p)) ∙ w);
    },
    record {
      len = each_length f places slots;
      files = file_at;
      others = λ p n. at p ∙ others p n (is_among places p) refl;
      empty = λ p e. ap (λ (s : Slot W R). s.stage) (at p) ∙ empty p e (is_among places p);
    },
  )
    where
      at : (p : ℕ) → slot_at (at_each f places slots) p ≡ cond (is_among places p) (f (slot_at slots p)) (slot_at slots p)
      at p = each_at id f places slots p (take_all file id places d slots l is) once

      file_of : (p : ℕ) (b : Bool) → (cond b (f (slot_at slots p)) (slot_at slots p)).file ≡ (slot_at slots p).file
      file_of p true = st.file_is (slot_at slots p)
      file_of p false = refl

      file_at : (p : ℕ) → (slot_at (at_each f places slots) p).file ≡ (slot_at slots p).file
      file_at p = ap (λ (s : Slot W R). s.file) (at p) ∙ file_of p (is_among places p)

      takes : (q p : ℕ) → q ≢ id → MayTake q (slot_at slots p) → (b : Bool) → MayTake q (cond b (f (slot_at slots p)) (slot_at slots p))
      takes q p n t true = st.takes (slot_at slots p) q n t
      takes q p n t false = t

      live : (q p : ℕ) → (slot_at slots p).file ≡ file → (b : Bool) → is_among places p ≡ b → stage_waits (cond b (f (slot_at slots p)) (slot_at slots p)).stage q ≡ true → waits e q p ≡ true
      live q p g true i w = let s = st.fewer (slot_at slots p) q w in waits_still id d e m q p s.1 (l.live q p g s.0)
      live q p g false i w = other (cases_eq q id)
        where
          here : waits d q p ≡ true
          here = l.live q p g w

          other : (q ≡ id) ⊎ (q ≢ id) → waits e q p ≡ true
          other (inr n) = waits_still id d e m q p n here
          other (inl same) = let bad = sym i ∙ sym (ap (λ o. is_in o p) is) ∙ sym (ap (λ k. waits d k p) same) ∙ here in absurd cc

      empty : (p : ℕ) → (slot_at slots p).stage ≡ stage.Empty → (b : Bool) → (cond b (f (slot_at slots p)) (slot_at slots p)).stage ≡ stage.Empty
      empty p e true = st.empty (slot_at slots p) e
      empty p e false = e

      others : (p : ℕ) → (slot_at slots p).file ≢ file → (b : Bool) → is_among places p ≡ b → cond b (f (slot_at slots p)) (slot_at slots p) ≡ slot_at slots p
      others p n true i = absurd (n (l.file_is id p (ap (λ o. is_in o p) is ∙ i)))
      others p n false i = refl

  handed_steps : (id : ℕ) (a : Arrival) → Steps id (handed {W = W} {R = R} id a)
  handed_steps id a = record { file_is = λ s. refl; takes = λ s q n t. takes s.stage q n t; empty = λ s e. ap (stage_handed id a) e; fewer = λ s q w. fewer s.stage q w }
    where
      after : (r : RunData W) (q : ℕ) → run_waits (with_arrival id a r) q ≡ (is_among r.wanted q && cond (eqb id q) false (lacks r.inbox q))
      after r q = ap (λ b. is_among r.wanted q && b) (lacks_after r.inbox id a q)

      takes : (x : Stage W R) (q : ℕ) → q ≢ id → (is_halted x ≡ false → stage_waits x q ≡ true) → is_halted (stage_handed id a x) ≡ false → stage_waits (stage_handed id a x) q ≡ true
      takes stage.Empty q n t h = t h
      takes (stage.Reads r) q n t h =
          let off : eqb id q ≡ false = ne_off id q (λ e. n (sym e)) in
          after r q ∙ ap (λ b. is_among r.wanted q && cond b false (lacks r.inbox q)) off ∙ t h
      takes (stage.Read rows) q n t h = t h
      takes (stage.Halted r k) q n t h = t h

      fewer : (x : Stage W R) (q : ℕ) → stage_waits (stage_handed id a x) q ≡ true → (stage_waits x q ≡ true) × (q ≢ id)
      fewer stage.Empty q w = absurd cc
      fewer (stage.Reads r) q w = go (eqb id q) refl (sym (after r q) ∙ w)
        where
          and_false : (b : Bool) → (b && false) ≡ true → false ≡ true
          and_false true h = h
          and_false false h = h

          go : (b : Bool) → eqb id q ≡ b → (is_among r.wanted q && cond b false (lacks r.inbox q)) ≡ true → (run_waits r q ≡ true) × (q ≢ id)
          go true e v = let bad = and_false (is_among r.wanted q) v in absurd cc
          go false e v = (v, λ f. ne_of id q e (sym f))
      fewer (stage.Read rows) q w = absurd cc
      fewer (stage.Halted r k) q w = absurd cc

  lost_steps : (id : ℕ) (h : Halt) → Steps id (given_up {W = W} {R = R} h)
  lost_steps id h = record { file_is = λ s. refl; takes = λ s q n t. takes s.stage q t; empty = λ s e. ap (stage_given_up h) e; fewer = λ s q w. fewer s.stage q w }
    where
      takes : (x : Stage W R) (q : ℕ) → (is_halted x ≡ false → stage_waits x q ≡ true) → is_halted (stage_given_up h x) ≡ false → stage_waits (stage_given_up h x) q ≡ true
      takes stage.Empty q t k = t k
      takes (stage.Reads r) q t k = absurd cc
      takes (stage.Read rows) q t k = t k
      takes (stage.Halted r g) q t k = absurd cc

      fewer : (x : Stage W R) (q : ℕ) → stage_waits (stage_given_up h x) q ≡ true → (stage_waits x q ≡ true) × (q ≢ id)
      fewer stage.Empty q w = absurd cc
      fewer (stage.Reads r) q w = absurd cc
      fewer (stage.Read rows) q w = absurd cc
      fewer (stage.Halted r g) q w = absurd cc

  -- something has arrived
  pub linked_handed : (id : ℕ) (a : Arrival) (places : List ℕ) (d e : Waiters) (slots : List (Slot W R)) → waiters_at d id ≡ Some places → Moves id None d e → no_repeats places ≡ true → StaysLinked d e slots (at_each (handed id a) places slots)
  linked_handed id a places d e slots is m once file l = linked_each file id (handed id a) places d e slots (handed_steps id a) l is m once

  -- the source has failed
  pub linked_lost : (id : ℕ) (h : Halt) (places : List ℕ) (d e : Waiters) (slots : List (Slot W R)) → waiters_at d id ≡ Some places → Moves id None d e → no_repeats places ≡ true → StaysLinked d e slots (at_each (given_up h) places slots)
  linked_lost id h places d e slots is m once file l = linked_each file id (given_up h) places d e slots (lost_steps id h) l is m once

  pub of_refl : (file : ℕ) (slots : List (Slot W R)) → OfFile file slots slots
  of_refl file slots = record { len = refl; files = λ p. refl; others = λ p n. refl; empty = λ p e. e }

  pub of_then : (file : ℕ) (a b c : List (Slot W R)) → OfFile file a b → OfFile file b c → OfFile file a c
  of_then file a b c g h = record {
    len = h.len ∙ g.len;
    files = λ p. h.files p ∙ g.files p;
    others = λ p n. h.others p (λ e. n (sym (g.files p) ∙ e)) ∙ g.others p n;
    empty = λ p e. h.empty p (g.empty p e);
  }

  pub linked_self : (d : Waiters) (slots : List (Slot W R)) → StaysLinked d d slots slots
  linked_self d slots file l = (l, of_refl file slots)

  pub linked_then : (d e f : Waiters) (a b c : List (Slot W R)) → StaysLinked d e a b → StaysLinked e f b c → StaysLinked d f a c
  linked_then d e f a b c g h file l = let x = g file l in let y = h file x.0 in (y.0, of_then file a b c x.1 y.1)

  -- nobody waits at a place whose split waits for nothing
  pub new_place : (file place : ℕ) (d : Waiters) (slots : List (Slot W R)) → Linked file d slots → is_fresh (slot_at slots place).stage ≡ true → (id : ℕ) → waits d id place ≡ false
  new_place file place d slots l f id = go (waits d id place) refl
    where
      go : (b : Bool) → waits d id place ≡ b → waits d id place ≡ false
      go false e = e
      go true e = absurd (fresh_takes (slot_at slots place).stage id f (l.takes id place e))

module _ {W I R : Type 0} (split : W → SplitState I) (comes : W → Arrivals → Store → Event → Type 0) (items : R → List I) where
  -- what a split wants now its file names
  pub may_ask : (p : Part I) (store : Store) (old new : Stage W R) → FoundWaits split comes items old new → StageOk split comes items p store old → (id : ℕ) → is_among (wanted_in new) id ≡ true → p.named store id ≡ true
  may_ask p store old new f ok id m =
      let run = subst (StageOk split comes items p store) f.was ok in
      let k : is_among f.next.wanted id ≡ true = ap (λ (xs : List ℕ). is_among xs id) (sym (ap wanted_in f.now)) ∙ m in
      run.within f.run.inbox (wants id) (λ q a h. h) run.agrees (f.lacking.comes_to id store k run.agrees)

  told_has : (o : Option Store) (id : ℕ) (a : Arrival) (store : Store) → o ≡ Some store → IfSome o (λ (st : Store). st id ≡ content a) → store id ≡ content a
  told_has o id a store e t = subst (λ (q : Option Store). IfSome q (λ (st : Store). st id ≡ content a)) e t

  tells_content : (s : SourceState) (id : ℕ) (a : Arrival) → Tells s id a → IfSome s.holds (λ (st : Store). st id ≡ content a)
  tells_content s id (arrival.Bytes bytes) t = t
  tells_content s id arrival.Missing t = t

  pub told_handed : (file : ℕ) (s : SourceState) (id : ℕ) (a : Arrival) (places : List ℕ) (d : Waiters) (slots : List (Slot W R)) → Linked file d slots → waiters_at d id ≡ Some places → no_repeats places ≡ true → Tells s id a →
      KeepsTold split comes items s.holds slots (at_each (handed id a) places slots)
  told_handed file s id a places d slots l is once t p store e = each_handed split comes items p store id a places slots (take_all file id places d slots l is) once (told_has s.holds id a store e (tells_content s id a t))

  pub told_lost : (file : ℕ) (holds : Option Store) (id : ℕ) (places : List ℕ) (d : Waiters) (slots : List (Slot W R)) → Linked file d slots → waiters_at d id ≡ Some places → no_repeats places ≡ true →
      KeepsTold split comes items holds slots (at_each (given_up (Rattle.scan_drive.specs.declared.slot.Halt.TheVariants.Source id)) places slots)
  told_lost file holds id places d slots l is once p store e = each_lost split comes items p store id places slots (take_all file id places d slots l is) once

  pub told_then : (o q : Option Store) (a b c : List (Slot W R)) → q ≡ o → KeepsTold split comes items o a b → KeepsTold split comes items q b c → KeepsTold split comes items o a c
  told_then o q a b c same g h p store e = each_then split comes items p store a b c (g p store e) (h p store (same ∙ e))

  pub told_self : (o : Option Store) (a : List (Slot W R)) → KeepsTold split comes items o a a
  told_self o a p store e = each_refl split comes items p store a

  -- a split that waits is not polled
  pub waits_settled : (old new : Stage W R) → FoundWaits split comes items old new → is_fresh new ≡ false
  waits_settled old new f = ap is_fresh f.now ∙ go f.next.wanted f.lacking.some (λ id m. ap (λ (i : Arrivals). lacks i id) f.inbox ∙ f.lacking.lacking id m)
    where
      go : (ids : List ℕ) → is_any ids ≡ true → ((id : ℕ) → is_among ids id ≡ true → lacks f.next.inbox id ≡ true) → is_nil (filter (lacks f.next.inbox) ids) ≡ false
      go [] a h = absurd cc
      go (x ∷ ids) a h = rw (h x (among_head x ids)) refl

  nowhere : Part I
  nowhere = record { row_count = 0; splits = λ store. []; named = λ store id. false; bad = λ store id. false; overflow = λ store. false }

  pub keeps_file : (old new : Slot W R) → ((p : Part I) (store : Store) → SlotKeeps split comes items p store old new) → new.file ≡ old.file
  keeps_file old new k = (k nowhere (λ id. None)).file_is

pub done_settled : {W R : Type 0} (x : Stage W R) → is_ended x ≡ true → is_fresh x ≡ false
done_settled stage.Empty r = absurd cc
done_settled (stage.Reads x) r = absurd cc
done_settled (stage.Read rows) r = refl
done_settled (stage.Halted x h) r = refl

pub same_slot : {W R : Type 0} (a b : Slot W R) → b.file ≡ a.file → b.stage ≡ a.stage → b ≡ a
same_slot {W} {R} a b f s = ap (λ n. record b { file = n }) f ∙ ap (λ (x : Stage W R). record a { stage = x }) s

pub on_ok : {U N : Type 0} {A B : Type 0} (r : Result U N) → (A → B) → OnOk r A → OnOk r B
on_ok (Ok x) f h = f h
on_ok (Err e) f h = tt

-- the links of another file stay
pub linked_other : {W R : Type 0} (file other : ℕ) (d : Waiters) (old new : List (Slot W R)) → file ≢ other → OfFile other old new → Linked file d old → Linked file d new
linked_other {W} {R} file other d old new n o l = record {
  file_is = λ id q w. o.files q ∙ l.file_is id q w;
  takes = λ id q w. subst (MayTake id) (sym (o.others q (λ e. n (sym (l.file_is id q w) ∙ e)))) (l.takes id q w);
  live = λ id q g w.
      let was : (slot_at old q).file ≡ file = sym (o.files q) ∙ g in
      l.live id q was (sym (ap (λ (s : Slot W R). stage_waits s.stage id) (o.others q (λ e. n (sym was ∙ e)))) ∙ w);
}
