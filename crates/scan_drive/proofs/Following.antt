-- What has arrived for splits, and for what they are given up, step after step.
use Rattle.std.proofs.Common.{◌≡◌, ◌≢◌, ◌<◌, ℕ, List, length, set, Bool, true, false, not, cond, eqb, inl, inr, refl, sym, ap, ◌∙◌, subst, arith}
use Rattle.std.specs.Prelude.{◌⊎◌}
use Rattle.std.proofs.lemmas.Bool.{cases_eq}
use Rattle.std.proofs.lemmas.Bool.Decides.{nat_tests}
use Rattle.scan_values.specs.Selections.{is_among}
use Rattle.scan_splits.specs.Wanted.{no_repeats}
use Rattle.scan_splits.specs.declared.inbox.Arrival.{Arrival}
use Rattle.scan_drive.specs.Lost.{has_come, IsLost, EndsBy, Follows, EachFollows}
use Rattle.scan_drive.specs.Measures.{is_there}
use Rattle.scan_drive.specs.Slots.{slot_at, stage_handed, stage_given_up, handed, given_up, at_each, AllTake}
use Rattle.scan_drive.specs.Splits.{lacks}
use Rattle.scan_drive.specs.declared.slot.Halt.{Halt}
use Rattle.scan_drive.specs.declared.slot.Halt.TheVariants as halt
use Rattle.scan_drive.specs.declared.slot.Slot.{Slot}
use Rattle.scan_drive.specs.declared.slot.Stage.{Stage}
use Rattle.scan_drive.specs.declared.slot.Stage.TheVariants as stage
use Rattle.scan_drive.proofs.Handing.{at_set_other, at_set_same}
use Rattle.scan_drive.proofs.Linking.{each_at}
use Rattle.scan_drive.proofs.Running.{lacks_after}

abbrev pub id_of : Halt → ℕ → ℕ
id_of (halt.Source id) d = id
id_of (halt.Corrupt id) d = d
id_of halt.Overflow d = d
id_of halt.NoMemory d = d

abbrev pub is_source : Halt → Bool
is_source (halt.Source id) = true
is_source (halt.Corrupt id) = false
is_source halt.Overflow = false
is_source halt.NoMemory = false

module _ {W R : Type 0} where
  pub come_there : (x : Stage W R) (id : ℕ) → has_come x id ≡ true → is_there x ≡ true
  come_there stage.Empty id h = absurd cc
  come_there (stage.Reads r) id h = refl
  come_there (stage.Read rows) id h = absurd cc
  come_there (stage.Halted r g) id h = refl

  pub lost_there : (x : Stage W R) (h : Halt) → IsLost h x → is_there x ≡ true
  lost_there stage.Empty h l = absurd l
  lost_there (stage.Reads r) h l = absurd l
  lost_there (stage.Read rows) h l = absurd l
  lost_there (stage.Halted r g) h l = refl

  pub follows_self : (Came Failed : ℕ → Type 0) (s : Slot W R) → Follows Came Failed s s
  follows_self Came Failed s = record { there = λ t. (t, refl); came = λ id h. inl h; failed = λ id h. inl h; spoilt = λ id h. inl h }

  pub follows_same : (Came Failed : ℕ → Type 0) (s t : Slot W R) → t ≡ s → Follows Came Failed s t
  follows_same Came Failed s t e = subst (Follows Came Failed s) (sym e) (follows_self Came Failed s)

  pub follows_weaker : (Came Failed More Worse : ℕ → Type 0) (s t : Slot W R) → ((id : ℕ) → Came id → More id) → ((id : ℕ) → Failed id → Worse id) → Follows Came Failed s t → Follows More Worse s t
  follows_weaker Came Failed More Worse s t c f h = record {
    there = h.there;
    came = λ id k. came id (h.came id k);
    failed = λ id k. failed id (h.failed id k);
    spoilt = λ id k. spoilt id (h.spoilt id k);
  }
    where
      came : (id : ℕ) → (has_come s.stage id ≡ true) ⊎ Came id → (has_come s.stage id ≡ true) ⊎ More id
      came id (inl k) = inl k
      came id (inr k) = inr (c id k)

      failed : (id : ℕ) → IsLost (halt.Source id) s.stage ⊎ Failed id → IsLost (halt.Source id) s.stage ⊎ Worse id
      failed id (inl k) = inl k
      failed id (inr k) = inr (f id k)

      spoilt : (id : ℕ) → IsLost (halt.Corrupt id) s.stage ⊎ ((has_come s.stage id ≡ true) ⊎ Came id) → IsLost (halt.Corrupt id) s.stage ⊎ ((has_come s.stage id ≡ true) ⊎ More id)
      spoilt id (inl k) = inl k
      spoilt id (inr k) = inr (came id k)

  pub follows_then : (Came Failed : ℕ → Type 0) (s t u : Slot W R) → Follows Came Failed s t → Follows Came Failed t u → Follows Came Failed s u
  follows_then Came Failed s t u p q = record {
    there = λ k. (let b = q.there k in let a = p.there b.0 in (a.0, b.1 ∙ a.1));
    came = λ id k. came id (q.came id k);
    failed = λ id k. failed id (q.failed id k);
    spoilt = λ id k. spoilt id (q.spoilt id k);
  }
    where
      came : (id : ℕ) → (has_come t.stage id ≡ true) ⊎ Came id → (has_come s.stage id ≡ true) ⊎ Came id
      came id (inl k) = p.came id k
      came id (inr k) = inr k

      failed : (id : ℕ) → IsLost (halt.Source id) t.stage ⊎ Failed id → IsLost (halt.Source id) s.stage ⊎ Failed id
      failed id (inl k) = p.failed id k
      failed id (inr k) = inr k

      spoilt : (id : ℕ) → IsLost (halt.Corrupt id) t.stage ⊎ ((has_come t.stage id ≡ true) ⊎ Came id) → IsLost (halt.Corrupt id) s.stage ⊎ ((has_come s.stage id ≡ true) ⊎ Came id)
      spoilt id (inl k) = p.spoilt id k
      spoilt id (inr k) = inr (came id k)

  -- where a split is there, its file is the one before
  at_file : (Came Failed : ℕ → Type 0) (More Worse : ℕ → ℕ → Type 0) (s t u : Slot W R) → Follows Came Failed s t → Follows (More t.file) (Worse t.file) t u → Follows (More s.file) (Worse s.file) t u
  at_file Came Failed More Worse s t u p q = record {
    there = q.there;
    came = λ id k. came id (file (come_there u.stage id k)) (q.came id k);
    failed = λ id k. failed id (file (lost_there u.stage (halt.Source id) k)) (q.failed id k);
    spoilt = λ id k. spoilt id (file (lost_there u.stage (halt.Corrupt id) k)) (q.spoilt id k);
  }
    where
      file : is_there u.stage ≡ true → t.file ≡ s.file
      file k = (p.there (q.there k).0).1

      came : (id : ℕ) → t.file ≡ s.file → (has_come t.stage id ≡ true) ⊎ More t.file id → (has_come t.stage id ≡ true) ⊎ More s.file id
      came id e (inl k) = inl k
      came id e (inr k) = inr (subst (λ f. More f id) e k)

      failed : (id : ℕ) → t.file ≡ s.file → IsLost (halt.Source id) t.stage ⊎ Worse t.file id → IsLost (halt.Source id) t.stage ⊎ Worse s.file id
      failed id e (inl k) = inl k
      failed id e (inr k) = inr (subst (λ f. Worse f id) e k)

      spoilt : (id : ℕ) → t.file ≡ s.file → IsLost (halt.Corrupt id) t.stage ⊎ ((has_come t.stage id ≡ true) ⊎ More t.file id) → IsLost (halt.Corrupt id) t.stage ⊎ ((has_come t.stage id ≡ true) ⊎ More s.file id)
      spoilt id e (inl k) = inl k
      spoilt id e (inr k) = inr (came id e k)

  -- ---- of each slot
  pub each_self : (Came Failed : ℕ → ℕ → Type 0) (slots : List (Slot W R)) → EachFollows Came Failed slots slots
  each_self Came Failed slots p = follows_self (Came (slot_at slots p).file) (Failed (slot_at slots p).file) (slot_at slots p)

  pub each_weaker : (Came Failed More Worse : ℕ → ℕ → Type 0) (old new : List (Slot W R)) → ((k id : ℕ) → Came k id → More k id) → ((k id : ℕ) → Failed k id → Worse k id) → EachFollows Came Failed old new → EachFollows More Worse old new
  each_weaker Came Failed More Worse old new c f h p = follows_weaker (Came (slot_at old p).file) (Failed (slot_at old p).file) (More (slot_at old p).file) (Worse (slot_at old p).file) (slot_at old p) (slot_at new p) (c (slot_at old p).file) (f (slot_at old p).file) (h p)

  pub each_then : (Came Failed : ℕ → ℕ → Type 0) (a b c : List (Slot W R)) → EachFollows Came Failed a b → EachFollows Came Failed b c → EachFollows Came Failed a c
  each_then Came Failed a b c h k p =
      let x = slot_at a p in
      let y = slot_at b p in
      let z = slot_at c p in
      follows_then (Came x.file) (Failed x.file) x y z (h p) (at_file (Came x.file) (Failed x.file) Came Failed x y z (h p) (k p))

  -- one slot is another
  pub each_set : (Came Failed : ℕ → ℕ → Type 0) (old now : List (Slot W R)) (place : ℕ) (t : Slot W R) → place < length now → EachFollows Came Failed old now
      → Follows (Came (slot_at old place).file) (Failed (slot_at old place).file) (slot_at old place) t → EachFollows Came Failed old (set now place t)
  each_set Came Failed old now place t lt h k p = go (cases_eq p place)
    where
      go : (p ≡ place) ⊎ (p ≢ place) → Follows (Came (slot_at old p).file) (Failed (slot_at old p).file) (slot_at old p) (slot_at (set now place t) p)
      go (inl is) = subst (λ q. Follows (Came (slot_at old q).file) (Failed (slot_at old q).file) (slot_at old q) (slot_at (set now place t) q)) (sym is)
          (subst (Follows (Came (slot_at old place).file) (Failed (slot_at old place).file) (slot_at old place)) (sym (at_set_same now place t lt)) k)
      go (inr other) = subst (Follows (Came (slot_at old p).file) (Failed (slot_at old p).file) (slot_at old p)) (sym (at_set_other now place p t other)) (h p)

  -- ---- what arrives, and what is given up
  come_after : (x : Stage W R) (id : ℕ) (a : Arrival) (q : ℕ) → has_come (stage_handed id a x) q ≡ true → (has_come x q ≡ true) ⊎ (q ≡ id)
  come_after stage.Empty id a q h = inl h
  come_after (stage.Reads r) id a q h = go (eqb id q) refl
    where
      go : (b : Bool) → eqb id q ≡ b → (not (lacks r.inbox q) ≡ true) ⊎ (q ≡ id)
      go true e = inr (grind (arith, nat_tests))
      go false e = inl (ap not (sym (lacks_after r.inbox id a q ∙ ap (λ b. cond b false (lacks r.inbox q)) e)) ∙ h)
  come_after (stage.Read rows) id a q h = inl h
  come_after (stage.Halted r g) id a q h = inl h

  same_lost : (x : Stage W R) (id : ℕ) (a : Arrival) (h : Halt) → IsLost h (stage_handed id a x) → IsLost h x
  same_lost stage.Empty id a h l = l
  same_lost (stage.Reads r) id a h l = l
  same_lost (stage.Read rows) id a h l = l
  same_lost (stage.Halted r g) id a h l = l

  same_there : (x : Stage W R) (id : ℕ) (a : Arrival) → is_there (stage_handed id a x) ≡ true → is_there x ≡ true
  same_there stage.Empty id a h = h
  same_there (stage.Reads r) id a h = h
  same_there (stage.Read rows) id a h = h
  same_there (stage.Halted r g) id a h = h

  pub follows_handed : (Came Failed : ℕ → Type 0) (id : ℕ) (a : Arrival) (s : Slot W R) → Came id → Follows Came Failed s (handed id a s)
  follows_handed Came Failed id a s c = record {
    there = λ h. (same_there s.stage id a h, refl);
    came = λ q h. came q (come_after s.stage id a q h);
    failed = λ q h. inl (same_lost s.stage id a (halt.Source q) h);
    spoilt = λ q h. inl (same_lost s.stage id a (halt.Corrupt q) h);
  }
    where
      came : (q : ℕ) → (has_come s.stage q ≡ true) ⊎ (q ≡ id) → (has_come s.stage q ≡ true) ⊎ Came q
      came q (inl h) = inl h
      came q (inr e) = inr (subst Came (sym e) c)

  lost_come : (x : Stage W R) (h : Halt) (q : ℕ) → has_come (stage_given_up h x) q ≡ true → has_come x q ≡ true
  lost_come stage.Empty h q c = c
  lost_come (stage.Reads r) h q c = c
  lost_come (stage.Read rows) h q c = c
  lost_come (stage.Halted r g) h q c = c

  lost_by : (x : Stage W R) (h g : Halt) → IsLost g (stage_given_up h x) → IsLost g x ⊎ (h ≡ g)
  lost_by stage.Empty h g l = inl l
  lost_by (stage.Reads r) h g l = inr l
  lost_by (stage.Read rows) h g l = inl l
  lost_by (stage.Halted r k) h g l = inl l

  still_there : (x : Stage W R) (h : Halt) → is_there (stage_given_up h x) ≡ true → is_there x ≡ true
  still_there stage.Empty h t = t
  still_there (stage.Reads r) h t = refl
  still_there (stage.Read rows) h t = refl
  still_there (stage.Halted r k) h t = refl

  pub follows_lost : (Came Failed : ℕ → Type 0) (id : ℕ) (s : Slot W R) → Failed id → Follows Came Failed s (given_up (halt.Source id) s)
  follows_lost Came Failed id s f = record {
    there = λ h. (still_there s.stage (halt.Source id) h, refl);
    came = λ q h. inl (lost_come s.stage (halt.Source id) q h);
    failed = λ q h. failed q (lost_by s.stage (halt.Source id) (halt.Source q) h);
    spoilt = λ q h. spoilt q (lost_by s.stage (halt.Source id) (halt.Corrupt q) h);
  }
    where
      failed : (q : ℕ) → IsLost (halt.Source q) s.stage ⊎ (halt.Source id ≡ halt.Source q) → IsLost (halt.Source q) s.stage ⊎ Failed q
      failed q (inl h) = inl h
      failed q (inr e) = inr (subst Failed (ap (λ (h : Halt). id_of h q) e) f)

      spoilt : (q : ℕ) → IsLost (halt.Corrupt q) s.stage ⊎ (halt.Source id ≡ halt.Corrupt q) → IsLost (halt.Corrupt q) s.stage ⊎ ((has_come s.stage q ≡ true) ⊎ Came q)
      spoilt q (inl h) = inl h
      spoilt q (inr e) = let bad : true ≡ false = ap is_source e in absurd cc

  pub each_at_each : (Came Failed : ℕ → ℕ → Type 0) (id : ℕ) (f : Slot W R → Slot W R) (ps : List ℕ) (slots : List (Slot W R)) → AllTake id ps slots → no_repeats ps ≡ true → ((s : Slot W R) → Follows (Came s.file) (Failed s.file) s (f s)) → EachFollows Came Failed slots (at_each f ps slots)
  each_at_each Came Failed id f ps slots t once h p = subst (Follows (Came (slot_at slots p).file) (Failed (slot_at slots p).file) (slot_at slots p)) (sym (each_at id f ps slots p t once)) (go (is_among ps p))
    where
      go : (b : Bool) → Follows (Came (slot_at slots p).file) (Failed (slot_at slots p).file) (slot_at slots p) (cond b (f (slot_at slots p)) (slot_at slots p))
      go true = h (slot_at slots p)
      go false = follows_self (Came (slot_at slots p).file) (Failed (slot_at slots p).file) (slot_at slots p)

  -- ---- polls of splits
  pub follows_ended : (s t : Slot W R) → t.file ≡ s.file → EndsBy s.stage t.stage → Follows (λ id. ⊥) (λ id. ⊥) s t
  follows_ended s t e h = record {
    there = λ k. (h.there, e);
    came = λ id k. inl (h.came id k);
    failed = λ id k. absurd (h.halts (halt.Source id) k);
    spoilt = λ id k. inr (inl (h.halts (halt.Corrupt id) k));
  }
