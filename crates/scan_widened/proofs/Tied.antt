-- What a drop of a holder leaves of the tie between stages, table and source.
use Rattle.std.proofs.Common.{◌≡◌, ◌⊎◌, inl, inr, ℕ, ◌≤◌, List, [], ◌∷◌, arith, refl, sym, subst, ap, ◌∙◌, Bool, true, false, cond, eqb, nat_eq, Option, Some, None, is_some}
use Rattle.std.proofs.lemmas.Bool.{eqb-true, eq-eqb}
use Rattle.std.proofs.lemmas.Bool.Decides.{nat_tests}
use Rattle.scan_sharing.specs.declared.holder.SharedAnswer.{SharedAnswer}
use Rattle.scan_sharing.specs.declared.holder.SharedAnswer.TheVariants as answer
use Rattle.scan_sharing.specs.declared.holder.SharedPolled.{SharedPolled}
use Rattle.scan_sharing.specs.declared.holder.SharedPolled.TheVariants as shared
use Rattle.scan_sharing.specs.Holding.{Holding}
use Rattle.scan_sharing.specs.Sharing.{Held, kept, left, joined, answered, with_answer, is_held, answer_of, entry_at, without_holder, with_holder, Same, Agree}
use Rattle.scan_sharing.specs.SharedTables.{Asks, IsFound, Arrives, Gives, Polls}
use Rattle.scan_segments.specs.Source.{SourceState, Stays, Ends, has, without, with_live, without_live}
use Rattle.scan_sharing.proofs.Agrees.{has_without, has_insert}
use Rattle.scan_widen.specs.declared.behind.Behind.{Behind}
use Rattle.scan_widened.specs.declared.stage.Stage.{Stage}
use Rattle.scan_widened.specs.declared.stage.Stage.TheVariants as stage
use Rattle.scan_widened.specs.Identity.{inner_of}
use Rattle.scan_widened.specs.Sources.{stage_at, has_stage, IsTold, IsToldShared, HasFailed, IsTied, Rests}

-- ---- entries that a holder leaves
kept_held : (m : ℕ) (ns : List ℕ) (a : Option SharedAnswer) → is_held m (kept ns a) ≡ has m ns
kept_held m [] a = refl
kept_held m (n ∷ ns) a = refl

left_held : (n m : ℕ) (o : Option (Held SharedAnswer)) → is_held m (left n o) ≡ cond (eqb m n) false (is_held m o)
left_held n m None = same (eqb m n)
  where
    same : (b : Bool) → false ≡ cond b false false
    same true = refl
    same false = refl
left_held n m (Some e) = kept_held m (without n e.holders) e.answer ∙ has_without n m e.holders

kept_some : (ns : List ℕ) (a : Option SharedAnswer) → is_some (kept ns a) ≡ true → (m : ℕ) × (is_held m (kept ns a) ≡ true)
kept_some [] a e = absurd cc
kept_some (n ∷ ns) a e = (n, rw (eq-eqb n n refl) refl)

left_some : (n : ℕ) (o : Option (Held SharedAnswer)) → is_some (left n o) ≡ true → (m : ℕ) × (is_held m (left n o) ≡ true)
left_some n None e = absurd cc
left_some n (Some h) e = kept_some (without n h.holders) h.answer e

kept_answer : (P : Option SharedAnswer → Type 0) (ns : List ℕ) (a : Option SharedAnswer) → P None → P a → P (answer_of (kept ns a))
kept_answer P [] a none p = none
kept_answer P (n ∷ ns) a none p = p

left_answer : (P : Option SharedAnswer → Type 0) (n : ℕ) (o : Option (Held SharedAnswer)) → P None → P (answer_of o) → P (answer_of (left n o))
left_answer P n None none p = none
left_answer P n (Some e) none p = kept_answer P (without n e.holders) e.answer none p

-- ---- what is told, over a source that holds the same
still_told : (s s' : SourceState) (id : ℕ) (o : Option SharedAnswer) → s'.holds ≡ s.holds → IsTold s id o → IsTold s' id o
still_told s s' id None e h = tt
still_told s s' id (Some (answer.Bytes b)) e h = rw e h
still_told s s' id (Some answer.Missing) e h = rw e h
still_told s s' id (Some (answer.Failed n)) e h = tt

still_failed : (b : ℕ) (s s' : SourceState) (o : Option SharedAnswer) → s.faults ≤ s'.faults → s'.can_fail ≡ s.can_fail → HasFailed b s o → HasFailed b s' o
still_failed b s s' None l e h = tt
still_failed b s s' (Some (answer.Bytes x)) l e h = tt
still_failed b s s' (Some answer.Missing) l e h = tt
still_failed b s s' (Some (answer.Failed n)) l e h = (omega (arith, h.0, l), e ∙ h.1)

-- a stage that is there after one was taken out is another's
other_stage : (k q : ℕ) (x y : Option Stage) (z : Stage) → y ≡ cond (nat_eq k q) None x → y ≡ Some z → (nat_eq k q ≡ false) × (x ≡ Some z)
other_stage k q x y z e f = go (nat_eq k q) refl
  where
    go : (b : Bool) → nat_eq k q ≡ b → (nat_eq k q ≡ false) × (x ≡ Some z)
    go true p = let none : None ≡ Some z = sym (rw p at e) ∙ f in absurd cc
    go false p = (p, sym (rw p at e) ∙ f)

-- ---- a holder leaves
module _ (s s' : SourceState) (b : ℕ) (behind : List Behind) (t t' : List (ℕ × Held SharedAnswer)) (st st' : List (ℕ × Stage)) (k : ℕ) (h : Holding)
    (tied : IsTied s b behind t st) (at : stage_at st k ≡ Some (stage.Held h)) (step : Same (entry_at t') (without_holder h.number h.id (entry_at t)))
    (out : (q : ℕ) → stage_at st' q ≡ cond (nat_eq k q) None (stage_at st q)) where
  same_number : (q : ℕ) (g : Holding) → nat_eq k q ≡ false → stage_at st q ≡ Some (stage.Held g) → eqb g.number h.number ≡ false
  same_number q g apart e = go (eqb g.number h.number) refl
    where
      go : (x : Bool) → eqb g.number h.number ≡ x → eqb g.number h.number ≡ false
      go false p = p
      go true p =
          let is : q ≡ k = tied.once q k g h e at (eqb-true g.number h.number p) in
          let yes : nat_eq k q ≡ true = eq-eqb k q (sym is) in
          let no : true ≡ false = sym yes ∙ apart in absurd cc

  pub held_later : (q : ℕ) (g : Holding) → stage_at st' q ≡ Some (stage.Held g) → is_held g.number (entry_at t' g.id) ≡ true
  held_later q g e =
      let other = other_stage k q (stage_at st q) (stage_at st' q) (stage.Held g) (out q) e in
      let was : is_held g.number (entry_at t g.id) ≡ true = tied.held q g other.1 in
      let apart : eqb g.number h.number ≡ false = same_number q g other.0 other.1 in
      go (nat_eq g.id h.id) refl was apart
    where
      go : (x : Bool) → nat_eq g.id h.id ≡ x → is_held g.number (entry_at t g.id) ≡ true → eqb g.number h.number ≡ false → is_held g.number (entry_at t' g.id) ≡ true
      go true p was apart =
          let is : g.id ≡ h.id = eqb-true g.id h.id p in
          let here : is_held g.number (entry_at t h.id) ≡ true = subst (λ i. is_held g.number (entry_at t i) ≡ true) is was in
          ap (is_held g.number) (step g.id) ∙ (rw p (left_held h.number g.number (entry_at t h.id) ∙ (rw apart here)))
      go false p was apart = ap (is_held g.number) (step g.id) ∙ (rw p was)

  is_later : (q : ℕ) (g : Holding) → stage_at st' q ≡ Some (stage.Held g) → inner_of behind q ≡ Some g.id
  is_later q g e = tied.is q g (other_stage k q (stage_at st q) (stage_at st' q) (stage.Held g) (out q) e).1

  once_later : (i j : ℕ) (f g : Holding) → stage_at st' i ≡ Some (stage.Held f) → stage_at st' j ≡ Some (stage.Held g) → f.number ≡ g.number → i ≡ j
  once_later i j f g e d n =
      tied.once i j f g (other_stage k i (stage_at st i) (stage_at st' i) (stage.Held f) (out i) e).1 (other_stage k j (stage_at st j) (stage_at st' j) (stage.Held g) (out j) d).1 n

  told_later : (id : ℕ) → s'.holds ≡ s.holds → IsTold s' id (answer_of (entry_at t' id))
  told_later id e = subst (λ o. IsTold s' id (answer_of o)) (sym (step id)) (go (nat_eq id h.id) refl)
    where
      go : (x : Bool) → nat_eq id h.id ≡ x → IsTold s' id (answer_of (without_holder h.number h.id (entry_at t) id))
      go true p =
          let is : id ≡ h.id = eqb-true id h.id p in
          let was : IsTold s' id (answer_of (entry_at t h.id)) = subst (λ i. IsTold s' id (answer_of (entry_at t i))) is (still_told s s' id (answer_of (entry_at t id)) e (tied.told id)) in
          rw p (left_answer (IsTold s' id) h.number (entry_at t h.id) tt was)
      go false p = rw p (still_told s s' id (answer_of (entry_at t id)) e (tied.told id))

  failed_later : (id : ℕ) → s.faults ≤ s'.faults → s'.can_fail ≡ s.can_fail → HasFailed b s' (answer_of (entry_at t' id))
  failed_later id l e = subst (λ o. HasFailed b s' (answer_of o)) (sym (step id)) (go (nat_eq id h.id) refl)
    where
      go : (x : Bool) → nat_eq id h.id ≡ x → HasFailed b s' (answer_of (without_holder h.number h.id (entry_at t) id))
      go true p =
          let is : id ≡ h.id = eqb-true id h.id p in
          let was : HasFailed b s' (answer_of (entry_at t h.id)) = subst (λ i. HasFailed b s' (answer_of (entry_at t i))) is (still_failed b s s' (answer_of (entry_at t id)) l e (tied.failed id)) in
          rw p (left_answer (HasFailed b s') h.number (entry_at t h.id) tt was)
      go false p = rw p (still_failed b s s' (answer_of (entry_at t id)) l e (tied.failed id))

  -- another holder has a stage that is another's than the one that was taken out
  keeps_stage : (id n : ℕ) → (nat_eq id h.id ≡ true → eqb n h.number ≡ false) → is_held n (entry_at t id) ≡ true → (q : ℕ) × (stage_at st' q ≡ Some (stage.Held (record { id = id; number = n })))
  keeps_stage id n apart held =
      let was = tied.each id n held in
      (was.0, go (nat_eq k was.0) refl was.1)
    where
      go : (x : Bool) → nat_eq k (tied.each id n held).0 ≡ x → stage_at st (tied.each id n held).0 ≡ Some (stage.Held (record { id = id; number = n }))
          → stage_at st' (tied.each id n held).0 ≡ Some (stage.Held (record { id = id; number = n }))
      go false p w = out (tied.each id n held).0 ∙ (rw p w)
      go true p w =
          let is : k ≡ (tied.each id n held).0 = eqb-true k (tied.each id n held).0 p in
          let two : Some (stage.Held h) ≡ Some (stage.Held (record { id = id; number = n })) = sym at ∙ ap (stage_at st) is ∙ w in
          let one : h ≡ record { id = id; number = n } = cc in
          let ids : id ≡ h.id = ap (λ (g : Holding). g.id) (sym one) in
          let numbers : n ≡ h.number = ap (λ (g : Holding). g.number) (sym one) in
          let no : true ≡ false = sym (eq-eqb n h.number numbers) ∙ apart (eq-eqb id h.id ids) in
          absurd cc

  each_later : (id n : ℕ) → is_held n (entry_at t' id) ≡ true → (q : ℕ) × (stage_at st' q ≡ Some (stage.Held (record { id = id; number = n })))
  each_later id n e = go (nat_eq id h.id) refl (sym (ap (is_held n) (step id)) ∙ e)
    where
      parts : (x y : Bool) → cond x false y ≡ true → (x ≡ false) × (y ≡ true)
      parts true y f = absurd cc
      parts false y f = (refl, f)

      go : (x : Bool) → nat_eq id h.id ≡ x → is_held n (without_holder h.number h.id (entry_at t) id) ≡ true → (q : ℕ) × (stage_at st' q ≡ Some (stage.Held (record { id = id; number = n })))
      go true p f =
          let is : id ≡ h.id = eqb-true id h.id p in
          let g : is_held n (left h.number (entry_at t h.id)) ≡ true = rw p at f in
          let both = parts (eqb n h.number) (is_held n (entry_at t h.id)) (sym (left_held h.number n (entry_at t h.id)) ∙ g) in
          keeps_stage id n (λ _. both.0) (subst (λ i. is_held n (entry_at t i) ≡ true) (sym is) both.1)
      go false p f =
          let g : is_held n (entry_at t id) ≡ true = rw p at f in
          keeps_stage id n (λ q. let no : true ≡ false = sym q ∙ p in absurd cc) g

  some_later : (id : ℕ) → is_some (entry_at t' id) ≡ true → (n : ℕ) × (is_held n (entry_at t' id) ≡ true)
  some_later id e = go (nat_eq id h.id) refl (sym (ap is_some (step id)) ∙ e)
    where
      go : (x : Bool) → nat_eq id h.id ≡ x → is_some (without_holder h.number h.id (entry_at t) id) ≡ true → (n : ℕ) × (is_held n (entry_at t' id) ≡ true)
      go true p f =
          let g : is_some (left h.number (entry_at t h.id)) ≡ true = rw p at f in
          let one = left_some h.number (entry_at t h.id) g in
          (one.0, ap (is_held one.0) (step id) ∙ (rw p one.1))
      go false p f =
          let g : is_some (entry_at t id) ≡ true = rw p at f in
          let one = tied.some id g in
          (one.0, ap (is_held one.0) (step id) ∙ (rw p one.1))

  -- the tie holds still
  pub dropped : Agree s'.live (entry_at t') → s'.holds ≡ s.holds → s.faults ≤ s'.faults → s'.can_fail ≡ s.can_fail → IsTied s' b behind t' st'
  dropped agree holds faults can_fail = record {
    agree = agree;
    held = held_later;
    is = is_later;
    once = once_later;
    each = each_later;
    some = some_later;
    told = λ id. told_later id holds;
    failed = λ id. failed_later id faults can_fail;
    made = λ q e. tied.made q (other_stage k q (stage_at st q) (stage_at st' q) stage.Made (out q) e).1;
  }

-- ---- one that is made out of nothing ends
pub unmade : (s : SourceState) (b : ℕ) (behind : List Behind) (t : List (ℕ × Held SharedAnswer)) (st st' : List (ℕ × Stage)) (k : ℕ)
    → IsTied s b behind t st → stage_at st k ≡ Some stage.Made → ((q : ℕ) → stage_at st' q ≡ cond (nat_eq k q) None (stage_at st q)) → IsTied s b behind t st'
unmade s b behind t st st' k tied at out =
    let old : (q : ℕ) (z : Stage) → stage_at st' q ≡ Some z → stage_at st q ≡ Some z = λ q z e. (other_stage k q (stage_at st q) (stage_at st' q) z (out q) e).1 in
    record {
      agree = tied.agree;
      held = λ q g e. tied.held q g (old q (stage.Held g) e);
      is = λ q g e. tied.is q g (old q (stage.Held g) e);
      once = λ i j f g e d n. tied.once i j f g (old i (stage.Held f) e) (old j (stage.Held g) d) n;
      each = λ id n h. still id n (tied.each id n h);
      some = tied.some;
      told = tied.told;
      failed = tied.failed;
      made = λ q e. tied.made q (old q stage.Made e);
    }
  where
    still : (id n : ℕ) → (q : ℕ) × (stage_at st q ≡ Some (stage.Held (record { id = id; number = n }))) → (q : ℕ) × (stage_at st' q ≡ Some (stage.Held (record { id = id; number = n })))
    still id n w = (w.0, go (nat_eq k w.0) refl)
      where
        go : (x : Bool) → nat_eq k w.0 ≡ x → stage_at st' w.0 ≡ Some (stage.Held (record { id = id; number = n }))
        go false p = out w.0 ∙ (rw p w.1)
        go true p =
            let is : k ≡ w.0 = eqb-true k w.0 p in
            let two : Some stage.Made ≡ Some (stage.Held (record { id = id; number = n })) = sym at ∙ ap (stage_at st) is ∙ w.1 in
            absurd cc

-- whether ids have a stage, once one lost it
pub unstaged : (id : ℕ) (es es' : List (ℕ × Stage)) → ((q : ℕ) → stage_at es' q ≡ cond (nat_eq id q) None (stage_at es q)) → has_stage es' ≡ without_live id (has_stage es)
unstaged id es es' h = λ i q. one q i
  where
    one : (q : ℕ) → has_stage es' q ≡ without_live id (has_stage es) q
    one q = ap is_some (h q) ∙ go (nat_eq id q) refl
      where
        go : (x : Bool) → nat_eq id q ≡ x → is_some (cond (nat_eq id q) None (stage_at es q)) ≡ without_live id (has_stage es) q
        go true p = let is : id ≡ q = eqb-true id q p in let back : nat_eq q id ≡ true = eq-eqb q id (sym is) in rw (p, back) refl
        go false p = let back : nat_eq q id ≡ false = grind (arith, nat_tests) in rw (p, back) refl

pub rests_of : (id : ℕ) (s s' : SourceState) → Stays s s' ⊎ Ends id s s' → Rests s s'
rests_of id s s' (inl a) = record { holds = a.holds; asked = a.asked; faults = a.faults; turns = a.turns; can_fail = a.can_fail }
rests_of id s s' (inr a) = record { holds = a.holds; asked = a.asked; faults = a.faults; turns = a.turns; can_fail = a.can_fail }

-- ---- a holder joins
joined_held : (n m : ℕ) (o : Option (Held SharedAnswer)) → is_held m (Some (joined n o)) ≡ cond (eqb m n) true (is_held m o)
joined_held n m None = has_insert m [] n
joined_held n m (Some e) = has_insert m e.holders n

joined_answer : (n : ℕ) (o : Option (Held SharedAnswer)) → answer_of (Some (joined n o)) ≡ answer_of o
joined_answer n None = refl
joined_answer n (Some e) = refl

-- the stage of an id after one was set, by whose it is
set_stage : (k q : ℕ) (x y : Option Stage) (w z : Stage) → y ≡ cond (nat_eq k q) (Some w) x → y ≡ Some z → ((nat_eq k q ≡ true) × (w ≡ z)) ⊎ ((nat_eq k q ≡ false) × (x ≡ Some z))
set_stage k q x y w z e f = go (nat_eq k q) refl
  where
    go : (b : Bool) → nat_eq k q ≡ b → ((nat_eq k q ≡ true) × (w ≡ z)) ⊎ ((nat_eq k q ≡ false) × (x ≡ Some z))
    go true p = let two : Some w ≡ Some z = sym (rw p at e) ∙ f in let one : w ≡ z = cc in inl (p, one)
    go false p = inr (p, sym (rw p at e) ∙ f)

module _ (s s' : SourceState) (b : ℕ) (behind : List Behind) (t t' : List (ℕ × Held SharedAnswer)) (st st' : List (ℕ × Stage)) (k : ℕ) (h : Holding)
    (tied : IsTied s b behind t st) (none : stage_at st k ≡ None) (step : Same (entry_at t') (with_holder h.number h.id (entry_at t)))
    (fresh : (id : ℕ) → is_held h.number (entry_at t id) ≡ false) (own : inner_of behind k ≡ Some h.id)
    (put : (q : ℕ) → stage_at st' q ≡ cond (nat_eq k q) (Some (stage.Held h)) (stage_at st q)) where
  -- who held holds still
  still_held : (id n : ℕ) → is_held n (entry_at t id) ≡ true → is_held n (entry_at t' id) ≡ true
  still_held id n e = ap (is_held n) (step id) ∙ go (nat_eq id h.id) refl
    where
      pick : (x : Bool) → cond x true true ≡ true
      pick true = refl
      pick false = refl

      go : (x : Bool) → nat_eq id h.id ≡ x → is_held n (with_holder h.number h.id (entry_at t) id) ≡ true
      go true p =
          let is : id ≡ h.id = eqb-true id h.id p in
          let here : is_held n (entry_at t h.id) ≡ true = subst (λ i. is_held n (entry_at t i) ≡ true) is e in
          rw p (joined_held h.number n (entry_at t h.id) ∙ ap (cond (eqb n h.number) true) here ∙ pick (eqb n h.number))
      go false p = rw p e

  holds_now : is_held h.number (entry_at t' h.id) ≡ true
  holds_now =
      let here : nat_eq h.id h.id ≡ true = eq-eqb h.id h.id refl in
      let self : eqb h.number h.number ≡ true = eq-eqb h.number h.number refl in
      ap (is_held h.number) (step h.id) ∙ (rw here (joined_held h.number h.number (entry_at t h.id) ∙ (rw self refl)))

  joins_held : (q : ℕ) (g : Holding) → stage_at st' q ≡ Some (stage.Held g) → is_held g.number (entry_at t' g.id) ≡ true
  joins_held q g e = go (set_stage k q (stage_at st q) (stage_at st' q) (stage.Held h) (stage.Held g) (put q) e)
    where
      go : ((nat_eq k q ≡ true) × (stage.Held h ≡ stage.Held g)) ⊎ ((nat_eq k q ≡ false) × (stage_at st q ≡ Some (stage.Held g))) → is_held g.number (entry_at t' g.id) ≡ true
      go (inl a) = let same = a.1 in let is : h ≡ g = cc in subst (λ x. is_held x.number (entry_at t' x.id) ≡ true) is holds_now
      go (inr a) = still_held g.id g.number (tied.held q g a.1)

  joins_is : (q : ℕ) (g : Holding) → stage_at st' q ≡ Some (stage.Held g) → inner_of behind q ≡ Some g.id
  joins_is q g e = go (set_stage k q (stage_at st q) (stage_at st' q) (stage.Held h) (stage.Held g) (put q) e)
    where
      go : ((nat_eq k q ≡ true) × (stage.Held h ≡ stage.Held g)) ⊎ ((nat_eq k q ≡ false) × (stage_at st q ≡ Some (stage.Held g))) → inner_of behind q ≡ Some g.id
      go (inl a) = let same = a.1 in let is : h ≡ g = cc in let at : k ≡ q = eqb-true k q a.0 in ap (inner_of behind) (sym at) ∙ own ∙ ap (λ (x : Holding). Some x.id) is
      go (inr a) = tied.is q g a.1

  -- no older stage has the new number
  not_old : (q : ℕ) (g : Holding) → stage_at st q ≡ Some (stage.Held g) → g.number ≡ h.number → ⊥
  not_old q g e n =
      let was : is_held g.number (entry_at t g.id) ≡ true = tied.held q g e in
      let no : is_held g.number (entry_at t g.id) ≡ false = ap (λ m. is_held m (entry_at t g.id)) n ∙ fresh g.id in
      let bad : true ≡ false = sym was ∙ no in absurd cc

  joins_once : (i j : ℕ) (f g : Holding) → stage_at st' i ≡ Some (stage.Held f) → stage_at st' j ≡ Some (stage.Held g) → f.number ≡ g.number → i ≡ j
  joins_once i j f g e d n = go (set_stage k i (stage_at st i) (stage_at st' i) (stage.Held h) (stage.Held f) (put i) e) (set_stage k j (stage_at st j) (stage_at st' j) (stage.Held h) (stage.Held g) (put j) d)
    where
      go : ((nat_eq k i ≡ true) × (stage.Held h ≡ stage.Held f)) ⊎ ((nat_eq k i ≡ false) × (stage_at st i ≡ Some (stage.Held f)))
          → ((nat_eq k j ≡ true) × (stage.Held h ≡ stage.Held g)) ⊎ ((nat_eq k j ≡ false) × (stage_at st j ≡ Some (stage.Held g))) → i ≡ j
      go (inl a) (inl c) = sym (eqb-true k i a.0) ∙ eqb-true k j c.0
      go (inl a) (inr c) = let same = a.1 in let is : h ≡ f = cc in absurd (not_old j g c.1 (sym n ∙ ap (λ (x : Holding). x.number) (sym is)))
      go (inr a) (inl c) = let same = c.1 in let is : h ≡ g = cc in absurd (not_old i f a.1 (n ∙ ap (λ (x : Holding). x.number) (sym is)))
      go (inr a) (inr c) = tied.once i j f g a.1 c.1 n

  joins_each : (id n : ℕ) → is_held n (entry_at t' id) ≡ true → (q : ℕ) × (stage_at st' q ≡ Some (stage.Held (record { id = id; number = n })))
  joins_each id n e = go (nat_eq id h.id) refl (sym (ap (is_held n) (step id)) ∙ e)
    where
      here : nat_eq k k ≡ true
      here = eq-eqb k k refl

      -- an older stage is not that of the id that had none
      older : is_held n (entry_at t id) ≡ true → (q : ℕ) × (stage_at st' q ≡ Some (stage.Held (record { id = id; number = n })))
      older f = let was = tied.each id n f in (was.0, apart was.0 was.1 (nat_eq k was.0) refl)
        where
          apart : (q : ℕ) → stage_at st q ≡ Some (stage.Held (record { id = id; number = n })) → (x : Bool) → nat_eq k q ≡ x → stage_at st' q ≡ Some (stage.Held (record { id = id; number = n }))
          apart q w false p = put q ∙ (rw p w)
          apart q w true p = let is : k ≡ q = eqb-true k q p in let two : None ≡ Some (stage.Held (record { id = id; number = n })) = sym none ∙ ap (stage_at st) is ∙ w in absurd cc

      by : (x : Bool) → eqb n h.number ≡ x → id ≡ h.id → cond (eqb n h.number) true (is_held n (entry_at t h.id)) ≡ true → (q : ℕ) × (stage_at st' q ≡ Some (stage.Held (record { id = id; number = n })))
      by true p is f =
          let number : n ≡ h.number = eqb-true n h.number p in
          (k, put k ∙ (rw here (λ i. Some (stage.Held (record { id = sym is i; number = sym number i })))))
      by false p is f = let g : is_held n (entry_at t h.id) ≡ true = rw p at f in older (subst (λ i. is_held n (entry_at t i) ≡ true) (sym is) g)

      go : (x : Bool) → nat_eq id h.id ≡ x → is_held n (with_holder h.number h.id (entry_at t) id) ≡ true → (q : ℕ) × (stage_at st' q ≡ Some (stage.Held (record { id = id; number = n })))
      go true p f =
          let g : is_held n (Some (joined h.number (entry_at t h.id))) ≡ true = rw p at f in
          by (eqb n h.number) refl (eqb-true id h.id p) (sym (joined_held h.number n (entry_at t h.id)) ∙ g)
      go false p f = older (rw p at f)

  joins_some : (id : ℕ) → is_some (entry_at t' id) ≡ true → (n : ℕ) × (is_held n (entry_at t' id) ≡ true)
  joins_some id e = go (nat_eq id h.id) refl (sym (ap is_some (step id)) ∙ e)
    where
      go : (x : Bool) → nat_eq id h.id ≡ x → is_some (with_holder h.number h.id (entry_at t) id) ≡ true → (n : ℕ) × (is_held n (entry_at t' id) ≡ true)
      go true p f = (h.number, subst (λ i. is_held h.number (entry_at t' i) ≡ true) (sym (eqb-true id h.id p)) holds_now)
      go false p f =
          let g : is_some (entry_at t id) ≡ true = rw p at f in
          let one = tied.some id g in
          (one.0, still_held id one.0 one.1)

  joins_answer : (id : ℕ) → answer_of (entry_at t' id) ≡ answer_of (entry_at t id)
  joins_answer id = ap answer_of (step id) ∙ go (nat_eq id h.id) refl
    where
      go : (x : Bool) → nat_eq id h.id ≡ x → answer_of (with_holder h.number h.id (entry_at t) id) ≡ answer_of (entry_at t id)
      go true p = rw p (joined_answer h.number (entry_at t h.id) ∙ ap (λ i. answer_of (entry_at t i)) (sym (eqb-true id h.id p)))
      go false p = rw p refl

  joins_made : (q : ℕ) → stage_at st' q ≡ Some stage.Made → inner_of behind q ≡ None
  joins_made q e = go (set_stage k q (stage_at st q) (stage_at st' q) (stage.Held h) stage.Made (put q) e)
    where
      go : ((nat_eq k q ≡ true) × (stage.Held h ≡ stage.Made)) ⊎ ((nat_eq k q ≡ false) × (stage_at st q ≡ Some stage.Made)) → inner_of behind q ≡ None
      go (inl a) = let bad = a.1 in absurd cc
      go (inr a) = tied.made q a.1

  -- the tie holds still
  pub joins : Agree s'.live (entry_at t') → s'.holds ≡ s.holds → s.faults ≤ s'.faults → s'.can_fail ≡ s.can_fail → IsTied s' b behind t' st'
  joins agree holds faults can_fail = record {
    agree = agree;
    held = joins_held;
    is = joins_is;
    once = joins_once;
    each = joins_each;
    some = joins_some;
    told = λ id. subst (IsTold s' id) (sym (joins_answer id)) (still_told s s' id (answer_of (entry_at t id)) holds (tied.told id));
    failed = λ id. subst (HasFailed b s') (sym (joins_answer id)) (still_failed b s s' (answer_of (entry_at t id)) faults can_fail (tied.failed id));
    made = joins_made;
  }

-- ---- an answer comes, or none does
answered_held : (m : ℕ) (a : SharedAnswer) (o : Option (Held SharedAnswer)) → is_held m (answered a o) ≡ is_held m o
answered_held m a None = refl
answered_held m a (Some e) = refl

answered_some : (a : SharedAnswer) (o : Option (Held SharedAnswer)) → is_some (answered a o) ≡ is_some o
answered_some a None = refl
answered_some a (Some e) = refl

answered_answer : (P : Option SharedAnswer → Type 0) (a : SharedAnswer) (o : Option (Held SharedAnswer)) → P None → P (Some a) → P (answer_of (answered a o))
answered_answer P a None none p = none
answered_answer P a (Some e) none p = p

found_told : (fits : ℕ → List ℕ → Type 0) (id : ℕ) (s s' : SourceState) (a : SharedAnswer) → s'.holds ≡ s.holds → IsFound fits id s s' a → IsTold s' id (Some a)
found_told fits id s s' (answer.Bytes b) e h = rw e h.0
found_told fits id s s' answer.Missing e h = rw e h
found_told fits id s s' (answer.Failed n) e h = tt

found_failed : (fits : ℕ → List ℕ → Type 0) (b id : ℕ) (s s' : SourceState) (a : SharedAnswer) → b ≤ s.faults → s'.can_fail ≡ s.can_fail → IsFound fits id s s' a → HasFailed b s' (Some a)
found_failed fits b id s s' (answer.Bytes x) l e h = tt
found_failed fits b id s s' answer.Missing l e h = tt
found_failed fits b id s s' (answer.Failed n) l e h = (omega (arith, h.0, l), e ∙ h.1)

module _ (fits : ℕ → List ℕ → Type 0) (s s' : SourceState) (b : ℕ) (behind : List Behind) (t t' : List (ℕ × Held SharedAnswer)) (st : List (ℕ × Stage)) (tied : IsTied s b behind t st) (agree : Agree s'.live (entry_at t')) (least : b ≤ s.faults) where
  rested : t' ≡ t → s'.holds ≡ s.holds → s.faults ≤ s'.faults → s'.can_fail ≡ s.can_fail → IsTied s' b behind t' st
  rested same holds faults can_fail = record {
    agree = agree;
    held = λ q g e. subst (λ x. is_held g.number (entry_at x g.id) ≡ true) (sym same) (tied.held q g e);
    is = tied.is;
    once = tied.once;
    each = λ id n e. tied.each id n (subst (λ x. is_held n (entry_at x id) ≡ true) same e);
    some = λ id e. let one = tied.some id (subst (λ x. is_some (entry_at x id) ≡ true) same e) in (one.0, subst (λ x. is_held one.0 (entry_at x id) ≡ true) (sym same) one.1);
    told = λ id. subst (λ x. IsTold s' id (answer_of (entry_at x id))) (sym same) (still_told s s' id (answer_of (entry_at t id)) holds (tied.told id));
    failed = λ id. subst (λ x. HasFailed b s' (answer_of (entry_at x id))) (sym same) (still_failed b s s' (answer_of (entry_at t id)) faults can_fail (tied.failed id));
    made = tied.made;
  }

  arrived : (id : ℕ) → Arrives fits s s' t t' id → IsTied s' b behind t' st
  arrived id a = record {
    agree = agree;
    held = λ q g e. held_same g.number g.id ∙ tied.held q g e;
    is = tied.is;
    once = tied.once;
    each = λ i n e. tied.each i n (sym (held_same n i) ∙ e);
    some = λ i e. let one = tied.some i (sym (some_same i) ∙ e) in (one.0, held_same one.0 i ∙ one.1);
    told = told_now;
    failed = failed_now;
    made = tied.made;
  }
    where
      held_same : (m i : ℕ) → is_held m (entry_at t' i) ≡ is_held m (entry_at t i)
      held_same m i = ap (is_held m) (a.step i) ∙ go (nat_eq i id) refl
        where
          go : (x : Bool) → nat_eq i id ≡ x → is_held m (with_answer id a.answer (entry_at t) i) ≡ is_held m (entry_at t i)
          go true p = rw p (answered_held m a.answer (entry_at t id) ∙ ap (λ j. is_held m (entry_at t j)) (sym (eqb-true i id p)))
          go false p = rw p refl

      some_same : (i : ℕ) → is_some (entry_at t' i) ≡ is_some (entry_at t i)
      some_same i = ap is_some (a.step i) ∙ go (nat_eq i id) refl
        where
          go : (x : Bool) → nat_eq i id ≡ x → is_some (with_answer id a.answer (entry_at t) i) ≡ is_some (entry_at t i)
          go true p = rw p (answered_some a.answer (entry_at t id) ∙ ap (λ j. is_some (entry_at t j)) (sym (eqb-true i id p)))
          go false p = rw p refl

      told_now : (i : ℕ) → IsTold s' i (answer_of (entry_at t' i))
      told_now i = subst (λ o. IsTold s' i (answer_of o)) (sym (a.step i)) (go (nat_eq i id) refl)
        where
          go : (x : Bool) → nat_eq i id ≡ x → IsTold s' i (answer_of (with_answer id a.answer (entry_at t) i))
          go true p = rw p (answered_answer (IsTold s' i) a.answer (entry_at t id) tt (subst (λ j. IsTold s' j (Some a.answer)) (sym (eqb-true i id p)) (found_told fits id s s' a.answer a.source.holds a.found)))
          go false p = rw p (still_told s s' i (answer_of (entry_at t i)) a.source.holds (tied.told i))

      failed_now : (i : ℕ) → HasFailed b s' (answer_of (entry_at t' i))
      failed_now i = subst (λ o. HasFailed b s' (answer_of o)) (sym (a.step i)) (go (nat_eq i id) refl)
        where
          go : (x : Bool) → nat_eq i id ≡ x → HasFailed b s' (answer_of (with_answer id a.answer (entry_at t) i))
          go true p = rw p (answered_answer (HasFailed b s') a.answer (entry_at t id) tt (found_failed fits b id s s' a.answer least a.source.can_fail a.found))
          go false p = rw p (still_failed b s s' (answer_of (entry_at t i)) a.source.faults a.source.can_fail (tied.failed i))

  -- the tie holds still
  pub polled : (id : ℕ) → Polls fits s s' t t' id → IsTied s' b behind t' st
  polled id (inl (same, inl (there, still))) = rested same (ap (λ (x : SourceState). x.holds) still) (let f : s'.faults ≡ s.faults = ap (λ (x : SourceState). x.faults) still in omega (arith, f)) (ap (λ (x : SourceState). x.can_fail) still)
  polled id (inl (same, inr (live, stays))) = rested same stays.holds stays.faults stays.can_fail
  polled id (inr a) = arrived id a

-- ---- one that is made out of nothing begins
pub made : (s : SourceState) (b : ℕ) (behind : List Behind) (t : List (ℕ × Held SharedAnswer)) (st st' : List (ℕ × Stage)) (k : ℕ)
    → IsTied s b behind t st → stage_at st k ≡ None → inner_of behind k ≡ None → ((q : ℕ) → stage_at st' q ≡ cond (nat_eq k q) (Some stage.Made) (stage_at st q)) → IsTied s b behind t st'
made s b behind t st st' k tied none own put =
    let old : (q : ℕ) (g : Holding) → stage_at st' q ≡ Some (stage.Held g) → stage_at st q ≡ Some (stage.Held g) = λ q g e. back q g (set_stage k q (stage_at st q) (stage_at st' q) stage.Made (stage.Held g) (put q) e) in
    record {
      agree = tied.agree;
      held = λ q g e. tied.held q g (old q g e);
      is = λ q g e. tied.is q g (old q g e);
      once = λ i j f g e d n. tied.once i j f g (old i f e) (old j g d) n;
      each = λ id n h. still id n (tied.each id n h);
      some = tied.some;
      told = tied.told;
      failed = tied.failed;
      made = λ q e. blank q (set_stage k q (stage_at st q) (stage_at st' q) stage.Made stage.Made (put q) e);
    }
  where
    blank : (q : ℕ) → ((nat_eq k q ≡ true) × (stage.Made ≡ stage.Made)) ⊎ ((nat_eq k q ≡ false) × (stage_at st q ≡ Some stage.Made)) → inner_of behind q ≡ None
    blank q (inl a) = ap (inner_of behind) (sym (eqb-true k q a.0)) ∙ own
    blank q (inr a) = tied.made q a.1

    back : (q : ℕ) (g : Holding) → ((nat_eq k q ≡ true) × (stage.Made ≡ stage.Held g)) ⊎ ((nat_eq k q ≡ false) × (stage_at st q ≡ Some (stage.Held g))) → stage_at st q ≡ Some (stage.Held g)
    back q g (inl a) = let bad = a.1 in absurd cc
    back q g (inr a) = a.1

    still : (id n : ℕ) → (q : ℕ) × (stage_at st q ≡ Some (stage.Held (record { id = id; number = n }))) → (q : ℕ) × (stage_at st' q ≡ Some (stage.Held (record { id = id; number = n })))
    still id n w = (w.0, go (nat_eq k w.0) refl)
      where
        go : (x : Bool) → nat_eq k w.0 ≡ x → stage_at st' w.0 ≡ Some (stage.Held (record { id = id; number = n }))
        go false p = put w.0 ∙ (rw p w.1)
        go true p =
            let is : k ≡ w.0 = eqb-true k w.0 p in
            let two : None ≡ Some (stage.Held (record { id = id; number = n })) = sym none ∙ ap (stage_at st) is ∙ w.1 in
            absurd cc

-- the same stages, and a source that tells the same
pub same_stages : (s s' : SourceState) (b : ℕ) (behind : List Behind) (t t' : List (ℕ × Held SharedAnswer)) (st st' : List (ℕ × Stage)) → IsTied s b behind t st → t' ≡ t → Agree s'.live (entry_at t')
    → Stays s s' → ((q : ℕ) → stage_at st' q ≡ stage_at st q) → IsTied s' b behind t' st'
same_stages s s' b behind t t' st st' tied same agree stays stages = record {
  agree = agree;
  held = λ q g e. subst (λ x. is_held g.number (entry_at x g.id) ≡ true) (sym same) (tied.held q g (sym (stages q) ∙ e));
  is = λ q g e. tied.is q g (sym (stages q) ∙ e);
  once = λ i j f g e d n. tied.once i j f g (sym (stages i) ∙ e) (sym (stages j) ∙ d) n;
  each = λ id n e. let w = tied.each id n (subst (λ x. is_held n (entry_at x id) ≡ true) same e) in (w.0, stages w.0 ∙ w.1);
  some = λ id e. let one = tied.some id (subst (λ x. is_some (entry_at x id) ≡ true) same e) in (one.0, subst (λ x. is_held one.0 (entry_at x id) ≡ true) (sym same) one.1);
  told = λ id. subst (λ x. IsTold s' id (answer_of (entry_at x id))) (sym same) (still_told s s' id (answer_of (entry_at t id)) stays.holds (tied.told id));
  failed = λ id. subst (λ x. HasFailed b s' (answer_of (entry_at x id))) (sym same) (still_failed b s s' (answer_of (entry_at t id)) stays.faults stays.can_fail (tied.failed id));
  made = λ q e. tied.made q (sym (stages q) ∙ e);
}

-- one that was set twice
pub set_twice : (k : ℕ) (x y : Option Stage) (es fs gs : List (ℕ × Stage)) → ((q : ℕ) → stage_at fs q ≡ cond (nat_eq k q) y (stage_at es q)) → ((q : ℕ) → stage_at gs q ≡ cond (nat_eq k q) x (stage_at fs q)) → (q : ℕ) → stage_at gs q ≡ cond (nat_eq k q) x (stage_at es q)
set_twice k x y es fs gs h g q = g q ∙ go (nat_eq k q) refl
  where
    go : (b : Bool) → nat_eq k q ≡ b → cond (nat_eq k q) x (stage_at fs q) ≡ cond (nat_eq k q) x (stage_at es q)
    go true p = rw p refl
    go false p = let f : stage_at fs q ≡ stage_at es q = h q ∙ (rw p refl) in rw (p, f) refl

-- one that had no stage and has none
pub set_none : (k : ℕ) (es fs : List (ℕ × Stage)) → stage_at es k ≡ None → ((q : ℕ) → stage_at fs q ≡ cond (nat_eq k q) None (stage_at es q)) → (q : ℕ) → stage_at fs q ≡ stage_at es q
set_none k es fs none h q = h q ∙ go (nat_eq k q) refl
  where
    go : (b : Bool) → nat_eq k q ≡ b → cond (nat_eq k q) None (stage_at es q) ≡ stage_at es q
    go true p = let is : k ≡ q = eqb-true k q p in rw p (sym none ∙ ap (stage_at es) is)
    go false p = rw p refl

pub staged : (id : ℕ) (x : Stage) (es es' : List (ℕ × Stage)) → ((q : ℕ) → stage_at es' q ≡ cond (nat_eq id q) (Some x) (stage_at es q)) → has_stage es' ≡ with_live id (has_stage es)
staged id x es es' h = λ i q. one q i
  where
    one : (q : ℕ) → has_stage es' q ≡ with_live id (has_stage es) q
    one q = ap is_some (h q) ∙ go (nat_eq id q) refl
      where
        go : (b : Bool) → nat_eq id q ≡ b → is_some (cond (nat_eq id q) (Some x) (stage_at es q)) ≡ with_live id (has_stage es) q
        go true p = let is : id ≡ q = eqb-true id q p in let back : nat_eq q id ≡ true = eq-eqb q id (sym is) in rw (p, back) refl
        go false p = let back : nat_eq q id ≡ false = grind (arith, nat_tests) in rw (p, back) refl

pub same_live : (es fs : List (ℕ × Stage)) → ((q : ℕ) → stage_at fs q ≡ stage_at es q) → has_stage fs ≡ has_stage es
same_live es fs h = λ i q. is_some (h q i)

-- an ask that is made or shared keeps what is told
pub record Keeps (s s' : SourceState) : Type 0 where
  pub holds : s'.holds ≡ s.holds
  pub faults : s.faults ≤ s'.faults
  pub can_fail : s'.can_fail ≡ s.can_fail

pub asks_keep : (o : Option (Held SharedAnswer)) (id : ℕ) (s s' : SourceState) → Asks o id s s' → Keeps s s'
asks_keep None id s s' a = record { holds = a.holds; faults = a.faults; can_fail = a.can_fail }
asks_keep (Some e) id s s' a =
    let f : s'.faults ≡ s.faults = ap (λ (x : SourceState). x.faults) a in
    record { holds = ap (λ (x : SourceState). x.holds) a; faults = omega (arith, f); can_fail = ap (λ (x : SourceState). x.can_fail) a }

pub gives_told : (s : SourceState) (b : ℕ) (behind : List Behind) (t : List (ℕ × Held SharedAnswer)) (st : List (ℕ × Stage)) (id : ℕ) (r : SharedPolled) → IsTied s b behind t st → Gives (entry_at t id) r → IsToldShared s b id r
gives_told s b behind t st id shared.Pending tied g = tt
gives_told s b behind t st id (shared.Bytes x) tied g = subst (IsTold s id) g (tied.told id)
gives_told s b behind t st id shared.Missing tied g = subst (IsTold s id) g (tied.told id)
gives_told s b behind t st id (shared.Failed n) tied g = subst (HasFailed b s) g (tied.failed id)
gives_told s b behind t st id shared.NoMemory tied g = tt

pub polls_rests : (fits : ℕ → List ℕ → Type 0) (s s' : SourceState) (t t' : List (ℕ × Held SharedAnswer)) (id : ℕ) → Polls fits s s' t t' id → Rests s s'
polls_rests fits s s' t t' id (inl (same, inl (there, still))) =
    let f : s'.faults ≡ s.faults = ap (λ (x : SourceState). x.faults) still in
    let u : s'.turns ≡ s.turns = ap (λ (x : SourceState). x.turns) still in
    record { holds = ap (λ (x : SourceState). x.holds) still; asked = ap (λ (x : SourceState). x.asked) still; faults = omega (arith, f); turns = omega (arith, u); can_fail = ap (λ (x : SourceState). x.can_fail) still }
polls_rests fits s s' t t' id (inl (same, inr (live, stays))) = record { holds = stays.holds; asked = stays.asked; faults = stays.faults; turns = stays.turns; can_fail = stays.can_fail }
polls_rests fits s s' t t' id (inr a) = let e = a.source in record { holds = e.holds; asked = e.asked; faults = e.faults; turns = e.turns; can_fail = e.can_fail }
