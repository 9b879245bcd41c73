-- The splits that wait for nothing are polled, one after the other.
use Rattle.std.proofs.Common.{◌≡◌, ◌≢◌, ℕ, List, [], length, Bool, true, false, not, ◌||◌, eqb, inl, inr, refl, sym, ap, ◌∙◌, subst, arith}
use Rattle.std.specs.Prelude.{◌⊎◌}
use Rattle.std.proofs.lemmas.Bool.{cases_eq}
use Rattle.std.proofs.lemmas.Bool.Decides.{nat_tests}
use Rattle.scan_values.specs.Selections.{is_among}
use Rattle.scan_segments.specs.Source.{Store}
use Rattle.scan_splits.specs.Arrivals.{Arrivals}
use Rattle.scan_splits.specs.Wanted.{no_repeats}
use Rattle.scan_splits.proofs.Wanting.{distinct-push}
use Rattle.scan_drive.specs.Actives.{IsHalted}
use Rattle.scan_drive.specs.Chunks.{fault_of}
use Rattle.scan_drive.specs.Drives.{NoneOf}
use Rattle.scan_drive.specs.Looks.{Looks, LooksAt, FoundWaits, IsPolled, EachPolled, is_ended, is_wait}
use Rattle.scan_drive.specs.Lost.{has_come, IsLost, HaltsOver, EndsBy, Follows, EachFollows, HasLost, StopsOver}
use Rattle.scan_drive.specs.Measures.{is_there}
use Rattle.scan_drive.specs.Runs.{RunData, is_ready}
use Rattle.scan_drive.specs.Slots.{slot_at, is_fresh, also_if, given_up, HasFresh}
use Rattle.scan_drive.specs.Splits.{SplitState, Event, lacks}
use Rattle.scan_drive.specs.Turns.{IsGone}
use Rattle.scan_drive.specs.declared.active.Active.{Active}
use Rattle.scan_drive.specs.declared.looking.Found.{Found}
use Rattle.scan_drive.specs.declared.looking.Found.TheVariants as found
use Rattle.scan_drive.specs.declared.slot.Halt.{Halt}
use Rattle.scan_drive.specs.declared.slot.Halt.TheVariants as halt
use Rattle.scan_drive.specs.declared.slot.Slot.{Slot}
use Rattle.scan_drive.specs.declared.slot.Stage.{Stage}
use Rattle.scan_drive.specs.declared.slot.Stage.TheVariants as stage
use Rattle.scan_drive.proofs.Desking.{among_snoc}
use Rattle.scan_drive.proofs.Following.{follows_same, follows_ended}
use Rattle.scan_drive.proofs.Linking.{done_settled, same_slot, waits_settled}

module _ {W I R : Type 0} (split : W → SplitState I) (comes : W → Arrivals → Store → Event → Type 0) (items : R → List I) where
  -- after a look nothing waits for a poll
  looks_settled : (old new : Stage W R) (f : Found) → Looks split comes items old new f → is_fresh new ≡ false
  looks_settled old new found.Nothing l = ap is_fresh l.0 ∙ l.1
  looks_settled old new found.Done l = done_settled new l.1
  looks_settled old new found.Waits l = waits_settled split comes items old new l

  pub look_settled : (place : ℕ) (list list' : List ℕ) (old new : Slot W R) → LooksAt split comes items place list list' old new → is_fresh new.stage ≡ false
  look_settled place list list' old new l = looks_settled old.stage new.stage l.found l.looks

  -- a slot that is still to be polled is as before
  record Untouched (asking : List ℕ) (place : ℕ) (old now : Slot W R) : Type 0 where
    off : is_among asking place ≡ false
    same : now ≡ old

  untouched : (asking : List ℕ) (place : ℕ) (old now : Slot W R) → IsPolled split comes items (is_among asking place) old now → is_fresh now.stage ≡ true → Untouched asking place old now
  untouched asking place old now p f = go (is_among asking place) refl
    where
      same : (now ≡ old) ⊎ ((is_fresh old.stage ≡ true) × (is_ended now.stage ≡ true) × EndsBy old.stage now.stage) → now ≡ old
      same (inl e) = e
      same (inr e) = let bad = sym f ∙ done_settled now.stage e.1 in absurd cc

      go : (b : Bool) → is_among asking place ≡ b → Untouched asking place old now
      go true e = let bad = sym f ∙ waits_settled split comes items old.stage now.stage (p.waits e) in absurd cc
      go false e = record { off = e; same = same (p.other e) }

  -- what a look at a place makes of the slot there
  record Next (list list' : List ℕ) (place : ℕ) (old new : Slot W R) : Type 0 where
    here : IsPolled split comes items (is_among list' place) old new
    others : (q : ℕ) → q ≢ place → is_among list' q ≡ is_among list q
    once : no_repeats list ≡ true → no_repeats list' ≡ true

  next : (place : ℕ) (list list' : List ℕ) (old now new : Slot W R) → IsPolled split comes items (is_among list place) old now → new.file ≡ now.file → (f : Found) → Looks split comes items now.stage new.stage f → list' ≡ also_if (is_wait f) place list → Next list list' place old new
  next place list list' old now new p file found.Nothing l e =
      record {
        here = subst (λ (s : Slot W R). IsPolled split comes items (is_among list' place) old s) (sym (same_slot now new file l.0)) (subst (λ (xs : List ℕ). IsPolled split comes items (is_among xs place) old now) (sym e) p);
        others = λ q n. ap (λ (xs : List ℕ). is_among xs q) e;
        once = λ o. ap no_repeats e ∙ o;
      }
  next place list list' old now new p file found.Done l e =
      let u = untouched list place old now p l.0 in
      record {
        here = subst (λ (xs : List ℕ). IsPolled split comes items (is_among xs place) old new) (sym e) (record {
          file_is = file ∙ p.file_is;
          waits = λ m. let bad = sym m ∙ u.off in absurd cc;
          other = λ m. inr (sym (ap (λ (s : Slot W R). is_fresh s.stage) u.same) ∙ l.0, l.1, subst (λ (s : Slot W R). EndsBy s.stage new.stage) u.same l.2);
        });
        others = λ q n. ap (λ (xs : List ℕ). is_among xs q) e;
        once = λ o. ap no_repeats e ∙ o;
      }
  next place list list' old now new p file found.Waits l e =
      let u = untouched list place old now p (ap is_fresh l.was ∙ l.ready) in
      let on : eqb place place ≡ true = grind (arith, nat_tests) in
      let m : is_among list' place ≡ true = ap (λ (xs : List ℕ). is_among xs place) e ∙ among_snoc list place place ∙ ap (λ b. is_among list place || b) on ∙ or_true (is_among list place) in
      record {
        here = record {
          file_is = file ∙ p.file_is;
          waits = λ k. subst (λ (s : Slot W R). FoundWaits split comes items s.stage new.stage) u.same l;
          other = λ k. let bad = sym k ∙ m in absurd cc;
        };
        others = λ q n. ap (λ (xs : List ℕ). is_among xs q) e ∙ among_snoc list place q ∙ off q n;
        once = λ o. ap no_repeats e ∙ distinct-push list place o u.off;
      }
    where
      or_true : (b : Bool) → (b || true) ≡ true
      or_true true = refl
      or_true false = refl

      or_false : (b : Bool) → (b || false) ≡ b
      or_false true = refl
      or_false false = refl

      off : (q : ℕ) → q ≢ place → (is_among list q || eqb place q) ≡ is_among list q
      off q n = go (eqb place q) refl
        where
          go : (b : Bool) → eqb place q ≡ b → (is_among list q || eqb place q) ≡ is_among list q
          go true e = let same : q ≡ place = grind (arith, nat_tests) in absurd (n same)
          go false e = ap (λ b. is_among list q || b) e ∙ or_false (is_among list q)

  pub polled_none : (slots : List (Slot W R)) → EachPolled split comes items [] slots slots
  polled_none slots = record { len = refl; at = λ p. record { file_is = refl; waits = λ m. absurd cc; other = λ m. inl refl } }

  next_at : (place : ℕ) (list list' : List ℕ) (old now new : List (Slot W R)) → EachPolled split comes items list old now → LooksAt split comes items place list list' (slot_at now place) (slot_at new place) → Next list list' place (slot_at old place) (slot_at new place)
  next_at place list list' old now new p l = next place list list' (slot_at old place) (slot_at now place) (slot_at new place) (p.at place) l.file_is l.found l.looks l.listed

  pub polled_next : (place : ℕ) (list list' : List ℕ) (old now new : List (Slot W R)) → EachPolled split comes items list old now → length new ≡ length now → ((q : ℕ) → q ≢ place → slot_at new q ≡ slot_at now q) → LooksAt split comes items place list list' (slot_at now place) (slot_at new place) →
      EachPolled split comes items list' old new
  polled_next place list list' old now new p n o l = record { len = n ∙ p.len; at = λ q. go q (cases_eq q place) }
    where
      x : Next list list' place (slot_at old place) (slot_at new place)
      x = next_at place list list' old now new p l

      go : (q : ℕ) → (q ≡ place) ⊎ (q ≢ place) → IsPolled split comes items (is_among list' q) (slot_at old q) (slot_at new q)
      go q (inl is) = subst (λ k. IsPolled split comes items (is_among list' k) (slot_at old k) (slot_at new k)) (sym is) x.here
      go q (inr ne) = subst (λ b. IsPolled split comes items b (slot_at old q) (slot_at new q)) (sym (x.others q ne)) (subst (λ (s : Slot W R). IsPolled split comes items (is_among list q) (slot_at old q) s) (sym (o q ne)) (p.at q))

  pub once_next : (place : ℕ) (list list' : List ℕ) (old now new : List (Slot W R)) → EachPolled split comes items list old now → LooksAt split comes items place list list' (slot_at now place) (slot_at new place) → no_repeats list ≡ true → no_repeats list' ≡ true
  once_next place list list' old now new p l o = (next_at place list list' old now new p l).once o

-- ---- splits that have ended
module _ {W I R : Type 0} (split : W → SplitState I) (comes : W → Arrivals → Store → Event → Type 0) (items : R → List I) where
  ends_lost : (r q : RunData W) (h : Halt) → q.inbox ≡ r.inbox → HaltsOver {R = R} (stage.Reads r) h → EndsBy {R = R} (stage.Reads r) (stage.Halted q h)
  ends_lost r q h e o = record {
    there = refl;
    came = λ id k. ap (λ (i : Arrivals). not (lacks i id)) (sym e) ∙ k;
    halts = λ g k. subst (λ (z : Halt). HaltsOver {R = R} (stage.Reads r) z) k o;
  }

  pub looks_lost : (file : ℕ) (x : Stage W R) (new : Slot W R) (r q : RunData W) (h : Halt) (f : Found) → x ≡ stage.Reads r → is_ready r ≡ true → q.inbox ≡ r.inbox
      → new ≡ given_up h (record { file = file; stage = stage.Reads q }) → f ≡ found.Done → HaltsOver {R = R} (stage.Reads r) h → Looks split comes items x new.stage f
  looks_lost file x new r q h f e ready inbox lost done over =
      let stage_is : new.stage ≡ stage.Halted q h = ap (λ (s : Slot W R). s.stage) lost in
      subst (Looks split comes items x new.stage) (sym done)
      (ap is_fresh e ∙ ready, ap is_ended stage_is, subst (λ (z : Stage W R). EndsBy z new.stage) (sym e) (subst (EndsBy (stage.Reads r)) (sym stage_is) (ends_lost r q h inbox over)))

  pub looks_read : (x : Stage W R) (r : RunData W) (rows : R) → x ≡ stage.Reads r → is_ready r ≡ true → Looks split comes items x (stage.Read rows) found.Done
  looks_read x r rows e ready = (ap is_fresh e ∙ ready, refl, subst (λ (z : Stage W R). EndsBy z (stage.Read rows)) (sym e) (record { there = refl; came = λ id k. absurd cc; halts = λ g k. absurd k }))

  -- all polls
  pub polled_follows : (asking : List ℕ) (old new : List (Slot W R)) → EachPolled split comes items asking old new → EachFollows NoneOf NoneOf old new
  polled_follows asking old new p place = go (is_among asking place) (p.at place)
    where
      go : (b : Bool) → IsPolled split comes items b (slot_at old place) (slot_at new place) → Follows (λ id. ⊥) (λ id. ⊥) (slot_at old place) (slot_at new place)
      go true h = waits_follow (slot_at old place) (slot_at new place) h.file_is (h.waits refl)
        where
          waits_follow : (s t : Slot W R) → t.file ≡ s.file → FoundWaits split comes items s.stage t.stage → Follows (λ id. ⊥) (λ id. ⊥) s t
          waits_follow s t file w = record {
            there = λ k. (ap is_there w.was, file);
            came = λ id k. inl (ap (λ (z : Stage W R). has_come z id) w.was ∙ ap (λ (i : Arrivals). not (lacks i id)) (sym w.inbox) ∙ sym (ap (λ (z : Stage W R). has_come z id) w.now) ∙ k);
            failed = λ id k. absurd (subst (IsLost (halt.Source id)) w.now k);
            spoilt = λ id k. absurd (subst (IsLost (halt.Corrupt id)) w.now k);
          }
      go false h = other (h.other refl)
        where
          other : (slot_at new place ≡ slot_at old place) ⊎ ((is_fresh (slot_at old place).stage ≡ true) × (is_ended (slot_at new place).stage ≡ true) × EndsBy (slot_at old place).stage (slot_at new place).stage) → Follows (λ id. ⊥) (λ id. ⊥) (slot_at old place) (slot_at new place)
          other (inl e) = follows_same (λ id. ⊥) (λ id. ⊥) (slot_at old place) (slot_at new place) e
          other (inr e) = follows_ended (slot_at old place) (slot_at new place) h.file_is e.2

-- ---- splits whose rows were taken
module _ {W R : Type 0} where
  gone_follows : (s t : Slot W R) → IsGone s t → Follows (λ id. ⊥) (λ id. ⊥) s t
  gone_follows s t (inl e) = follows_same (λ id. ⊥) (λ id. ⊥) s t e
  gone_follows s t (inr h) = record {
    there = λ k. (let bad = sym k ∙ ap is_there h.2 in absurd cc);
    came = λ id k. (let bad = sym k ∙ ap (λ (z : Stage W R). has_come z id) h.2 in absurd cc);
    failed = λ id k. absurd (subst (IsLost (halt.Source id)) h.2 k);
    spoilt = λ id k. absurd (subst (IsLost (halt.Corrupt id)) h.2 k);
  }

  pub all_gone_follow : (old new : List (Slot W R)) → ((q : ℕ) → IsGone (slot_at old q) (slot_at new q)) → EachFollows NoneOf NoneOf old new
  all_gone_follow old new g place = gone_follows (slot_at old place) (slot_at new place) (g place)

  -- a split that is given up at its turn was so before
  pub stops_over : (file : ℕ) (h : Halt) (old now : List (Slot W R)) (a : Active W R) → a.slots.items ≡ now → ((q : ℕ) → IsGone (slot_at old q) (slot_at now q)) → IsHalted file h a → StopsOver old (fault_of file h)
  stops_over file h old now a e g t = fault h (before (g t.place))
    where
      was : slot_at now t.place ≡ record { file = file; stage = stage.Halted t.run h }
      was = sym (ap (λ (ss : List (Slot W R)). slot_at ss t.place) e) ∙ t.was

      before : IsGone (slot_at old t.place) (slot_at now t.place) → HasLost old file h
      before (inl same) =
          let is : slot_at old t.place ≡ record { file = file; stage = stage.Halted t.run h } = sym same ∙ was in
          record { place = t.place; file_is = ap (λ (s : Slot W R). s.file) is; lost = subst (λ (s : Slot W R). IsLost h s.stage) (sym is) refl }
      before (inr gone) = let bad : true ≡ false = sym (ap (λ (s : Slot W R). is_there s.stage) was) ∙ ap is_there gone.2 in absurd cc

      fault : (g : Halt) → HasLost old file g → StopsOver old (fault_of file g)
      fault (halt.Source id) l = l
      fault (halt.Corrupt id) l = l
      fault halt.Overflow l = l
      fault halt.NoMemory l = tt

-- none waits for nothing
pub none_fresh : {W R : Type 0} (slots : List (Slot W R)) (places : List ℕ) → places ≡ [] → HasFresh slots places → (place : ℕ) → is_fresh (slot_at slots place).stage ≡ false
none_fresh slots places e h place = go (is_fresh (slot_at slots place).stage) refl
  where
    go : (b : Bool) → is_fresh (slot_at slots place).stage ≡ b → is_fresh (slot_at slots place).stage ≡ false
    go false f = f
    go true f = let bad = sym (ap (λ (xs : List ℕ). is_among xs place) e) ∙ h place f in absurd cc
