-- Steps keep the rows of the splits, and that they are as their files have them.
use Rattle.std.proofs.Common.{◌≡◌, ◌≢◌, ℕ, ◌<◌, List, [], ◌∷◌, Bool, true, false, cond, eqb, Option, Some, None, is_none, length, set, inl, inr, refl, sym, ap, ◌∙◌, subst, arith, length-set}
use Rattle.std.specs.Prelude.{◌⊎◌}
use Rattle.std.specs.Cmp.{nat_cmp_total}
use Rattle.std.specs.FinMap as map
use Rattle.std.proofs.lemmas.Bool.{cases_eq}
use Rattle.std.proofs.lemmas.Bool.Decides.{nat_tests}
use Rattle.scan_segments.specs.Source.{Store}
use Rattle.scan_segments.proofs.LiveSets.{at-id}
use Rattle.scan_values.specs.Selections.{is_among}
use Rattle.scan_splits.specs.Arrivals.{Arrivals, Agrees, content}
use Rattle.scan_splits.specs.Wanted.{no_repeats}
use Rattle.scan_splits.specs.declared.inbox.Arrival.{Arrival}
use Rattle.scan_drive.specs.Files.{Part}
use Rattle.scan_drive.specs.Runs.{RunData, with_arrival, run_waits}
use Rattle.scan_drive.specs.Slots.{RunOk, HaltAt, StageOk, SlotKeeps, EachKeeps, stage_rows, slot_at, handed, given_up, at_each, AllTake, MayTake, stage_waits, is_halted, stage_handed, stage_given_up}
use Rattle.scan_drive.specs.Splits.{SplitState, Event, Extends, lacks, SameSplit}
use Rattle.scan_drive.specs.declared.slot.Halt.{Halt}
use Rattle.scan_drive.specs.declared.slot.Halt.TheVariants as halt
use Rattle.scan_drive.specs.declared.slot.Slot.{Slot}
use Rattle.scan_drive.specs.declared.slot.Stage.{Stage}
use Rattle.scan_drive.specs.declared.slot.Stage.TheVariants as stage
use Rattle.scan_drive.proofs.Handing.{Walks, walks_next, walks_within, walks_take, at_set_other, at_set_same, and_both}

pub extends_refl : (here : Arrivals) → Extends here here
extends_refl here id a h = h

pub extends_then : (a b c : Arrivals) → Extends a b → Extends b c → Extends a c
extends_then a b c h k id x e = k id x (h id x e)

-- an inbox with an arrival more
got : (inbox : Arrivals) (id : ℕ) (a : Arrival) (q : ℕ) → map.get (map.insert inbox id a) q ≡ cond (eqb id q) (Some a) (map.get inbox q)
got inbox id a q = map.get-insert nat_cmp_total inbox id a q ∙ ap (λ b. cond b (Some a) (map.get inbox q)) (at-id q id)

-- nothing has arrived of an id
none_there : (o : Option Arrival) (a : Arrival) → is_none o ≡ true → o ≡ Some a → false ≡ true
none_there (Some b) a h e = h
none_there None a h e = cc

pub extends_arrival : (inbox : Arrivals) (id : ℕ) (a : Arrival) → lacks inbox id ≡ true → Extends inbox (map.insert inbox id a)
extends_arrival inbox id a l q b h = got inbox id a q ∙ go (eqb id q) refl
  where
    go : (t : Bool) → eqb id q ≡ t → cond t (Some a) (map.get inbox q) ≡ Some b
    go true e = let same : q ≡ id = grind (arith, nat_tests) in let bad = none_there (map.get inbox id) b l (sym (ap (map.get inbox) same) ∙ h) in absurd cc
    go false e = h

pub agrees_arrival : (store : Store) (inbox : Arrivals) (id : ℕ) (a : Arrival) → store id ≡ content a → Agrees store inbox → Agrees store (map.insert inbox id a)
agrees_arrival store inbox id a t h q b e = go (eqb id q) refl (sym (got inbox id a q) ∙ e)
  where
    go : (t : Bool) → eqb id q ≡ t → cond t (Some a) (map.get inbox q) ≡ Some b → store q ≡ content b
    go true i f = let same : q ≡ id = grind (arith, nat_tests) in let is : a ≡ b = cc in ap store same ∙ t ∙ ap content is
    go false i f = h q b f

module _ {W I R : Type 0} (split : W → SplitState I) (comes : W → Arrivals → Store → Event → Type 0) (items : R → List I) (p : Part I) (store : Store) where
  pub run_polled : (old new : RunData W) → SameSplit split comes old.inbox new.work old.work → new.inbox ≡ old.inbox → RunOk split comes p store old → RunOk split comes p store new
  run_polled old new s e h = record {
    agrees = subst (Agrees store) (sym e) h.agrees;
    overflow = λ o. h.overflow (sym (s.overflow store h.agrees) ∙ o);
    within = λ more v x a c. let y : Extends old.inbox more = subst (λ (i : Arrivals). Extends i more) e x in h.within more v y a (s.comes_to more store v y a c);
  }

  pub run_handed : (r : RunData W) (id : ℕ) (a : Arrival) → run_waits r id ≡ true → store id ≡ content a → RunOk split comes p store r → RunOk split comes p store (with_arrival id a r)
  run_handed r id a w t h =
      let l = (and_both (is_among r.wanted id) (lacks r.inbox id) w).1 in
      record {
        agrees = agrees_arrival store r.inbox id a t h.agrees;
        overflow = h.overflow;
        within = λ more v x g c. h.within more v (extends_then r.inbox (map.insert r.inbox id a) more (extends_arrival r.inbox id a l) x) g c;
      }

  pub keeps_refl : (s : Slot W R) → SlotKeeps split comes items p store s s
  keeps_refl s = record { file_is = refl; rows = λ h. refl; ok = λ h. h }

  pub keeps_then : (a b c : Slot W R) → SlotKeeps split comes items p store a b → SlotKeeps split comes items p store b c → SlotKeeps split comes items p store a c
  keeps_then a b c h k = record { file_is = k.file_is ∙ h.file_is; rows = λ o. k.rows (h.ok o) ∙ h.rows o; ok = λ o. k.ok (h.ok o) }

  -- a slot of which the stage alone is another
  keeps_stage : (s t : Slot W R) (x y : Stage W R) → s.stage ≡ x → t ≡ record s { stage = y } → (StageOk split comes items p store x → (stage_rows split comes items store y ≡ stage_rows split comes items store x) × StageOk split comes items p store y) →
      SlotKeeps split comes items p store s t
  keeps_stage s t x y e f h =
      let now : t.stage ≡ y = ap (λ (z : Slot W R). z.stage) f in
      record {
        file_is = ap (λ (z : Slot W R). z.file) f;
        rows = λ o. let k = h (subst (StageOk split comes items p store) e o) in ap (stage_rows split comes items store) now ∙ k.0 ∙ sym (ap (stage_rows split comes items store) e);
        ok = λ o. let k = h (subst (StageOk split comes items p store) e o) in subst (StageOk split comes items p store) (sym now) k.1;
      }

  -- one that is given up after a poll
  pub keeps_halted : (s t u : Slot W R) (r next : RunData W) (h : Halt) → s.stage ≡ stage.Reads r → u ≡ given_up h t → t ≡ record s { stage = stage.Reads next } → SameSplit split comes r.inbox next.work r.work → next.inbox ≡ r.inbox →
      (RunOk split comes p store r → HaltAt p store h) →
      SlotKeeps split comes items p store s u
  keeps_halted s t u r next h e g f m i why =
      keeps_stage s u (stage.Reads r) (stage.Halted next h) e (g ∙ ap (given_up h) f) (λ o. (m.rows store o.agrees, (run_polled r next m i o, why o)))

  -- one whose split takes what has arrived
  pub keeps_handed : (id : ℕ) (a : Arrival) (s : Slot W R) → MayTake id s → store id ≡ content a → SlotKeeps split comes items p store s (handed id a s)
  keeps_handed id a s t is = go s.stage refl
    where
      go : (x : Stage W R) → s.stage ≡ x → SlotKeeps split comes items p store s (handed id a s)
      go stage.Empty e = keeps_stage s (handed id a s) stage.Empty stage.Empty e (ap (λ (z : Stage W R). record s { stage = stage_handed id a z }) e) (λ o. (refl, o))
      go (stage.Reads r) e =
          let off : is_halted s.stage ≡ false = ap is_halted e in
          let w : run_waits r id ≡ true = sym (ap (λ (z : Stage W R). stage_waits z id) e) ∙ t off in
          keeps_stage s (handed id a s) (stage.Reads r) (stage.Reads (with_arrival id a r)) e (ap (λ (z : Stage W R). record s { stage = stage_handed id a z }) e) (λ o. (refl, run_handed r id a w is o))
      go (stage.Read rows) e = keeps_stage s (handed id a s) (stage.Read rows) (stage.Read rows) e (ap (λ (z : Stage W R). record s { stage = stage_handed id a z }) e) (λ o. (refl, o))
      go (stage.Halted r h) e = keeps_stage s (handed id a s) (stage.Halted r h) (stage.Halted r h) e (ap (λ (z : Stage W R). record s { stage = stage_handed id a z }) e) (λ o. (refl, o))

  -- one whose split is given up, its source having failed
  pub keeps_lost : (id : ℕ) (s : Slot W R) → SlotKeeps split comes items p store s (given_up (halt.Source id) s)
  keeps_lost id s = go s.stage refl
    where
      up : Stage W R → Slot W R
      up z = record s { stage = stage_given_up (halt.Source id) z }

      go : (x : Stage W R) → s.stage ≡ x → SlotKeeps split comes items p store s (given_up (halt.Source id) s)
      go stage.Empty e = keeps_stage s (given_up (halt.Source id) s) stage.Empty stage.Empty e (ap up e) (λ o. (refl, o))
      go (stage.Reads r) e = keeps_stage s (given_up (halt.Source id) s) (stage.Reads r) (stage.Halted r (halt.Source id)) e (ap up e) (λ o. (refl, (o, tt)))
      go (stage.Read rows) e = keeps_stage s (given_up (halt.Source id) s) (stage.Read rows) (stage.Read rows) e (ap up e) (λ o. (refl, o))
      go (stage.Halted r h) e = keeps_stage s (given_up (halt.Source id) s) (stage.Halted r h) (stage.Halted r h) e (ap up e) (λ o. (refl, o))

  pub each_refl : (slots : List (Slot W R)) → EachKeeps split comes items p store slots slots
  each_refl slots = record { len = refl; at = λ place. keeps_refl (slot_at slots place) }

  pub each_then : (a b c : List (Slot W R)) → EachKeeps split comes items p store a b → EachKeeps split comes items p store b c → EachKeeps split comes items p store a c
  each_then a b c h k = record { len = k.len ∙ h.len; at = λ place. keeps_then (slot_at a place) (slot_at b place) (slot_at c place) (h.at place) (k.at place) }

  pub each_set : (slots : List (Slot W R)) (place : ℕ) (s : Slot W R) → place < length slots → SlotKeeps split comes items p store (slot_at slots place) s → EachKeeps split comes items p store slots (set slots place s)
  each_set slots place s lt h = record { len = length-set slots place s; at = λ q. go q (cases_eq q place) }
    where
      go : (q : ℕ) → (q ≡ place) ⊎ (q ≢ place) → SlotKeeps split comes items p store (slot_at slots q) (slot_at (set slots place s) q)
      go q (inl is) = subst (λ k. SlotKeeps split comes items p store (slot_at slots k) (slot_at (set slots place s) k)) (sym is) (subst (SlotKeeps split comes items p store (slot_at slots place)) (sym (at_set_same slots place s lt)) h)
      go q (inr other) = subst (SlotKeeps split comes items p store (slot_at slots q)) (sym (at_set_other slots place q s other)) (keeps_refl (slot_at slots q))

  -- a step at each of several places
  pub each_walk : (id : ℕ) (f : Slot W R → Slot W R) (places : List ℕ) (slots : List (Slot W R)) → AllTake id places slots → no_repeats places ≡ true → ((s : Slot W R) → MayTake id s → SlotKeeps split comes items p store s (f s)) →
      EachKeeps split comes items p store slots (at_each f places slots)
  each_walk id f places slots t d h = go places slots t d
    where
      go : (ps : List ℕ) (now : List (Slot W R)) → AllTake id ps now → no_repeats ps ≡ true → EachKeeps split comes items p store now (at_each f ps now)
      go [] now t d = each_refl now
      go (q ∷ ps) now t d =
          let w : Walks id f (q ∷ ps) (q ∷ ps) now now = record { slots_are = refl; take = t; once = d } in
          let lt = walks_within id f q ps (q ∷ ps) now now w in
          let next = walks_next id f q ps (q ∷ ps) now now (f (slot_at now q)) w refl in
          each_then now (set now q (f (slot_at now q))) (at_each f ps (set now q (f (slot_at now q)))) (each_set now q (f (slot_at now q)) lt (h (slot_at now q) (walks_take id f q ps (q ∷ ps) now now w))) (go ps (set now q (f (slot_at now q))) next.take next.once)

  -- after an arrival
  pub each_handed : (id : ℕ) (a : Arrival) (places : List ℕ) (slots : List (Slot W R)) → AllTake id places slots → no_repeats places ≡ true → store id ≡ content a → EachKeeps split comes items p store slots (at_each (handed id a) places slots)
  each_handed id a places slots t d is = each_walk id (handed id a) places slots t d (λ s m. keeps_handed id a s m is)

  -- after the source has failed
  pub each_lost : (id : ℕ) (places : List ℕ) (slots : List (Slot W R)) → AllTake id places slots → no_repeats places ≡ true → EachKeeps split comes items p store slots (at_each (given_up (halt.Source id)) places slots)
  each_lost id places slots t d = each_walk id (given_up (halt.Source id)) places slots t d (λ s m. keeps_lost id s)
