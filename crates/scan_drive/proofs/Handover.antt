-- A split wants ids, one after the other: what the cache has is handed to it, and for the others its place waits.
use Rattle.std.proofs.Common.{◌≡◌, ◌≢◌, ℕ, List, ◌∷◌, Bool, true, false, not, ◌||◌, ◌&&◌, cond, eqb, inl, inr, refl, sym, ap, ◌∙◌, subst, arith}
use Rattle.std.proofs.lemmas.Bool.Decides.{nat_tests}
use Rattle.scan_values.specs.Selections.{is_among}
use Rattle.scan_segments.specs.Source.{Store}
use Rattle.scan_segments.specs.declared.segment.SegmentKey.{SegmentKey}
use Rattle.scan_splits.specs.Arrivals.{Arrivals}
use Rattle.scan_splits.specs.Wanted.{no_repeats}
use Rattle.scan_splits.specs.declared.inbox.Arrival.{Arrival}
use Rattle.scan_splits.specs.declared.inbox.Arrival.TheVariants as arrival
use Rattle.scan_drive.specs.Asks.{WantsOne}
use Rattle.scan_drive.specs.Desks.{Waiters, waits}
use Rattle.scan_drive.specs.Files.{Part}
use Rattle.scan_drive.specs.Measures.{Advances}
use Rattle.scan_drive.specs.Slots.{stage_waits, stage_handed, handed, SlotKeeps}
use Rattle.scan_drive.specs.Splits.{SplitState, Event, lacks}
use Rattle.scan_drive.specs.Trades.{Trusts}
use Rattle.scan_drive.specs.Wants.{Cache}
use Rattle.scan_drive.specs.declared.slot.Slot.{Slot}
use Rattle.scan_drive.specs.declared.slot.Stage.{Stage}
use Rattle.scan_drive.specs.declared.slot.Stage.TheVariants as stage
use Rattle.scan_drive.proofs.Asking.{waits_added}
use Rattle.scan_drive.proofs.Handing.{and_both, not_true}
use Rattle.scan_drive.proofs.Keeping.{keeps_refl, keeps_handed}
use Rattle.scan_drive.proofs.Nearing.{advances_refl, advances_handed}
use Rattle.scan_drive.proofs.Running.{lacks_after}
use Rattle.scan_drive.proofs.Trading.{trusted}

module _ {W R : Type 0} where
  -- for what a split waits after an arrival
  pub waits_handed : (id : ℕ) (a : Arrival) (x : Stage W R) (q : ℕ) → stage_waits (stage_handed id a x) q ≡ cond (eqb id q) false (stage_waits x q)
  waits_handed id a stage.Empty q = go (eqb id q)
    where
      go : (b : Bool) → false ≡ cond b false false
      go true = refl
      go false = refl
  waits_handed id a (stage.Reads r) q = ap (λ b. is_among r.wanted q && b) (lacks_after r.inbox id a q) ∙ go (eqb id q) (is_among r.wanted q)
    where
      go : (b c : Bool) → (c && cond b false (lacks r.inbox q)) ≡ cond b false (c && lacks r.inbox q)
      go true true = refl
      go true false = refl
      go false c = refl
  waits_handed id a (stage.Read rows) q = go (eqb id q)
    where
      go : (b : Bool) → false ≡ cond b false false
      go true = refl
      go false = refl
  waits_handed id a (stage.Halted r h) q = go (eqb id q)
    where
      go : (b : Bool) → false ≡ cond b false false
      go true = refl
      go false = refl

  -- the rest of the ids is still to be wanted
  pub record Wanting (rest : List ℕ) (place : ℕ) (s : Slot W R) (d e : Waiters) : Type 0 where
    pub here : (id : ℕ) → is_among rest id ≡ false → waits e id place ≡ stage_waits s.stage id
    pub todo : (id : ℕ) → is_among rest id ≡ true → (waits e id place ≡ false) × (stage_waits s.stage id ≡ true)
    pub once : no_repeats rest ≡ true
    pub others : (id q : ℕ) → q ≢ place → waits e id q ≡ waits d id q

  pub wanting_all : (ids : List ℕ) (place : ℕ) (s : Slot W R) (d : Waiters) → ((id : ℕ) → waits d id place ≡ false) → no_repeats ids ≡ true → ((id : ℕ) → stage_waits s.stage id ≡ is_among ids id) → Wanting ids place s d d
  wanting_all ids place s d n o t = record {
    here = λ id m. n id ∙ sym (t id ∙ m);
    todo = λ id m. (n id, t id ∙ m);
    once = o;
    others = λ id q ne. refl;
  }

  pub wanting_next : (key : SegmentKey) (rest : List ℕ) (place : ℕ) (c : Cache) (s t : Slot W R) (d e f : Waiters) → Wanting (key.segment ∷ rest) place s d e → WantsOne key place c s t e f → Wanting rest place t d f
  wanting_next key rest place c s t d e f w h = go h
    where
      id : ℕ
      id = key.segment

      parts : (not (is_among rest id) ≡ true) × (no_repeats rest ≡ true)
      parts = and_both (not (is_among rest id)) (no_repeats rest) w.once

      on : eqb id id ≡ true
      on = grind (arith, nat_tests)

      off : (q : ℕ) → is_among rest q ≡ true → eqb id q ≡ false
      off q m = go (eqb id q) refl
        where
          go : (b : Bool) → eqb id q ≡ b → eqb id q ≡ false
          go false i = i
          go true i = let same : q ≡ id = grind (arith, nat_tests) in let bad = sym m ∙ ap (is_among rest) same ∙ not_true (is_among rest id) parts.0 in absurd cc

      first : (waits e id place ≡ false) × (stage_waits s.stage id ≡ true)
      first = w.todo id (ap (λ b. b || is_among rest id) on)

      later : (q : ℕ) → is_among rest q ≡ true → (waits e q place ≡ false) × (stage_waits s.stage q ≡ true)
      later q m = w.todo q (ap (λ b. b || is_among rest q) (off q m) ∙ m)

      or_false : (b : Bool) → (b || false) ≡ b
      or_false true = refl
      or_false false = refl

      go : WantsOne key place c s t e f → Wanting rest place t d f
      go (inl hit) =
          let is : t ≡ handed id (arrival.Bytes hit.0) s = hit.2 in
          let desk : f ≡ e = hit.3 in
          subst (λ (z : Slot W R). Wanting rest place z d f) (sym is) (subst (λ (z : Waiters). Wanting rest place (handed id (arrival.Bytes hit.0) s) d z) (sym desk) (record {
            here = λ q m. here q m (eqb id q) refl ∙ sym (waits_handed id (arrival.Bytes hit.0) s.stage q);
            todo = λ q m. ((later q m).0, waits_handed id (arrival.Bytes hit.0) s.stage q ∙ ap (λ b. cond b false (stage_waits s.stage q)) (off q m) ∙ (later q m).1);
            once = parts.1;
            others = w.others;
          }))
        where
          here : (q : ℕ) → is_among rest q ≡ false → (b : Bool) → eqb id q ≡ b → waits e q place ≡ cond (eqb id q) false (stage_waits s.stage q)
          here q m true i = let same : q ≡ id = grind (arith, nat_tests) in ap (λ k. waits e k place) same ∙ first.0 ∙ sym (ap (λ b. cond b false (stage_waits s.stage q)) i)
          here q m false i = w.here q (ap (λ b. b || is_among rest q) i ∙ m) ∙ sym (ap (λ b. cond b false (stage_waits s.stage q)) i)
      go (inr miss) =
          let now = waits_added id place e f miss.1 in
          subst (λ (z : Slot W R). Wanting rest place z d f) (sym miss.0) (record {
            here = λ q m. now q place ∙ here q m (eqb id q) refl;
            todo = λ q m. (now q place ∙ ap (λ b. waits e q place || (b && eqb place place)) (off q m) ∙ or_false (waits e q place) ∙ (later q m).0, (later q m).1);
            once = parts.1;
            others = λ i q ne. now i q ∙ apart i q ne (eqb place q) refl ∙ w.others i q ne;
          })
        where
          at : eqb place place ≡ true
          at = grind (arith, nat_tests)

          here : (q : ℕ) → is_among rest q ≡ false → (b : Bool) → eqb id q ≡ b → (waits e q place || (eqb id q && eqb place place)) ≡ stage_waits s.stage q
          here q m true i =
              let same : q ≡ id = grind (arith, nat_tests) in
              let zero : waits e q place ≡ false = ap (λ k. waits e k place) same ∙ first.0 in
              let one : stage_waits s.stage q ≡ true = ap (stage_waits s.stage) same ∙ first.1 in
              rw (i, at, zero, one) refl
          here q m false i = ap (λ b. waits e q place || (b && eqb place place)) i ∙ or_false (waits e q place) ∙ w.here q (ap (λ b. b || is_among rest q) i ∙ m)

          both_off : (b : Bool) → (b && false) ≡ false
          both_off true = refl
          both_off false = refl

          apart : (i q : ℕ) → q ≢ place → (b : Bool) → eqb place q ≡ b → (waits e i q || (eqb id i && eqb place q)) ≡ waits e i q
          apart i q ne true k = let same : q ≡ place = grind (arith, nat_tests) in absurd (ne same)
          apart i q ne false k = ap (λ b. waits e i q || (eqb id i && b)) k ∙ ap (λ b. waits e i q || b) (both_off (eqb id i)) ∙ or_false (waits e i q)

module _ {W I R : Type 0} (split : W → SplitState I) where
  pub wants_advances : (key : SegmentKey) (place : ℕ) (c : Cache) (s t : Slot W R) (d e : Waiters) → stage_waits s.stage key.segment ≡ true → WantsOne key place c s t d e → Advances split s t
  wants_advances key place c s t d e w (inl hit) = subst (Advances split s) (sym hit.2) (advances_handed split key.segment (arrival.Bytes hit.0) s (λ h. w))
  wants_advances key place c s t d e w (inr miss) = subst (Advances split s) (sym miss.0) (advances_refl split s)

module _ {W I R : Type 0} (split : W → SplitState I) (comes : W → Arrivals → Store → Event → Type 0) (items : R → List I) where
  pub wants_keeps : (p : Part I) (store : Store) (key : SegmentKey) (place : ℕ) (c : Cache) (s t : Slot W R) (d e : Waiters) → stage_waits s.stage key.segment ≡ true → Trusts key.source_id store c → WantsOne key place c s t d e → SlotKeeps split comes items p store s t
  wants_keeps p store key place c s t d e w u (inl hit) = subst (SlotKeeps split comes items p store s) (sym hit.2) (keeps_handed split comes items p store key.segment (arrival.Bytes hit.0) s (λ h. w) (trusted key.source_id store c key.segment hit.0 u hit.1))
  wants_keeps p store key place c s t d e w u (inr miss) = subst (SlotKeeps split comes items p store s) (sym miss.0) (keeps_refl split comes items p store s)
