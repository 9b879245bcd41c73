-- Splits become active of files that are counted.
use Rattle.std.proofs.Common.{◌≡◌, ◌≢◌, ℕ, ◌+◌, ◌<◌, ◌≤◌, List, length, set, get_or, get_or-set_same, get_or-set_other, true, inl, inr, refl, sym, ap, ◌∙◌, subst, arith}
use Rattle.std.specs.Prelude.{◌⊎◌}
use Rattle.std.proofs.lemmas.Bool.{cases_eq}
use Rattle.std.proofs.lemmas.List.{get_or_default}
use Rattle.scan_segments.specs.Source.{Store}
use Rattle.scan_splits.specs.Arrivals.{Arrivals}
use Rattle.scan_drive.specs.Actives.{Seats}
use Rattle.scan_drive.specs.Files.{Item, Told, told_at}
use Rattle.scan_drive.specs.Filling.{AreCounted, IsTakenBy, Fills}
use Rattle.scan_drive.specs.Phases.{phase_at, has_left, IsQueued, IsSpent, RowsOk, AllRowsOk, TakesSplit}
use Rattle.scan_drive.specs.Slots.{slot_at}
use Rattle.scan_drive.specs.Splits.{SplitState, Event}
use Rattle.scan_drive.specs.Turns.{IsCounted}
use Rattle.scan_drive.specs.declared.active.Active.{Active}
use Rattle.scan_drive.specs.declared.phase.Phase.{Phase}
use Rattle.scan_drive.specs.declared.phase.Phase.TheVariants as phase
use Rattle.scan_drive.specs.declared.phase.Tally.{Tally}
use Rattle.scan_drive.specs.declared.slot.Slot.{Slot}
use Rattle.scan_drive.specs.declared.slot.Stage.TheVariants as stage
use Rattle.scan_drive.proofs.Admitting.{rows_keep}
use Rattle.scan_drive.proofs.Turning.{tally_next}

same_files : (t u : Tally) → u ≡ t → t.files ≤ u.files
same_files t u e = let f : u.files ≡ t.files = ap (λ (x : Tally). x.files) e in omega (arith, f)

module _ {W F : Type 0} where
  pub left_queued : (p : Phase W F) → has_left p ≡ true → IsQueued p
  left_queued phase.Unopened h = absurd cc
  left_queued (phase.Queued ws rows) h = tt
  left_queued (phase.Held f) h = absurd cc

  pub spent_queued : (p : Phase W F) → IsSpent p → IsQueued p
  spent_queued phase.Unopened h = absurd h
  spent_queued (phase.Queued ws rows) h = tt
  spent_queued (phase.Held f) h = absurd h

  counted_grows : (i : ℕ) (t u : Tally) (p : Phase W F) → IsCounted i t u p → t.files ≤ u.files
  counted_grows i t u phase.Unopened c = same_files t u c
  counted_grows i t u (phase.Queued ws rows) (inl c) = same_files t u c.0
  counted_grows i t u (phase.Queued ws rows) (inr c) = let a = c.0 in let b = c.1 in omega (arith, a, b)
  counted_grows i t u (phase.Held f) c = same_files t u c

  -- the next file is counted, where it is open
  record Counting (i : ℕ) (u : Tally) (ps : List (Phase W F)) : Type 0 where
    counted : AreCounted i u ps
    next : IsQueued (phase_at ps i) → i < u.files

  count_next : (i : ℕ) (t u : Tally) (ps : List (Phase W F)) (p : Phase W F) → phase_at ps i ≡ p → IsCounted i t u p → AreCounted i t ps → Counting i u ps
  count_next i t u ps phase.Unopened at c h = record { counted = subst (λ (x : Tally). AreCounted i x ps) (sym c) h; next = λ q. absurd (subst (λ (x : Phase W F). IsQueued x) at q) }
  count_next i t u ps (phase.Held f) at c h = record { counted = subst (λ (x : Tally). AreCounted i x ps) (sym c) h; next = λ q. absurd (subst (λ (x : Phase W F). IsQueued x) at q) }
  count_next i t u ps (phase.Queued ws rows) at (inl c) h = record {
    counted = subst (λ (x : Tally). AreCounted i x ps) (sym c.0) h;
    next = λ q. (let e : u.files ≡ t.files = ap (λ (x : Tally). x.files) c.0 in let l = h.from in more e l (cases_eq t.files i));
  }
    where
      more : u.files ≡ t.files → i ≤ t.files → (t.files ≡ i) ⊎ (t.files ≢ i) → i < u.files
      more e l (inl is) = absurd (c.1 is)
      more e l (inr other) = omega (arith, e, l, other)
  count_next i t u ps (phase.Queued ws rows) at (inr c) h = record {
    counted = record { from = (let a = c.1 in omega (arith, a)); queued = λ k lt. queued k lt (cases_eq k i) };
    next = λ q. let a = c.1 in omega (arith, a);
  }
    where
      queued : (k : ℕ) → k < u.files → (k ≡ i) ⊎ (k ≢ i) → IsQueued (phase_at ps k)
      queued k lt (inl is) = subst (λ j. IsQueued (phase_at ps j)) (sym is) (subst (λ (x : Phase W F). IsQueued x) (sym at) tt)
      queued k lt (inr other) = h.queued k (let a = c.0 in let b = c.1 in omega (arith, lt, other, a, b))

module _ {W R F : Type 0} where
  retally : (t u : Tally) (ps : List (Phase W F)) (old new : Slot W R) → t.files ≤ u.files → (new ≡ old) ⊎ IsTakenBy t ps new → (new ≡ old) ⊎ IsTakenBy u ps new
  retally t u ps old new l (inl e) = inl e
  retally t u ps old new l (inr h) = inr (record { counted = (let c = h.counted in omega (arith, c, l)); had = h.had; work = h.work; now = h.now })

  pub fills_counted : (first i : ℕ) (t u v : Tally) (ps qs : List (Phase W F)) (old now : List (Slot W R)) → i < length qs → length qs ≡ length ps → IsCounted i u v (phase_at qs i) → Fills first i t u ps qs old now → Fills first i t v ps qs old now
  fills_counted first i t u v ps qs old now lt len c f =
      let l = counted_grows i u v (phase_at qs i) c in
      record {
        grows = (let g = f.grows in omega (arith, g, l));
        queued = f.queued;
        left = f.left;
        counted = λ h. (count_next i u v qs (phase_at qs i) refl c (f.counted h)).counted;
        rows = λ tale n r h. let o = f.rows tale n r h in (o.0, tally_next tale i u v (phase_at qs i) (omega (arith, lt, len, n)) (o.0 i) c o.1);
        slots = λ h place. retally u v ps (slot_at old place) (slot_at now place) l (f.slots h place);
      }

  pub fills_spent : (first i : ℕ) (t u v : Tally) (ps qs : List (Phase W F)) (old now : List (Slot W R)) → i < length qs → length qs ≡ length ps → IsCounted i u v (phase_at qs i) → IsSpent (phase_at qs i) → Fills first i t u ps qs old now → Fills first (i + 1) t v ps qs old now
  fills_spent first i t u v ps qs old now lt len c s f =
      let g = fills_counted first i t u v ps qs old now lt len c f in
      record {
        grows = g.grows;
        queued = g.queued;
        left = g.left;
        counted = λ h. (let n = count_next i u v qs (phase_at qs i) refl c (f.counted h) in record { from = (let l = n.next (spent_queued (phase_at qs i) s) in omega (arith, l)); queued = n.counted.queued });
        rows = g.rows;
        slots = g.slots;
      }

  pub fills_seat : (split : W → SplitState Item) (comes : W → Arrivals → Store → Event → Type 0) (first i : ℕ) (t u v : Tally) (ps qs : List (Phase W F)) (old : List (Slot W R)) (mid new : Active W R)
      (x p : Phase W F) (w : W) → i < length qs → length qs ≡ length ps → x ≡ get_or qs i x → IsCounted i u v (phase_at qs i) → TakesSplit split comes x p w → Seats i w mid new →
      Fills first i t u ps qs old mid.slots.items → Fills first i t v ps (set qs i p) old new.slots.items
  fills_seat split comes first i t u v ps qs old mid new x p w lt len e c taken seats f = record {
    grows = g.grows;
    queued = λ k h. queued k h (cases_eq k i);
    left = λ k h. left k h (cases_eq k i);
    counted = λ h. record { from = (g.counted h).from; queued = λ k l. stays k ((g.counted h).queued k l) (cases_eq k i) };
    rows = λ tale n r h. let o = g.rows tale n r h in (λ k. rows tale o.0 k (cases_eq k i), o.1);
    slots = λ h place. slots h place (cases_eq place seats.place);
  }
    where
      g : Fills first i t v ps qs old mid.slots.items
      g = fills_counted first i t u v ps qs old mid.slots.items lt len c f

      at : phase_at qs i ≡ x
      at = sym (e ∙ get_or_default qs i x phase.Unopened lt)

      had : has_left (phase_at qs i) ≡ true
      had = ap has_left at ∙ taken.had

      queued : (k : ℕ) → IsQueued (phase_at (set qs i p) k) → (k ≡ i) ⊎ (k ≢ i) → IsQueued (phase_at ps k)
      queued k h (inl is) = g.queued k (subst (λ j. IsQueued (phase_at qs j)) (sym is) (left_queued (phase_at qs i) had))
      queued k h (inr other) = g.queued k (subst (λ (z : Phase W F). IsQueued z) (get_or-set_other qs i k p phase.Unopened other) h)

      left : (k : ℕ) → has_left (phase_at (set qs i p) k) ≡ true → (k ≡ i) ⊎ (k ≢ i) → has_left (phase_at ps k) ≡ true
      left k h (inl is) = g.left k (ap (λ j. has_left (phase_at qs j)) is ∙ had)
      left k h (inr other) = g.left k (sym (ap has_left (get_or-set_other qs i k p phase.Unopened other)) ∙ h)

      stays : (k : ℕ) → IsQueued (phase_at qs k) → (k ≡ i) ⊎ (k ≢ i) → IsQueued (phase_at (set qs i p) k)
      stays k h (inl is) = subst (λ j. IsQueued (phase_at (set qs i p) j)) (sym is) (subst (λ (z : Phase W F). IsQueued z) (sym (get_or-set_same qs i p phase.Unopened lt)) taken.queued)
      stays k h (inr other) = subst (λ (z : Phase W F). IsQueued z) (sym (get_or-set_other qs i k p phase.Unopened other)) h

      rows : (tale : List (Told Item)) → AllRowsOk tale qs → (k : ℕ) → (k ≡ i) ⊎ (k ≢ i) → RowsOk (told_at tale k) (phase_at (set qs i p) k)
      rows tale r k (inl is) = subst (λ j. RowsOk (told_at tale j) (phase_at (set qs i p) j)) (sym is) (subst (λ (z : Phase W F). RowsOk (told_at tale i) z) (sym (get_or-set_same qs i p phase.Unopened lt))
          (rows_keep split comes x p (told_at tale i) taken.phase_ok (subst (λ (z : Phase W F). RowsOk (told_at tale i) z) at (r i))))
      rows tale r k (inr other) = subst (λ (z : Phase W F). RowsOk (told_at tale k) z) (sym (get_or-set_other qs i k p phase.Unopened other)) (r k)

      seat : Slot W R
      seat = record { file = i; stage = stage.Reads (Rattle.scan_drive.specs.Runs.new_run w) }

      slots : AreCounted first t ps → (place : ℕ) → (place ≡ seats.place) ⊎ (place ≢ seats.place) → (slot_at new.slots.items place ≡ slot_at old place) ⊎ IsTakenBy v ps (slot_at new.slots.items place)
      slots h place (inl is) =
          let n = count_next i u v qs (phase_at qs i) refl c (f.counted h) in
          let taken_here : IsTakenBy v ps seat = record { counted = n.next (left_queued (phase_at qs i) had); had = f.left i had; work = w; now = refl } in
          inr (subst (λ (z : Slot W R). IsTakenBy v ps z) (sym (ap (λ j. slot_at new.slots.items j) is ∙ seats.becomes.at)) taken_here)
      slots h place (inr other) =
          let same : slot_at new.slots.items place ≡ slot_at mid.slots.items place = seats.becomes.others place other in
          subst (λ (z : Slot W R). (z ≡ slot_at old place) ⊎ IsTakenBy v ps z) (sym same) (g.slots h place)
