-- What becomes of the slots, and of what is left, as splits become active and are given.
use Rattle.std.proofs.Common.{◌≡◌, ◌≢◌, ℕ, suc, zero, ◌+◌, ◌-◌, ◌<◌, ◌≤◌, List, [], ◌∷◌, length, set, get_or, get_or-set_same, get_or-set_other, Bool, true, false, ◌||◌, eqb, Option, Some, None, IfSome, inl, inr, refl, sym, ap, ◌∙◌, subst, arith, length-set}
use Rattle.std.specs.Prelude.{◌⊎◌, IsSome, take}
use Rattle.std.proofs.lemmas.Bool.{cases_eq}
use Rattle.std.proofs.lemmas.Bool.Decides.{nat_tests}
use Rattle.std.proofs.lemmas.List.{get_or_default}
use Rattle.scan_values.specs.Selections.{is_among}
use Rattle.scan_segments.specs.Source.{Store}
use Rattle.scan_splits.specs.Arrivals.{Arrivals}
use Rattle.scan_drive.specs.Actives.{Seated, Seats, GivesRows, Stays}
use Rattle.scan_drive.specs.Files.{Part, Told, told_at, untold}
use Rattle.scan_drive.specs.Measures.{is_there, stage_steps, slots_steps, phase_steps, phases_steps, work_steps, run_steps, IsNearer, EachAdvances}
use Rattle.scan_drive.specs.Phases.{phase_at, is_unopened, PhaseOk, IsQueued, TakesSplit, RowsOk}
use Rattle.scan_drive.specs.Runs.{new_run}
use Rattle.scan_drive.specs.Slots.{slot_at, nothing, is_read, is_halted}
use Rattle.scan_drive.specs.Splits.{SplitState, Event}
use Rattle.scan_drive.specs.Turns.{Filled, IsGone, IsSeated, SameTurns, FrontWaits, GivesOn, SeatsOn, seats_steps, IsCounted, Counts, rows_in, rows_of, IsTally}
use Rattle.scan_drive.specs.declared.active.Active.{Active}
use Rattle.scan_drive.specs.declared.phase.Phase.{Phase}
use Rattle.scan_drive.specs.declared.phase.Phase.TheVariants as phase
use Rattle.scan_drive.specs.declared.phase.Tally.{Tally}
use Rattle.scan_drive.specs.declared.slot.Slot.{Slot}
use Rattle.scan_drive.specs.declared.slot.Stage.TheVariants as stage
use Rattle.scan_drive.proofs.Desking.{among_snoc}
use Rattle.scan_drive.proofs.Ordering.{rises_to, order_seat}
use Rattle.scan_drive.proofs.Seating.{apart_front, or_cases}

nothing_at : {W R : Type 0} (q : ℕ) → slot_at {W = W} {R = R} [] q ≡ nothing
nothing_at zero = refl
nothing_at (suc q) = refl

none_in : {W I : Type 0} (split : W → SplitState I) (R : Type 0) (q : ℕ) → stage_steps split (slot_at {W = W} {R = R} [] q).stage ≡ 0
none_in {W} split R q = ap (λ (s : Slot W R). stage_steps split s.stage) (nothing_at q)

module _ {W I R : Type 0} (split : W → SplitState I) where
  pub sum_le : (xs ys : List (Slot W R)) → ((q : ℕ) → stage_steps split (slot_at ys q).stage ≤ stage_steps split (slot_at xs q).stage) → slots_steps split ys ≤ slots_steps split xs
  sum_le [] [] h = omega arith
  sum_le [] (y ∷ ys) h = let a = h 0 in let b = sum_le [] ys (λ q. (let c = h (suc q) in let z = none_in split R q in let z' = none_in split R (suc q) in omega (arith, c, z, z'))) in let z = none_in split R 0 in omega (arith, a, b, z)
  sum_le (x ∷ xs) [] h = omega arith
  sum_le (x ∷ xs) (y ∷ ys) h = let a = h 0 in let b = sum_le xs ys (λ q. h (suc q)) in omega (arith, a, b)

  pub sum_lt : (place : ℕ) (xs ys : List (Slot W R)) → ((q : ℕ) → stage_steps split (slot_at ys q).stage ≤ stage_steps split (slot_at xs q).stage) → stage_steps split (slot_at ys place).stage < stage_steps split (slot_at xs place).stage → slots_steps split ys < slots_steps split xs
  sum_lt place [] ys h lt = let z = none_in split R place in absurd (omega (arith, lt, z))
  sum_lt zero (x ∷ xs) [] h lt = omega (arith, lt)
  sum_lt zero (x ∷ xs) (y ∷ ys) h lt = let b = sum_le xs ys (λ q. h (suc q)) in omega (arith, lt, b)
  sum_lt (suc place) (x ∷ xs) [] h lt = let b = sum_lt place xs [] (λ q. (let z = none_in split R q in omega (arith, z))) (let z = none_in split R place in let z' = none_in split R (suc place) in omega (arith, lt, z, z')) in omega (arith, b)
  sum_lt (suc place) (x ∷ xs) (y ∷ ys) h lt = let a = h 0 in let b = sum_lt place xs ys (λ q. h (suc q)) lt in omega (arith, a, b)

  pub sum_same : (xs ys : List (Slot W R)) → ((q : ℕ) → slot_at ys q ≡ slot_at xs q) → slots_steps split ys ≡ slots_steps split xs
  sum_same xs ys h =
      let at : (q : ℕ) → stage_steps split (slot_at ys q).stage ≡ stage_steps split (slot_at xs q).stage = λ q. ap (λ (s : Slot W R). stage_steps split s.stage) (h q) in
      let a = sum_le xs ys (λ q. (let e = at q in omega (arith, e))) in
      let b = sum_le ys xs (λ q. (let e = at q in omega (arith, e))) in
      omega (arith, a, b)

  -- one slot is another
  pub sum_one : (place : ℕ) (xs ys : List (Slot W R)) → ((q : ℕ) → q ≢ place → slot_at ys q ≡ slot_at xs q) → slots_steps split ys + stage_steps split (slot_at xs place).stage ≡ slots_steps split xs + stage_steps split (slot_at ys place).stage
  sum_one zero [] [] h = refl
  sum_one zero [] (y ∷ ys) h = let b = sum_same [] ys (λ q. h (suc q) (λ e. absurd (omega arith)) ∙ nothing_at (suc q) ∙ sym (nothing_at q)) in omega (arith, b)
  sum_one zero (x ∷ xs) [] h = let b = sum_same xs [] (λ q. nothing_at q ∙ sym (nothing_at (suc q)) ∙ h (suc q) (λ e. absurd (omega arith))) in omega (arith, b)
  sum_one zero (x ∷ xs) (y ∷ ys) h = let b = sum_same xs ys (λ q. h (suc q) (λ e. absurd (omega arith))) in omega (arith, b)
  sum_one (suc p) [] [] h = refl
  sum_one (suc p) [] (y ∷ ys) h =
      let a : stage_steps split y.stage ≡ 0 = ap (λ (s : Slot W R). stage_steps split s.stage) (h 0 (λ e. absurd (omega arith))) in
      let b = sum_one p [] ys (λ q n. h (suc q) (λ e. n (omega (arith, e))) ∙ nothing_at (suc q) ∙ sym (nothing_at q)) in
      let z = none_in split R p in
      let z' = none_in split R (suc p) in
      omega (arith, a, b, z, z')
  sum_one (suc p) (x ∷ xs) [] h =
      let a : 0 ≡ stage_steps split x.stage = ap (λ (s : Slot W R). stage_steps split s.stage) (h 0 (λ e. absurd (omega arith))) in
      let b = sum_one p xs [] (λ q n. nothing_at q ∙ sym (nothing_at (suc q)) ∙ h (suc q) (λ e. n (omega (arith, e)))) in
      let z = none_in split R p in
      let z' = none_in split R (suc p) in
      omega (arith, a, b, z, z')
  sum_one (suc p) (x ∷ xs) (y ∷ ys) h =
      let a : stage_steps split y.stage ≡ stage_steps split x.stage = ap (λ (s : Slot W R). stage_steps split s.stage) (h 0 (λ e. absurd (omega arith))) in
      let b = sum_one p xs ys (λ q n. h (suc q) (λ e. n (omega (arith, e)))) in
      omega (arith, a, b)

  -- steps that bring slots nearer to their ends
  advanced_le : (old new : List (Slot W R)) → EachAdvances split old new → (q : ℕ) → stage_steps split (slot_at new q).stage ≤ stage_steps split (slot_at old q).stage
  advanced_le old new a q = go (a.at q).nears
    where
      go : (slot_at new q ≡ slot_at old q) ⊎ IsNearer split (slot_at old q) (slot_at new q) → stage_steps split (slot_at new q).stage ≤ stage_steps split (slot_at old q).stage
      go (inl e) = let f : stage_steps split (slot_at new q).stage ≡ stage_steps split (slot_at old q).stage = ap (λ (s : Slot W R). stage_steps split s.stage) e in omega (arith, f)
      go (inr n) = omega (arith, n)

  pub sum_advanced : (old new : List (Slot W R)) → EachAdvances split old new → slots_steps split new ≤ slots_steps split old
  sum_advanced old new a = sum_le old new (advanced_le old new a)

  pub sum_nearer : (place : ℕ) (old new : List (Slot W R)) → EachAdvances split old new → IsNearer split (slot_at old place) (slot_at new place) → slots_steps split new < slots_steps split old
  sum_nearer place old new a n = sum_lt place old new (advanced_le old new a) n

  -- ---- rows are given
  pub gives_none : (a : Active W R) → GivesOn split a a
  gives_none a = record { at = λ q. inl refl; filled = λ f. f; nears = inl (refl, refl) }

  pub gives_stays : (old mid new : Active W R) → Stays mid new → GivesOn split old mid → GivesOn split old new
  gives_stays old mid new s g = record {
    at = λ q. subst (λ (ss : List (Slot W R)). IsGone (slot_at old.slots.items q) (slot_at ss q)) (sym s.slots) (g.at q);
    filled = λ f q m. subst (λ (ss : List (Slot W R)). is_there (slot_at ss q).stage ≡ true) (sym s.slots) (g.filled f q (sym (ap (λ (ts : List ℕ). is_among ts q) turns) ∙ m));
    nears = go g.nears;
  }
    where
      turns : new.turns.items ≡ mid.turns.items
      turns = λ i. (s.turns i).items

      go : SameTurns old mid ⊎ (slots_steps split mid.slots.items < slots_steps split old.slots.items) → SameTurns old new ⊎ (slots_steps split new.slots.items < slots_steps split old.slots.items)
      go (inl e) = inl (s.slots ∙ e.0, turns ∙ e.1)
      go (inr l) = inr (subst (λ (ss : List (Slot W R)). slots_steps split ss < slots_steps split old.slots.items) (sym s.slots) l)

  pub gives_rows : (file : ℕ) (rows : R) (old mid new : Active W R) → Seated mid → GivesRows file rows mid new → GivesOn split old mid → GivesOn split old new
  gives_rows file rows old mid new seated h g = record { at = λ q. at q (cases_eq q h.place); filled = λ f. filled (g.filled f); nears = inr (less g.nears) }
    where
      at : (q : ℕ) → (q ≡ h.place) ⊎ (q ≢ h.place) → IsGone (slot_at old.slots.items q) (slot_at new.slots.items q)
      at q (inr n) = subst (IsGone (slot_at old.slots.items q)) (sym (h.becomes.others q n)) (g.at q)
      at q (inl is) = subst (λ k. IsGone (slot_at old.slots.items k) (slot_at new.slots.items k)) (sym is) (go (g.at h.place))
        where
          go : IsGone (slot_at old.slots.items h.place) (slot_at mid.slots.items h.place) → IsGone (slot_at old.slots.items h.place) (slot_at new.slots.items h.place)
          go (inl same) =
              let was = sym same ∙ h.was in
              inr (ap (λ (s : Slot W R). is_read s.stage) was, ap (λ (s : Slot W R). s.file) h.becomes.at ∙ sym (ap (λ (s : Slot W R). s.file) was), ap (λ (s : Slot W R). s.stage) h.becomes.at)
          go (inr gone) = let bad : true ≡ false = sym (ap (λ (s : Slot W R). is_read s.stage) h.was) ∙ ap is_read gone.2 in absurd cc

      filled : Filled mid → Filled new
      filled f q m =
          let off = apart_front mid.turns.items mid.free.items h.place new.turns.items seated.once h.turns in
          let n : q ≢ h.place = λ e. (let bad = sym m ∙ ap (is_among new.turns.items) e ∙ off in absurd cc) in
          subst (λ (s : Slot W R). is_there s.stage ≡ true) (sym (h.becomes.others q n)) (f q (ap (λ (ts : List ℕ). is_among ts q) h.turns ∙ later q m (eqb h.place q)))
        where
          later : (q : ℕ) → is_among new.turns.items q ≡ true → (b : Bool) → (b || is_among new.turns.items q) ≡ true
          later q m true = refl
          later q m false = m

      one : slots_steps split new.slots.items < slots_steps split mid.slots.items
      one =
          let s = sum_one h.place mid.slots.items new.slots.items h.becomes.others in
          let a : stage_steps split (slot_at mid.slots.items h.place).stage ≡ 1 = ap (λ (x : Slot W R). stage_steps split x.stage) h.was in
          let b : stage_steps split (slot_at new.slots.items h.place).stage ≡ 0 = ap (λ (x : Slot W R). stage_steps split x.stage) h.becomes.at in
          omega (arith, s, a, b)

      less : SameTurns old mid ⊎ (slots_steps split mid.slots.items < slots_steps split old.slots.items) → slots_steps split new.slots.items < slots_steps split old.slots.items
      less (inl e) = subst (λ (ss : List (Slot W R)). slots_steps split new.slots.items < slots_steps split ss) e.0 one
      less (inr l) = omega (arith, l, one)

pub waits_stays : {W R : Type 0} (old new : Active W R) → Stays old new → FrontWaits old → FrontWaits new
waits_stays {W} {R} old new s f = record {
  place = f.place;
  later = f.later;
  turns = (λ i. (s.turns i).items) ∙ f.turns;
  unread = ap (λ (ss : List (Slot W R)). is_read (slot_at ss f.place).stage) s.slots ∙ f.unread;
  wanted = ap (λ (ss : List (Slot W R)). is_halted (slot_at ss f.place).stage) s.slots ∙ f.wanted;
}

module _ {W I F : Type 0} (split : W → SplitState I) where
  phases_one : (ps : List (Phase W F)) (i : ℕ) (p d : Phase W F) → i < length ps → phases_steps split (set ps i p) + phase_steps split (get_or ps i d) ≡ phases_steps split ps + phase_steps split p
  phases_one [] i p d lt = absurd (omega arith)
  phases_one (x ∷ ps) zero p d lt = omega arith
  phases_one (x ∷ ps) (suc i) p d lt = let b = phases_one ps i p d (omega (arith, lt)) in omega (arith, b)

module _ {W I R F : Type 0} (split : W → SplitState I) where
  -- a step after others
  less_then : (first i j : ℕ) (old mid new : Active W R) (ps qs rs : List (Phase W F)) → ((i ≡ first) × (qs ≡ ps) × SameTurns old mid) ⊎ (seats_steps split i mid qs < seats_steps split first old ps)
      → seats_steps split j new rs < seats_steps split i mid qs → seats_steps split j new rs < seats_steps split first old ps
  less_then first i j old mid new ps qs rs (inl e) l =
      let a : seats_steps split i mid qs ≡ seats_steps split first old ps = same e.0 e.1 e.2.0 in
      omega (arith, l, a)
    where
      same : i ≡ first → qs ≡ ps → mid.slots.items ≡ old.slots.items → seats_steps split i mid qs ≡ seats_steps split first old ps
      same a b c = λ k. slots_steps split (c k) + phases_steps split (b k) + (length (b k) - a k)
  less_then first i j old mid new ps qs rs (inr k) l = omega (arith, l, k)

  pub seats_spent : (first i : ℕ) (old mid : Active W R) (ps qs : List (Phase W F)) → i < length qs → SeatsOn split first i old mid ps qs → SeatsOn split first (i + 1) old mid ps qs
  seats_spent first i old mid ps qs lt s = record { at = s.at; filled = s.filled; nears = inr (less_then first i (i + 1) old mid mid ps qs qs s.nears (omega (arith, lt))); order = λ low h. rises_to low i (i + 1) mid.turns.items mid.slots.items (omega arith) (s.order low h); shut = s.shut }

  pub seats_seat : {comes : W → Arrivals → Store → Event → Type 0} (first i : ℕ) (old mid new : Active W R) (ps qs : List (Phase W F)) (x p : Phase W F) (w : W) → i < length qs → length qs ≡ length ps
      → x ≡ get_or qs i x → Seated mid → TakesSplit split comes x p w → Seats i w mid new → SeatsOn split first i old mid ps qs → SeatsOn split first i old new ps (set qs i p)
  seats_seat first i old mid new ps qs x p w lt n e seated taken h s = record {
    at = λ q. at q (cases_eq q h.place);
    filled = λ f. filled (s.filled f);
    nears = inr (less_then first i i old mid new ps qs (set qs i p) s.nears less);
    order = λ low r. order_seat low i w mid new h (s.order low r);
    shut = λ k. shut k (cases_eq k i) ∙ s.shut k;
  }
    where
      was : (slot_at mid.slots.items h.place).stage ≡ stage.Empty
      was = seated.empty h.place h.unused

      at : (q : ℕ) → (q ≡ h.place) ⊎ (q ≢ h.place) → IsSeated (length ps) (slot_at old.slots.items q) (slot_at new.slots.items q)
      at q (inr o) = subst (IsSeated (length ps) (slot_at old.slots.items q)) (sym (h.becomes.others q o)) (s.at q)
      at q (inl is) = subst (λ k. IsSeated (length ps) (slot_at old.slots.items k) (slot_at new.slots.items k)) (sym is) (go (s.at h.place))
        where
          go : IsSeated (length ps) (slot_at old.slots.items h.place) (slot_at mid.slots.items h.place) → IsSeated (length ps) (slot_at old.slots.items h.place) (slot_at new.slots.items h.place)
          go (inl same) = inr (record {
            was = sym (ap (λ (z : Slot W R). z.stage) same) ∙ was;
            file = let f : (slot_at new.slots.items h.place).file ≡ i = ap (λ (z : Slot W R). z.file) h.becomes.at in omega (arith, f, lt, n);
            work = w;
            now = ap (λ (z : Slot W R). z.stage) h.becomes.at;
          })
          go (inr t) = let bad : false ≡ true = sym (ap is_there was) ∙ ap is_there t.now in absurd cc

      filled : Filled mid → Filled new
      filled f q m = go (cases_eq q h.place) (or_cases (is_among mid.turns.items q) (eqb h.place q) (sym (among_snoc mid.turns.items h.place q) ∙ sym (ap (λ (ts : List ℕ). is_among ts q) h.turns) ∙ m))
        where
          go : (q ≡ h.place) ⊎ (q ≢ h.place) → (is_among mid.turns.items q ≡ true) ⊎ (eqb h.place q ≡ true) → is_there (slot_at new.slots.items q).stage ≡ true
          go (inl is) c = ap (λ k. is_there (slot_at new.slots.items k).stage) is ∙ ap (λ (z : Slot W R). is_there z.stage) h.becomes.at
          go (inr o) (inl there) = ap (λ (z : Slot W R). is_there z.stage) (h.becomes.others q o) ∙ f q there
          go (inr o) (inr b) = let same : q ≡ h.place = grind (arith, nat_tests) in absurd (o same)

      open_now : (r : Phase W F) → IsQueued r → is_unopened r ≡ 0
      open_now phase.Unopened q = absurd q
      open_now (phase.Queued ws rows) q = refl
      open_now (phase.Held f) q = refl

      open_before : (r : Phase W F) → 0 < phase_steps split r → is_unopened r ≡ 0
      open_before phase.Unopened l = absurd (omega (arith, l))
      open_before (phase.Queued ws rows) l = refl
      open_before (phase.Held f) l = absurd (omega (arith, l))

      shut : (k : ℕ) → (k ≡ i) ⊎ (k ≢ i) → is_unopened (phase_at (set qs i p) k) ≡ is_unopened (phase_at qs k)
      shut k (inr o) = ap is_unopened (get_or-set_other qs i k p phase.Unopened o)
      shut k (inl is) =
          let z = taken.steps in
          let was : is_unopened (phase_at qs i) ≡ 0 = ap is_unopened (sym (e ∙ get_or_default qs i x phase.Unopened lt)) ∙ open_before x (omega (arith, z)) in
          let now : is_unopened (phase_at (set qs i p) i) ≡ 0 = ap is_unopened (get_or-set_same qs i p phase.Unopened lt) ∙ open_now p taken.queued in
          ap (λ j. is_unopened (phase_at (set qs i p) j)) is ∙ now ∙ sym was ∙ sym (ap (λ j. is_unopened (phase_at qs j)) is)

      less : seats_steps split i new (set qs i p) < seats_steps split i mid qs
      less =
          let a = sum_one split h.place mid.slots.items new.slots.items h.becomes.others in
          let z : stage_steps split (slot_at mid.slots.items h.place).stage ≡ 0 = ap (stage_steps split) was in
          let r : stage_steps split (slot_at new.slots.items h.place).stage ≡ run_steps split (new_run w) = ap (λ (z : Slot W R). stage_steps split z.stage) h.becomes.at in
          let b = phases_one split qs i p x lt in
          let t : phase_steps split (get_or qs i x) ≡ work_steps split w + phase_steps split p = sym (ap (phase_steps split) e) ∙ taken.steps in
          let l = length-set qs i p in
          omega (arith, a, z, r, b, t, l)

module _ {I : Type 0} where
  pub rows_one : (tale : List (Told I)) (n : ℕ) → n < length tale → rows_of (take (suc n) tale) ≡ rows_of (take n tale) + rows_in (told_at tale n).part
  rows_one [] n lt = absurd (omega arith)
  rows_one (t ∷ tale) zero lt = none (rows_in t.part)
    where
      none : (n : ℕ) → n + 0 ≡ 0 + n
      none n = omega arith
  rows_one (t ∷ tale) (suc n) lt = let b = rows_one tale n (omega (arith, lt)) in omega (arith, b)

module _ {W I F : Type 0} where
  -- the rows of one file more
  pub tally_next : (tale : List (Told I)) (file : ℕ) (t u : Tally) (p : Phase W F) → file < length tale → RowsOk (told_at tale file) p → IsCounted file t u p → IsTally tale t → IsTally tale u
  tally_next tale file t u phase.Unopened lt ok c h = subst (IsTally tale) (sym c) h
  tally_next tale file t u (phase.Held f) lt ok c h = subst (IsTally tale) (sym c) h
  tally_next tale file t u (phase.Queued ws rows) lt ok (inl c) h = subst (IsTally tale) (sym c.0) h
  tally_next tale file t u (phase.Queued ws rows) lt ok (inr c) h = record {
    within = let a = c.1 in omega (arith, a, lt);
    sum = λ all.
        let r : rows ≡ rows_in (told_at tale file).part = told (told_at tale file).part (all file untold lt) ok in
        let s : t.rows ≡ rows_of (take file tale) = h.sum all ∙ ap (λ n. rows_of (take n tale)) c.0 in
        let o = rows_one tale file lt in
        let one : file + 1 ≡ suc file = omega arith in
        let e : rows_of (take u.files tale) ≡ rows_of (take (suc file) tale) = ap (λ n. rows_of (take n tale)) (c.1 ∙ one) in
        let v = c.2 in
        omega (arith, r, s, o, e, v);
  }
    where
      told : (o : Option (Part I)) → IsSome o → IfSome o (λ p. rows ≡ p.row_count) → rows ≡ rows_in o
      told None a b = absurd cc
      told (Some p) a b = b

pub rows_ok : {W I F : Type 0} (split : W → SplitState I) (comes : W → Arrivals → Store → Event → Type 0) (t : Told I) (p : Phase W F) → PhaseOk split comes t p → RowsOk t p
rows_ok split comes t phase.Unopened h = tt
rows_ok split comes t (phase.Queued ws rows) h = h.1
rows_ok split comes t (phase.Held f) h = tt

pub counts : {W F : Type 0} (file : ℕ) (t u : Tally) (p : Phase W F) (b : Bool) → b ≡ true → Counts file t u p b → IsCounted file t u p
counts file t u p true e c = c
counts file t u p false e c = absurd cc

pub not_counted : {W F : Type 0} (file : ℕ) (t u : Tally) (p : Phase W F) (b : Bool) → b ≡ false → Counts file t u p b → u ≡ t
not_counted file t u p false e c = c.0
not_counted file t u p true e c = absurd cc

-- a file that is not read was not before a split of another was taken
pub held_before : {W F : Type 0} (ps : List (Phase W F)) (i : ℕ) (p : Phase W F) (k : ℕ) (why : F) → i < length ps → IsQueued p → phase_at (set ps i p) k ≡ phase.Held why → phase_at ps k ≡ phase.Held why
held_before {W} {F} ps i p k why lt q e = go (cases_eq k i)
  where
    bad : (x : Phase W F) → IsQueued x → x ≡ phase.Held why → ⊥
    bad x h f = subst IsQueued f h

    go : (k ≡ i) ⊎ (k ≢ i) → phase_at ps k ≡ phase.Held why
    go (inl is) = absurd (bad p q (sym (get_or-set_same ps i p phase.Unopened lt) ∙ sym (ap (λ j. phase_at (set ps i p) j) is) ∙ e))
    go (inr n) = sym (get_or-set_other ps i k p phase.Unopened n) ∙ e
