-- Splits become active: what is left to give stays the same.
use Rattle.std.proofs.Common.{◌≡◌, ◌≢◌, ℕ, suc, zero, ◌+◌, ◌<◌, ◌≤◌, List, [], ◌∷◌, ◌++◌, length, get_or, set, true, false, eqb, refl, sym, ap, ◌∙◌, subst, arith, append_assoc, append-nil, inl, inr, get_or-set_same, get_or-set_other}
use Rattle.std.specs.Prelude.{◌⊎◌}
use Rattle.std.specs.List.{flat_map}
use Rattle.std.proofs.lemmas.Bool.{cases_eq}
use Rattle.std.proofs.lemmas.Bool.Decides.{nat_tests}
use Rattle.std.proofs.lemmas.List.{get_or_default}
use Rattle.std.proofs.lemmas.List.Sums.{sum_by-set}
use Rattle.scan_values.specs.Selections.{is_among}
use Rattle.scan_segments.specs.Source.{Store}
use Rattle.scan_splits.specs.Arrivals.{Arrivals}
use Rattle.scan_drive.specs.Actives.{Becomes, Seats, SlotOk, AllOk, groups_in, groups_left}
use Rattle.scan_drive.specs.Files.{Told, told_at, Group}
use Rattle.scan_drive.specs.Phases.{is_unopened, unopened, IsSpent, phase_at, SpentBelow, work_groups, WorkOk, phase_left, rest_from, rest, PhaseOk, PhasesOk, TakesSplit}
use Rattle.scan_drive.specs.Runs.{new_run}
use Rattle.scan_drive.specs.Slots.{slot_at, slot_groups}
use Rattle.scan_drive.specs.Splits.{SplitState, Event}
use Rattle.scan_drive.specs.declared.active.Active.{Active}
use Rattle.scan_drive.specs.declared.phase.Phase.{Phase}
use Rattle.scan_drive.specs.declared.phase.Phase.TheVariants as phase
use Rattle.scan_drive.specs.declared.slot.Slot.{Slot}
use Rattle.scan_drive.specs.declared.slot.Stage.TheVariants as stage
use Rattle.scan_drive.proofs.Desking.{among_snoc}
use Rattle.scan_drive.proofs.Seating.{or_cases, or_none}

pub flat_map-append : {X A : Type 0} (f : X → List A) (xs ys : List X) → flat_map f (xs ++ ys) ≡ flat_map f xs ++ flat_map f ys
flat_map-append f [] ys = refl
flat_map-append f (x ∷ xs) ys = ap (λ zs. f x ++ zs) (flat_map-append f xs ys) ∙ sym (append_assoc (f x) (flat_map f xs) (flat_map f ys))

pub set_again : {T : Type 0} (xs : List T) (i : ℕ) (x y : T) → x ≡ get_or xs i x → y ≡ x → set xs i y ≡ xs
set_again [] i x y e f = refl
set_again (z ∷ xs) zero x y e f = ap (λ w. w ∷ xs) (f ∙ e)
set_again (z ∷ xs) (suc i) x y e f = ap (λ ws. z ∷ ws) (set_again xs i x y e f)

other_than : (a b : ℕ) → eqb a b ≡ false → a ≢ b
other_than a b e f = let here : eqb a b ≡ true = grind (arith, nat_tests) in let bad = sym e ∙ here in absurd cc

module _ {W F : Type 0} where
  -- one phase that is no less open
  pub unopened_set : (ps : List (Phase W F)) (i : ℕ) (x y : Phase W F) → i < length ps → x ≡ get_or ps i x → is_unopened y ≤ is_unopened x → unopened (set ps i y) ≤ unopened ps
  unopened_set ps i x y lt e h =
      let s = sum_by-set is_unopened ps i y x lt in
      let f : is_unopened x ≡ is_unopened (get_or ps i x) = ap is_unopened e in
      omega arith

  pub below_set : (ps : List (Phase W F)) (i n : ℕ) (p : Phase W F) → n ≤ i → SpentBelow ps n → SpentBelow (set ps i p) n
  below_set ps i n p le below k lt = let ne : k ≢ i = omega arith in subst (λ (q : Phase W F). IsSpent q) (sym (get_or-set_other ps i k p phase.Unopened ne)) (below k lt)

  pub below_more : (ps : List (Phase W F)) (i : ℕ) (x : Phase W F) → i < length ps → x ≡ get_or ps i x → SpentBelow ps i → IsSpent x → SpentBelow ps (i + 1)
  below_more ps i x lt e below sp k l = go (cases_eq k i) where
    go : (k ≡ i) ⊎ (k ≢ i) → IsSpent (phase_at ps k)
    go (inl is) = subst (λ j. IsSpent (phase_at ps j)) (sym is) (subst (λ (q : Phase W F). IsSpent q) (e ∙ get_or_default ps i x phase.Unopened lt) sp)
    go (inr other) = below k (omega arith)

module _ {W I F : Type 0} (split : W → SplitState I) (comes : W → Arrivals → Store → Event → Type 0) where
  pub spent_left : (place : ℕ) (t : Told I) (p : Phase W F) → IsSpent p → phase_left split comes place t p ≡ []
  spent_left place t phase.Unopened h = absurd h
  spent_left place t (phase.Queued ws rows) h = ap (flat_map (work_groups split comes place t)) h
  spent_left place t (phase.Held f) h = absurd h

  -- the first groups of the first file that has some are taken out
  pub rest_pull : (place : ℕ) (ts : List (Told I)) (ps : List (Phase W F)) (i : ℕ) (p : Phase W F) (xs : List (Group I)) → i < length ps → length ts ≡ length ps → SpentBelow ps i →
      phase_left split comes (place + i) (told_at ts i) (phase_at ps i) ≡ xs ++ phase_left split comes (place + i) (told_at ts i) p → rest_from split comes place ts ps ≡ xs ++ rest_from split comes place ts (set ps i p)
  rest_pull place [] [] i p xs lt n below h = absurd (omega arith)
  rest_pull place [] (q ∷ ps) i p xs lt n below h = absurd (omega arith)
  rest_pull place (t ∷ ts) [] i p xs lt n below h = absurd (omega arith)
  rest_pull place (t ∷ ts) (q ∷ ps) zero p xs lt n below h =
      let z : place + 0 ≡ place = omega arith in
      let here : phase_left split comes place t q ≡ xs ++ phase_left split comes place t p = subst (λ k. phase_left split comes k t q ≡ xs ++ phase_left split comes k t p) z h in
      ap (λ gs. gs ++ rest_from split comes (place + 1) ts ps) here ∙ append_assoc xs (phase_left split comes place t p) (rest_from split comes (place + 1) ts ps)
  rest_pull place (t ∷ ts) (q ∷ ps) (suc i) p xs lt n below h =
      let e = spent_left place t q (below 0 (omega arith)) in
      let z : place + suc i ≡ (place + 1) + i = omega arith in
      let there = subst (λ k. phase_left split comes k (told_at ts i) (phase_at ps i) ≡ xs ++ phase_left split comes k (told_at ts i) p) z h in
      ap (λ gs. gs ++ rest_from split comes (place + 1) ts ps) e
      ∙ rest_pull (place + 1) ts ps i p xs (omega arith) (omega arith) (λ k l. below (suc k) (omega arith)) there
      ∙ ap (λ gs. xs ++ (gs ++ rest_from split comes (place + 1) ts (set ps i p))) (sym e)

  -- all other phases are as before
  pub phases_set : (tale : List (Told I)) (ps : List (Phase W F)) (i : ℕ) (x y : Phase W F) → i < length ps → x ≡ get_or ps i x → ((t : Told I) → PhaseOk split comes t x → PhaseOk split comes t y) → PhasesOk split comes tale ps → PhasesOk split comes tale (set ps i y)
  phases_set tale ps i x y lt e h ok k = go (cases_eq k i) where
    at : x ≡ phase_at ps i
    at = e ∙ get_or_default ps i x phase.Unopened lt

    go : (k ≡ i) ⊎ (k ≢ i) → PhaseOk split comes (told_at tale k) (phase_at (set ps i y) k)
    go (inl is) = subst (λ j. PhaseOk split comes (told_at tale j) (phase_at (set ps i y) j)) (sym is) (subst (PhaseOk split comes (told_at tale i)) (sym (get_or-set_same ps i y phase.Unopened lt)) (h (told_at tale i) (subst (PhaseOk split comes (told_at tale i)) (sym at) (ok i))))
    go (inr other) = subst (PhaseOk split comes (told_at tale k)) (sym (get_or-set_other ps i k y phase.Unopened other)) (ok k)

  pub work_now : (tale : List (Told I)) (ps : List (Phase W F)) (i : ℕ) (x : Phase W F) (w : W) → i < length ps → x ≡ get_or ps i x → ((t : Told I) → PhaseOk split comes t x → WorkOk split comes t w) → PhasesOk split comes tale ps → WorkOk split comes (told_at tale i) w
  work_now tale ps i x w lt e h ok = h (told_at tale i) (subst (PhaseOk split comes (told_at tale i)) (sym (e ∙ get_or_default ps i x phase.Unopened lt)) (ok i))

module _ {W I R : Type 0} (split : W → SplitState I) (comes : W → Arrivals → Store → Event → Type 0) (items : R → List I) where
  -- a slot that is in no turn changes nothing
  pub groups_others : (tale : List (Told I)) (turns : List ℕ) (place : ℕ) (s : Slot W R) (old new : List (Slot W R)) → is_among turns place ≡ false → Becomes place s old new → groups_in split comes items tale turns new ≡ groups_in split comes items tale turns old
  groups_others tale [] place s old new off b = refl
  groups_others tale (q ∷ turns) place s old new off b =
      let parts = or_none (eqb q place) (is_among turns place) off in
      ap (λ x. slot_groups split comes items tale x ++ groups_in split comes items tale turns new) (b.others q (other_than q place parts.0))
      ∙ ap (λ gs. slot_groups split comes items tale (slot_at old q) ++ gs) (groups_others tale turns place s old new parts.1 b)

  pub seated_groups : (tale : List (Told I)) (file : ℕ) (w : W) (old new : Active W R) → Seats file w old new → groups_left split comes items tale new ≡ groups_left split comes items tale old ++ work_groups split comes file (told_at tale file) w
  seated_groups tale file w old new s =
      let slot : Slot W R = record { file = file; stage = stage.Reads (new_run w) } in
      let one : slot_groups split comes items tale (slot_at new.slots.items s.place) ++ [] ≡ work_groups split comes file (told_at tale file) w = append-nil (slot_groups split comes items tale (slot_at new.slots.items s.place)) ∙ ap (slot_groups split comes items tale) s.becomes.at in
      ap (λ ts. groups_in split comes items tale ts new.slots.items) s.turns
      ∙ flat_map-append (λ place. slot_groups split comes items tale (slot_at new.slots.items place)) old.turns.items (s.place ∷ [])
      ∙ ap (λ gs. gs ++ (slot_groups split comes items tale (slot_at new.slots.items s.place) ++ [])) (groups_others tale old.turns.items s.place slot old.slots.items new.slots.items s.unused s.becomes)
      ∙ ap (λ gs. groups_left split comes items tale old ++ gs) one

  pub seated_ok : (tale : List (Told I)) (file : ℕ) (w : W) (old new : Active W R) → file < length tale → WorkOk split comes (told_at tale file) w → Seats file w old new → AllOk split comes items tale old → AllOk split comes items tale new
  seated_ok tale file w old new lt h s ok place m =
      go (cases_eq place s.place) (or_cases (is_among old.turns.items place) (eqb s.place place) (sym (among_snoc old.turns.items s.place place) ∙ sym (ap (λ (xs : List ℕ). is_among xs place) s.turns) ∙ m))
    where
      slot : Slot W R
      slot = record { file = file; stage = stage.Reads (new_run w) }

      this : SlotOk split comes items tale slot
      this = record { within = lt; stands = h }

      go : (place ≡ s.place) ⊎ (place ≢ s.place) → (is_among old.turns.items place ≡ true) ⊎ (eqb s.place place ≡ true) → SlotOk split comes items tale (slot_at new.slots.items place)
      go (inl is) c = subst (λ k. SlotOk split comes items tale (slot_at new.slots.items k)) (sym is) (subst (SlotOk split comes items tale) (sym s.becomes.at) this)
      go (inr other) (inl there) = subst (SlotOk split comes items tale) (sym (s.becomes.others place other)) (ok place there)
      go (inr other) (inr e) = let same : s.place ≡ place = grind (arith, nat_tests) in absurd (other (sym same))

module _ {W I R F : Type 0} (split : W → SplitState I) (comes : W → Arrivals → Store → Event → Type 0) (items : R → List I) where
  -- a split has become active
  pub activated : (tale : List (Told I)) (old new : Active W R) (ps : List (Phase W F)) (i : ℕ) (x p : Phase W F) (w : W) → i < length ps → length tale ≡ length ps → SpentBelow ps i → x ≡ get_or ps i x → TakesSplit split comes x p w → Seats i w old new →
      groups_left split comes items tale new ++ rest split comes tale (set ps i p) ≡ groups_left split comes items tale old ++ rest split comes tale ps
  activated tale old new ps i x p w lt n below e t s =
      let at : x ≡ phase_at ps i = e ∙ get_or_default ps i x phase.Unopened lt in
      let gs = work_groups split comes i (told_at tale i) w in
      let z : i ≡ 0 + i = omega arith in
      let pulled = rest_pull split comes 0 tale ps i p gs lt n below (subst (λ k. phase_left split comes k (told_at tale i) (phase_at ps i) ≡ gs ++ phase_left split comes k (told_at tale i) p) z (ap (phase_left split comes i (told_at tale i)) (sym at) ∙ t.left i (told_at tale i))) in
      ap (λ ys. ys ++ rest split comes tale (set ps i p)) (seated_groups split comes items tale i w old new s)
      ∙ append_assoc (groups_left split comes items tale old) gs (rest split comes tale (set ps i p))
      ∙ ap (λ ys. groups_left split comes items tale old ++ ys) (sym pulled)
