-- The places of the active splits and those that are free, as splits become active and end.
use Rattle.std.proofs.Common.{◌≡◌, ◌≢◌, ℕ, zero, suc, ◌+◌, ◌<◌, List, [], ◌∷◌, ◌++◌, length, set, get_or, Bool, true, false, not, ◌||◌, eqb, Option, Some, None, inl, inr, refl, sym, ap, ◌∙◌, arith, append_assoc, append-nil}
use Rattle.std.specs.Prelude.{◌⊎◌}
use Rattle.std.proofs.lemmas.Bool.{cases_eq}
use Rattle.std.proofs.lemmas.Bool.Decides.{nat_tests}
use Rattle.std.proofs.lemmas.List.{get_or_default}
use Rattle.scan_values.specs.Selections.{is_among}
use Rattle.scan_splits.specs.Wanted.{no_repeats}
use Rattle.scan_splits.proofs.Wanting.{distinct-push}
use Rattle.scan_drive.specs.Actives.{AreSeats, Becomes, IsRoom}
use Rattle.scan_drive.specs.Slots.{slot_at, nothing, is_fresh}
use Rattle.scan_drive.specs.declared.slot.Slot.{Slot}
use Rattle.scan_drive.specs.declared.slot.Stage.{Stage}
use Rattle.scan_drive.specs.declared.slot.Stage.TheVariants as stage
use Rattle.scan_drive.proofs.Desking.{among_snoc}
use Rattle.scan_drive.proofs.Handing.{and_both, not_true, among_head, at_set_same, at_set_other}

pub or_left : (a b : Bool) → a ≡ true → (a || b) ≡ true
or_left true b e = refl
or_left false b e = absurd cc

or_right : (a b : Bool) → b ≡ true → (a || b) ≡ true
or_right true b e = refl
or_right false b e = e

pub or_cases : (a b : Bool) → (a || b) ≡ true → (a ≡ true) ⊎ (b ≡ true)
or_cases true b e = inl refl
or_cases false b e = inr e

pub or_none : (a b : Bool) → (a || b) ≡ false → (a ≡ false) × (b ≡ false)
or_none false false e = (refl, refl)
or_none true b e = absurd cc
or_none false true e = absurd cc

pub among_append : (xs ys : List ℕ) (n : ℕ) → is_among (xs ++ ys) n ≡ (is_among xs n || is_among ys n)
among_append [] ys n = refl
among_append (x ∷ xs) ys n = rw (among_append xs ys n) (go (eqb x n) (is_among xs n) (is_among ys n))
  where
    go : (a b c : Bool) → (a || (b || c)) ≡ ((a || b) || c)
    go true b c = refl
    go false b c = refl

-- what stands behind other numbers of a list without repeats is none of them
apart : (xs ys : List ℕ) (y : ℕ) → no_repeats (xs ++ y ∷ ys) ≡ true → is_among xs y ≡ false
apart [] ys y d = refl
apart (x ∷ xs) ys y d = go (λ e. apart xs ys y e) (eqb x y) refl
  where
    parts : (not (is_among (xs ++ y ∷ ys) x) ≡ true) × (no_repeats (xs ++ y ∷ ys) ≡ true)
    parts = and_both (not (is_among (xs ++ y ∷ ys) x)) (no_repeats (xs ++ y ∷ ys)) d

    go : (no_repeats (xs ++ y ∷ ys) ≡ true → is_among xs y ≡ false) → (b : Bool) → eqb x y ≡ b → (eqb x y || is_among xs y) ≡ false
    go ih false e = rw e (ih parts.1)
    go ih true e =
        let same : x ≡ y = grind (arith, nat_tests) in
        let there : is_among (xs ++ y ∷ ys) y ≡ true = among_append xs (y ∷ ys) y ∙ or_right (is_among xs y) (is_among (y ∷ ys) y) (among_head y ys) in
        let bad = sym (not_true (is_among (xs ++ y ∷ ys) x) parts.0) ∙ ap (is_among (xs ++ y ∷ ys)) same ∙ there in
        absurd cc

-- the first of a list without repeats is not among the others
pub apart_front : (turns free : List ℕ) (place : ℕ) (later : List ℕ) → no_repeats (turns ++ free) ≡ true → turns ≡ place ∷ later → is_among later place ≡ false
apart_front turns free place later once t =
    let parts = and_both (not (is_among (later ++ free) place)) (no_repeats (later ++ free)) (sym (ap (λ (xs : List ℕ). no_repeats (xs ++ free)) t) ∙ once) in
    (or_none (is_among later place) (is_among free place) (sym (among_append later free place) ∙ not_true (is_among (later ++ free) place) parts.0)).0

eq_of : (a b : ℕ) → eqb a b ≡ true → a ≡ b
eq_of a b e = grind (arith, nat_tests)

ne_of : (a b : ℕ) → eqb a b ≡ false → b ≢ a
ne_of a b e f = let same : a ≡ b = sym f in let here : eqb a b ≡ true = grind (arith, nat_tests) in let bad = sym e ∙ here in absurd cc

pub none_of : {T : Type 0} (o : Option T) → ((x : T) → o ≡ Some x → ⊥) → o ≡ None
none_of None h = refl
none_of (Some x) h = absurd (h x refl)

module _ {W R : Type 0} where
  pub slot_is : (s : Slot W R) (x : Stage W R) → s.stage ≡ x → s ≡ record { file = s.file; stage = x }
  slot_is s x e = ap (λ (z : Stage W R). record s { stage = z }) e

  -- the slot that was found
  pub found : (slots : List (Slot W R)) (place : ℕ) (x : Slot W R) → place < length slots → x ≡ get_or slots place x → slot_at slots place ≡ x
  found slots place x lt e = sym (e ∙ get_or_default slots place x nothing lt)

  -- a slot that is set to what it was
  pub set_again : (slots : List (Slot W R)) (place : ℕ) (x y : Slot W R) → x ≡ get_or slots place x → y ≡ x → set slots place y ≡ slots
  set_again [] place x y e f = refl
  set_again (s ∷ slots) zero x y e f = ap (λ z. z ∷ slots) (f ∙ e)
  set_again (s ∷ slots) (suc place) x y e f = ap (λ zs. s ∷ zs) (set_again slots place x y e f)

  pub becomes_set : (slots : List (Slot W R)) (place : ℕ) (s : Slot W R) → place < length slots → Becomes place s slots (set slots place s)
  becomes_set slots place s lt = record { at = at_set_same slots place s lt; others = λ q other. at_set_other slots place q s other }

  -- a place that is used, behind those of the others
  pub seated_room : (turns free free' : List ℕ) (place : ℕ) (s : Slot W R) (old new : List (Slot W R)) → AreSeats turns free old → Becomes place s old new → IsRoom place free free' old new → AreSeats (turns ++ place ∷ []) free' new × (is_among turns place ≡ false)
  seated_room turns free free' place s old new seats b room = go room
    where
      empty : (q : ℕ) → is_among (turns ++ place ∷ []) q ≡ false → (slot_at new q).stage ≡ stage.Empty
      empty q off =
          let parts = or_none (is_among turns q) (eqb place q) (sym (among_snoc turns place q) ∙ off) in
          ap (λ (x : Slot W R). x.stage) (b.others q (ne_of place q parts.1)) ∙ seats.empty q parts.0

      go : ((free ≡ place ∷ free') × (length new ≡ length old)) ⊎ ((free ≡ []) × (free' ≡ []) × (place ≡ length old) × (length new ≡ length old + 1)) → AreSeats (turns ++ place ∷ []) free' new × (is_among turns place ≡ false)
      go (inl r) =
          let same : (turns ++ place ∷ []) ++ free' ≡ turns ++ free = append_assoc turns (place ∷ []) free' ∙ ap (λ xs. turns ++ xs) (sym r.0) in
          let n : length new ≡ length old = r.1 in (
            record {
              once = ap no_repeats same ∙ seats.once;
              within = λ q m. let lt = seats.within q (sym (ap (λ (xs : List ℕ). is_among xs q) same) ∙ m) in omega arith;
              empty = empty;
            },
            apart turns free' place (ap (λ (xs : List ℕ). no_repeats (turns ++ xs)) (sym r.0) ∙ seats.once),
          )
      go (inr r) =
          let none : turns ++ free ≡ turns = ap (λ xs. turns ++ xs) r.0 ∙ append-nil turns in
          let same : (turns ++ place ∷ []) ++ free' ≡ turns ++ place ∷ [] = ap (λ xs. (turns ++ place ∷ []) ++ xs) r.1 ∙ append-nil (turns ++ place ∷ []) in
          let off : is_among turns place ≡ false = unused (is_among turns place) refl in (
            record {
              once = ap no_repeats same ∙ distinct-push turns place (sym (ap no_repeats none) ∙ seats.once) off;
              within = λ q m. within q (or_cases (is_among turns q) (eqb place q) (sym (among_snoc turns place q) ∙ sym (ap (λ (xs : List ℕ). is_among xs q) same) ∙ m));
              empty = empty;
            },
            off,
          )
        where
          old_within : (q : ℕ) → is_among turns q ≡ true → q < length old
          old_within q m = seats.within q (among_append turns free q ∙ or_left (is_among turns q) (is_among free q) m)

          unused : (t : Bool) → is_among turns place ≡ t → is_among turns place ≡ false
          unused false e = e
          unused true e = let lt = old_within place e in let at : place ≡ length old = r.2 in absurd (omega arith)

          within : (q : ℕ) → (is_among turns q ≡ true) ⊎ (eqb place q ≡ true) → q < length new
          within q (inl m) = let lt = old_within q m in let n : length new ≡ length old + 1 = r.3 in omega arith
          within q (inr e) = let is = eq_of place q e in let at : place ≡ length old = r.2 in let n : length new ≡ length old + 1 = r.3 in omega arith

  -- a place that is free again, behind the others that are
  pub seated_freed : (turns later free : List ℕ) (place : ℕ) (s : Slot W R) (old new : List (Slot W R)) → AreSeats turns free old → turns ≡ place ∷ later → s.stage ≡ stage.Empty → Becomes place s old new → length new ≡ length old → AreSeats later (free ++ place ∷ []) new
  seated_freed turns later free place s old new seats t e b n =
      let all : turns ++ free ≡ place ∷ (later ++ free) = ap (λ xs. xs ++ free) t in
      let parts = and_both (not (is_among (later ++ free) place)) (no_repeats (later ++ free)) (sym (ap no_repeats all) ∙ seats.once) in
      let turned : later ++ (free ++ place ∷ []) ≡ (later ++ free) ++ place ∷ [] = sym (append_assoc later free (place ∷ [])) in
      record {
        once = ap no_repeats turned ∙ distinct-push (later ++ free) place parts.1 (not_true (is_among (later ++ free) place) parts.0);
        within = λ q m.
            let lt = seats.within q (ap (λ (xs : List ℕ). is_among xs q) all ∙ swap (eqb place q) (is_among (later ++ free) q) (sym (among_snoc (later ++ free) place q) ∙ sym (ap (λ (xs : List ℕ). is_among xs q) turned) ∙ m)) in
            omega arith;
        empty = λ q off. empty q off (cases_eq q place);
      }
    where
      swap : (a c : Bool) → (c || a) ≡ true → (a || c) ≡ true
      swap true c h = refl
      swap false true h = refl
      swap false false h = h

      empty : (q : ℕ) → is_among later q ≡ false → (q ≡ place) ⊎ (q ≢ place) → (slot_at new q).stage ≡ stage.Empty
      empty q off (inl is) = ap (λ k. (slot_at new k).stage) is ∙ ap (λ (x : Slot W R). x.stage) b.at ∙ e
      empty q off (inr other) =
          let ne : eqb place q ≡ false = unequal (eqb place q) refl in
          ap (λ (x : Slot W R). x.stage) (b.others q other) ∙ seats.empty q (ap (λ (xs : List ℕ). is_among xs q) t ∙ rw ne off)
        where
          unequal : (u : Bool) → eqb place q ≡ u → eqb place q ≡ false
          unequal false f = f
          unequal true f = absurd (other (sym (eq_of place q f)))

  pub first_within : (turns later free : List ℕ) (place : ℕ) (slots : List (Slot W R)) → AreSeats turns free slots → turns ≡ place ∷ later → place < length slots
  first_within turns later free place slots seats t =
      seats.within place (ap (λ (xs : List ℕ). is_among (xs ++ free) place) t ∙ among_head place (later ++ free))

  pub free_within : (turns free : List ℕ) (slots : List (Slot W R)) → AreSeats turns free slots → (place : ℕ) → is_among free place ≡ true → place < length slots
  free_within turns free slots seats place m = seats.within place (among_append turns free place ∙ or_right (is_among turns place) (is_among free place) m)
