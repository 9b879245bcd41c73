-- What has come is handed to the slots that wait for it, one after the other.
use Rattle.std.proofs.Common.{◌≡◌, ◌≢◌, ℕ, suc, zero, ◌+◌, ◌<◌, ◌≤◌, List, [], ◌∷◌, length, drop, set, get_or, Bool, true, false, not, ◌&&◌, ◌||◌, eqb, inl, inr, refl, sym, ap, ◌∙◌, subst, arith, get_or-set_same, get_or-set_other}
use Rattle.std.specs.Prelude.{◌⊎◌}
use Rattle.std.proofs.lemmas.Bool.{cases_eq}
use Rattle.std.proofs.lemmas.Bool.Decides.{nat_tests}
use Rattle.std.proofs.lemmas.List.{get_or_past}
use Rattle.scan_values.specs.Selections.{is_among}
use Rattle.scan_splits.specs.Wanted.{no_repeats}
use Rattle.scan_drive.specs.Slots.{slot_at, nothing, is_fresh, at_each, MayTake, AllTake, also_if}
use Rattle.scan_drive.specs.declared.slot.Slot.{Slot}
use Rattle.scan_drive.proofs.Desking.{among_snoc}

pub le_or_lt : (a b : ℕ) → (a ≤ b) ⊎ (b < a)
le_or_lt a b = go (cases a b)
  where
    cases : (x y : ℕ) → (x ≤ y) ⊎ (y < x)
    cases x y = grind arith

    go : (a ≤ b) ⊎ (b < a) → (a ≤ b) ⊎ (b < a)
    go h = h

pub and_both : (a b : Bool) → (a && b) ≡ true → (a ≡ true) × (b ≡ true)
and_both true b h = (refl, h)
and_both false b h = absurd cc

pub not_true : (b : Bool) → not b ≡ true → b ≡ false
not_true true h = absurd cc
not_true false h = refl

pub or_right : (a b : Bool) → b ≡ true → (a || b) ≡ true
or_right true b e = refl
or_right false b e = e

pub among_later : (x id : ℕ) (xs : List ℕ) → is_among xs id ≡ true → is_among (x ∷ xs) id ≡ true
among_later x id xs h = or_right (eqb x id) (is_among xs id) h

pub among_head : (x : ℕ) (xs : List ℕ) → is_among (x ∷ xs) x ≡ true
among_head x xs = let is : eqb x x ≡ true = grind (arith, nat_tests) in rw is refl

pub drop_next : {T : Type 0} (xs : List T) (i : ℕ) (d : T) → i < length xs → drop i xs ≡ get_or xs i d ∷ drop (i + 1) xs
drop_next [] i d lt = absurd (omega arith)
drop_next (x ∷ xs) zero d lt = refl
drop_next (x ∷ xs) (suc i) d lt = let e : suc i + 1 ≡ suc (i + 1) = omega arith in drop_next xs i d (omega arith) ∙ ap (λ k. get_or xs i d ∷ drop k (x ∷ xs)) (sym e)

among_apart : (p q : ℕ) (rest : List ℕ) → is_among rest p ≡ false → is_among rest q ≡ true → q ≢ p
among_apart p q rest n h e = let bad = sym h ∙ ap (is_among rest) e ∙ n in absurd cc

module _ {W R : Type 0} where
  -- a slot that is given up or waits is within the list
  pub take_within : (slots : List (Slot W R)) (p id : ℕ) → MayTake id (slot_at slots p) → p < length slots
  take_within slots p id h = go (le_or_lt (length slots) p)
    where
      go : (length slots ≤ p) ⊎ (p < length slots) → p < length slots
      go (inr lt) = lt
      go (inl le) =
          let past : slot_at slots p ≡ nothing = get_or_past slots p nothing le in
          let bad : false ≡ true = subst (MayTake id) past h refl in
          absurd cc

  pub at_set_other : (slots : List (Slot W R)) (p q : ℕ) (s : Slot W R) → q ≢ p → slot_at (set slots p s) q ≡ slot_at slots q
  at_set_other slots p q s n = get_or-set_other slots p q s nothing n

  pub at_set_same : (slots : List (Slot W R)) (p : ℕ) (s : Slot W R) → p < length slots → slot_at (set slots p s) p ≡ s
  at_set_same slots p s lt = get_or-set_same slots p s nothing lt

  -- what is true of a slot that was set and of the others is true of each
  pub at_set : (P : ℕ → Slot W R → Type 0) (slots : List (Slot W R)) (p : ℕ) (s : Slot W R) → p < length slots → P p s → ((q : ℕ) → q ≢ p → P q (slot_at slots q)) → (q : ℕ) → P q (slot_at (set slots p s) q)
  at_set P slots p s lt here others q = go (cases_eq q p)
    where
      go : (q ≡ p) ⊎ (q ≢ p) → P q (slot_at (set slots p s) q)
      go (inl is) = subst (λ k. P k (slot_at (set slots p s) k)) (sym is) (subst (P p) (sym (at_set_same slots p s lt)) here)
      go (inr other) = subst (P q) (sym (at_set_other slots p q s other)) (others q other)

  -- what is to be done at the rest of the places, and what was done at the others
  pub record Walks (id : ℕ) (f : Slot W R → Slot W R) (rest places : List ℕ) (slots now : List (Slot W R)) : Type 0 where
    pub slots_are : at_each f rest now ≡ at_each f places slots
    pub take : AllTake id rest now
    pub once : no_repeats rest ≡ true

  pub walks_next : (id : ℕ) (f : Slot W R → Slot W R) (p : ℕ) (rest places : List ℕ) (slots now : List (Slot W R)) (s : Slot W R) → Walks id f (p ∷ rest) places slots now → s ≡ f (slot_at now p) → Walks id f rest places slots (set now p s)
  walks_next id f p rest places slots now s w is =
      let parts = and_both (not (is_among rest p)) (no_repeats rest) w.once in
      let off = not_true (is_among rest p) parts.0 in
      record {
        slots_are = ap (λ x. at_each f rest (set now p x)) is ∙ w.slots_are;
        take = λ q m. subst (MayTake id) (sym (at_set_other now p q s (among_apart p q rest off m))) (w.take q (among_later p q rest m));
        once = parts.1;
      }

  pub walks_within : (id : ℕ) (f : Slot W R → Slot W R) (p : ℕ) (rest places : List ℕ) (slots now : List (Slot W R)) → Walks id f (p ∷ rest) places slots now → p < length now
  walks_within id f p rest places slots now w = take_within now p id (w.take p (among_head p rest))

  pub walks_take : (id : ℕ) (f : Slot W R → Slot W R) (p : ℕ) (rest places : List ℕ) (slots now : List (Slot W R)) → Walks id f (p ∷ rest) places slots now → MayTake id (slot_at now p)
  walks_take id f p rest places slots now w = w.take p (among_head p rest)
