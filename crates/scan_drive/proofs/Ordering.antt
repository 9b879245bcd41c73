-- Active splits stay in the order of their files.
use Rattle.std.proofs.Common.{◌≡◌, ◌≢◌, ℕ, ◌≤◌, List, [], ◌∷◌, ◌++◌, Bool, true, false, ◌||◌, eqb, refl, sym, ap, ◌∙◌, subst, arith}
use Rattle.scan_values.specs.Selections.{is_among}
use Rattle.scan_drive.specs.Actives.{Seats, GivesRows, Stays}
use Rattle.scan_drive.specs.Order.{Rises, KeepsOrder}
use Rattle.scan_drive.specs.Slots.{slot_at}
use Rattle.scan_drive.specs.declared.active.Active.{Active}
use Rattle.scan_drive.specs.declared.slot.Slot.{Slot}
use Rattle.scan_drive.proofs.Handing.{among_head, among_later}
use Rattle.std.specs.Prelude.{◌⊎◌}
use Rattle.std.proofs.Common.{inl, inr}
use Rattle.std.proofs.lemmas.Bool.{cases_eq}
use Rattle.std.proofs.lemmas.Bool.Decides.{nat_tests}

module _ {W R : Type 0} where
  -- from a lower file
  pub rises_from : (i j last : ℕ) (ps : List ℕ) (slots : List (Slot W R)) → j ≤ i → Rises i last ps slots → Rises j last ps slots
  rises_from i j last [] slots le h = let b : i ≤ last = h in omega (arith, le, b)
  rises_from i j last (p ∷ ps) slots le h = (let a = h.0 in omega (arith, le, a), h.1)

  -- up to a higher one
  pub rises_to : (i last most : ℕ) (ps : List ℕ) (slots : List (Slot W R)) → last ≤ most → Rises i last ps slots → Rises i most ps slots
  rises_to i last most [] slots le h = let b : i ≤ last = h in omega (arith, le, b)
  rises_to i last most (p ∷ ps) slots le h = (h.0, rises_to (slot_at slots p).file last most ps slots le h.1)

  -- slots of the same files
  pub rises_same : (i last : ℕ) (ps : List ℕ) (old new : List (Slot W R)) → ((q : ℕ) → is_among ps q ≡ true → (slot_at new q).file ≡ (slot_at old q).file) → Rises i last ps old → Rises i last ps new
  rises_same i last [] old new f h = h
  rises_same i last (p ∷ ps) old new f h =
      let e : (slot_at new p).file ≡ (slot_at old p).file = f p (among_head p ps) in
      (subst (λ n. i ≤ n) (sym e) h.0, subst (λ n. Rises n last ps new) (sym e) (rises_same (slot_at old p).file last ps old new (λ q m. f q (among_later p q ps m)) h.1))

  -- one more, of the last file
  rises_snoc : (i last : ℕ) (ps : List ℕ) (place : ℕ) (slots : List (Slot W R)) → (slot_at slots place).file ≡ last → Rises i last ps slots → Rises i last (ps ++ place ∷ []) slots
  rises_snoc i last [] place slots e h = let b : i ≤ last = h in (omega (arith, b, e), omega (arith, e))
  rises_snoc i last (p ∷ ps) place slots e h = (h.0, rises_snoc (slot_at slots p).file last ps place slots e h.1)

  pub rises_later : (i last p : ℕ) (ps : List ℕ) (slots : List (Slot W R)) → Rises i last (p ∷ ps) slots → Rises i last ps slots
  rises_later i last p ps slots h = rises_from (slot_at slots p).file i last ps slots h.0 h.1

  pub rises_ends : (i last : ℕ) (ps : List ℕ) (slots : List (Slot W R)) → Rises i last ps slots → i ≤ last
  rises_ends i last [] slots h = h
  rises_ends i last (p ∷ ps) slots h = let a = h.0 in let b = rises_ends (slot_at slots p).file last ps slots h.1 in omega (arith, a, b)

  -- none is of a file before that of the first
  pub rises_front : (i last p : ℕ) (later ps : List ℕ) (slots : List (Slot W R)) → ps ≡ p ∷ later → Rises i last ps slots → Rises (slot_at slots p).file last ps slots
  rises_front i last p later ps slots e h =
      let r : Rises i last (p ∷ later) slots = subst (λ ts. Rises i last ts slots) e h in
      let s : Rises (slot_at slots p).file last (p ∷ later) slots = (omega arith, r.1) in
      subst (λ ts. Rises (slot_at slots p).file last ts slots) (sym e) s

  -- each is of a file between two
  pub rises_between : (i last : ℕ) (ps : List ℕ) (slots : List (Slot W R)) (place : ℕ) → Rises i last ps slots → is_among ps place ≡ true → (i ≤ (slot_at slots place).file) × ((slot_at slots place).file ≤ last)
  rises_between i last [] slots place h m = absurd cc
  rises_between i last (p ∷ ps) slots place h m = go (eqb p place) refl (rises_between (slot_at slots p).file last ps slots place h.1)
    where
      go : (b : Bool) → eqb p place ≡ b → (is_among ps place ≡ true → ((slot_at slots p).file ≤ (slot_at slots place).file) × ((slot_at slots place).file ≤ last))
          → (i ≤ (slot_at slots place).file) × ((slot_at slots place).file ≤ last)
      go true e ih =
          let is : p ≡ place = grind (arith, nat_tests) in
          let low = h.0 in
          let high = rises_ends (slot_at slots p).file last ps slots h.1 in
          let f : (slot_at slots p).file ≡ (slot_at slots place).file = ap (λ q. (slot_at slots q).file) is in
          (omega (arith, low, f), omega (arith, high, f))
      go false e ih =
          let low = h.0 in
          let r = ih (sym (ap (λ b. b || is_among ps place) e) ∙ m) in
          let a = r.0 in
          (omega (arith, low, a), r.1)

  -- and none is of a file before that of the first
  pub rises_from_front : (i last p : ℕ) (later ps : List ℕ) (slots : List (Slot W R)) (place : ℕ) → ps ≡ p ∷ later → Rises i last ps slots → is_among ps place ≡ true
      → ((slot_at slots p).file ≤ (slot_at slots place).file) × ((slot_at slots place).file ≤ last)
  rises_from_front i last p later ps slots place e h m = rises_between (slot_at slots p).file last ps slots place (rises_front i last p later ps slots e h) m

  -- a split of the last file becomes active
  pub order_seat : (low file : ℕ) (work : W) (old new : Active W R) → Seats file work old new → Rises low file old.turns.items old.slots.items → Rises low file new.turns.items new.slots.items
  order_seat low file work old new s h =
      subst (λ ts. Rises low file ts new.slots.items) (sym s.turns)
      (rises_snoc low file old.turns.items s.place new.slots.items (ap (λ (x : Slot W R). x.file) s.becomes.at) (rises_same low file old.turns.items old.slots.items new.slots.items other h))
    where
      other : (q : ℕ) → is_among old.turns.items q ≡ true → (slot_at new.slots.items q).file ≡ (slot_at old.slots.items q).file
      other q m = ap (λ (x : Slot W R). x.file) (s.becomes.others q (λ e. (let bad : true ≡ false = sym m ∙ ap (is_among old.turns.items) e ∙ s.unused in absurd cc)))

  pub order_none : (a : Active W R) → KeepsOrder a a
  order_none a first last h = h

  pub order_then : (old mid new : Active W R) → KeepsOrder old mid → KeepsOrder mid new → KeepsOrder old new
  order_then old mid new p q first last h = q first last (p first last h)

  -- turns and the files of all slots are the same
  pub order_files : (old new : Active W R) → new.turns.items ≡ old.turns.items → ((q : ℕ) → (slot_at new.slots.items q).file ≡ (slot_at old.slots.items q).file) → KeepsOrder old new
  order_files old new t f first last h = subst (λ ts. Rises first last ts new.slots.items) (sym t) (rises_same first last old.turns.items old.slots.items new.slots.items (λ q m. f q) h)

  pub order_stays : (old new : Active W R) → Stays old new → KeepsOrder old new
  order_stays old new s = order_files old new (λ i. (s.turns i).items) (λ q. ap (λ (ss : List (Slot W R)). (slot_at ss q).file) s.slots)

  -- the rows of the first are taken
  pub order_rows : (file : ℕ) (rows : R) (old new : Active W R) → GivesRows file rows old new → KeepsOrder old new
  order_rows file rows old new g first last h =
      rises_same first last new.turns.items old.slots.items new.slots.items (λ q m. same q (cases_eq q g.place)) (rises_later first last g.place new.turns.items old.slots.items (subst (λ ts. Rises first last ts old.slots.items) g.turns h))
    where
      same : (q : ℕ) → (q ≡ g.place) ⊎ (q ≢ g.place) → (slot_at new.slots.items q).file ≡ (slot_at old.slots.items q).file
      same q (inl is) = ap (λ k. (slot_at new.slots.items k).file) is ∙ ap (λ (x : Slot W R). x.file) g.becomes.at ∙ sym (ap (λ (x : Slot W R). x.file) g.was) ∙ sym (ap (λ k. (slot_at old.slots.items k).file) is)
      same q (inr ne) = ap (λ (x : Slot W R). x.file) (g.becomes.others q ne)

  -- no split is active
  pub rises_none : (last : ℕ) (ps : List ℕ) (slots : List (Slot W R)) → ps ≡ [] → Rises 0 last ps slots
  rises_none last ps slots e = let low : 0 ≤ last = omega arith in subst (λ ts. Rises 0 last ts slots) (sym e) low
