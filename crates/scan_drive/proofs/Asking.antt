-- A place that waits for several ids, which the source is asked for.
use Rattle.std.proofs.Common.{◌≡◌, ℕ, suc, zero, get_or, ◌<◌, ◌≤◌, List, [], ◌∷◌, ◌++◌, length, Bool, true, false, ◌||◌, ◌&&◌, cond, eqb, Option, Some, None, inl, inr, refl, sym, ap, ◌∙◌, subst, arith, append_assoc, append-nil}
use Rattle.std.specs.Prelude.{◌⊎◌, nat_eq}
use Rattle.std.proofs.lemmas.Bool.Decides.{nat_tests}
use Rattle.scan_values.specs.Selections.{is_among}
use Rattle.scan_segments.specs.Source.{SourceState, Stays, Ends, without_live}
use Rattle.scan_drive.specs.Sources.{SourceMoves}
use Rattle.scan_drive.specs.Desks.{Waiters, waiters_at, waits, is_in, added, Moves, Asks}
use Rattle.scan_drive.proofs.Desking.{moved, among_snoc}

pub moves_none : (May : ℕ → Type 0) (s t : SourceState) → t.holds ≡ s.holds → t.asked ≡ s.asked → ((id : ℕ) → t.live id ≡ true → s.live id ≡ true) → s.faults ≤ t.faults → t.turns ≤ s.turns → t.can_fail ≡ s.can_fail → SourceMoves May s t
moves_none May s t h a l f u c = record { holds = h; ids = []; asked = a ∙ sym (append-nil s.asked); may = λ id n. absurd cc; live = λ id on. inl (l id on); faults = f; turns = u; can_fail = c }

pub moves_self : (May : ℕ → Type 0) (s : SourceState) → SourceMoves May s s
moves_self May s = moves_none May s s refl refl (λ id on. on) (omega arith) (omega arith) refl

among_both : (xs ys : List ℕ) (id : ℕ) → is_among (xs ++ ys) id ≡ (is_among xs id || is_among ys id)
among_both [] ys id = refl
among_both (x ∷ xs) ys id = ap (λ b. eqb x id || b) (among_both xs ys id) ∙ assoc (eqb x id) (is_among xs id) (is_among ys id)
  where
    assoc : (a b c : Bool) → (a || (b || c)) ≡ ((a || b) || c)
    assoc true b c = refl
    assoc false b c = refl

pub moves_then : (May : ℕ → Type 0) (r s t : SourceState) → SourceMoves May r s → SourceMoves May s t → SourceMoves May r t
moves_then May r s t p q = record {
  holds = q.holds ∙ p.holds;
  ids = p.ids ++ q.ids;
  asked = q.asked ∙ ap (λ xs. xs ++ q.ids) p.asked ∙ append_assoc r.asked p.ids q.ids;
  may = λ id n. go id (is_among p.ids id) refl (sym (among_both p.ids q.ids id) ∙ n);
  live = λ id on. was id (q.live id on);
  faults = let f = p.faults in let h = q.faults in omega arith;
  turns = let f = p.turns in let h = q.turns in omega arith;
  can_fail = q.can_fail ∙ p.can_fail;
}
  where
    Was : ℕ → Type 0
    Was id = (r.live id ≡ true) ⊎ (is_among (p.ids ++ q.ids) id ≡ true)

    before : (id : ℕ) → (r.live id ≡ true) ⊎ (is_among p.ids id ≡ true) → Was id
    before id (inl on) = inl on
    before id (inr m) = inr (among_both p.ids q.ids id ∙ ap (λ b. b || is_among q.ids id) m)

    was : (id : ℕ) → (s.live id ≡ true) ⊎ (is_among q.ids id ≡ true) → Was id
    was id (inl on) = before id (p.live id on)
    was id (inr m) = inr (among_both p.ids q.ids id ∙ ap (λ b. is_among p.ids id || b) m ∙ or_true (is_among p.ids id))
      where
        or_true : (b : Bool) → (b || true) ≡ true
        or_true true = refl
        or_true false = refl

    go : (id : ℕ) (b : Bool) → is_among p.ids id ≡ b → (is_among p.ids id || is_among q.ids id) ≡ true → May id
    go id true e n = p.may id e
    go id false e n = q.may id (rw e at n)

pub moves_weaker : (May Can : ℕ → Type 0) (s t : SourceState) → ((id : ℕ) → May id → Can id) → SourceMoves May s t → SourceMoves Can s t
moves_weaker May Can s t w p = record { holds = p.holds; ids = p.ids; asked = p.asked; may = λ id n. w id (p.may id n); live = p.live; faults = p.faults; turns = p.turns; can_fail = p.can_fail }

pub moves_stay : (May : ℕ → Type 0) (s t : SourceState) → Stays s t → SourceMoves May s t
moves_stay May s t h = moves_none May s t h.holds h.asked (λ id on. sym (ap (λ (f : ℕ → Bool). f id) h.live) ∙ on) h.faults h.turns h.can_fail

-- a request that ends
ended_live : (id : ℕ) (live now : ℕ → Bool) → now ≡ without_live id live → (k : ℕ) → now k ≡ true → live k ≡ true
ended_live id live now e k on = go (nat_eq k id) (sym (ap (λ (f : ℕ → Bool). f k) e) ∙ on)
  where
    go : (b : Bool) → cond b false (live k) ≡ true → live k ≡ true
    go true h = absurd cc
    go false h = h

pub moves_ends : (May : ℕ → Type 0) (id : ℕ) (s t : SourceState) → Ends id s t → SourceMoves May s t
moves_ends May id s t h = moves_none May s t h.holds h.asked (ended_live id s.live t.live h.live) h.faults h.turns h.can_fail

pub moves_asks : (May : ℕ → Type 0) (o : Option (List ℕ)) (id : ℕ) (s t : SourceState) → May id → Asks o id s t → SourceMoves May s t
moves_asks May (Some places) id s t m h = subst (SourceMoves May s) (sym h) (moves_self May s)
moves_asks May None id s t m h = record {
  holds = h.holds;
  ids = id ∷ [];
  asked = h.asked;
  may = λ k n. go k (eqb id k) refl n;
  live = λ k on. begun k (nat_eq k id) refl (sym (ap (λ (f : ℕ → Bool). f k) h.live) ∙ on);
  faults = h.faults;
  turns = h.turns;
  can_fail = h.can_fail;
}
  where
    begun : (k : ℕ) (b : Bool) → nat_eq k id ≡ b → cond (nat_eq k id) true (s.live k) ≡ true → (s.live k ≡ true) ⊎ (is_among (id ∷ []) k ≡ true)
    begun k true e on = let same : id ≡ k = grind (arith, nat_tests) in inr (let m : eqb id k ≡ true = grind (arith, nat_tests) in rw m refl)
    begun k false e on = inl (rw e at on)

    go : (k : ℕ) (b : Bool) → eqb id k ≡ b → is_among (id ∷ []) k ≡ true → May k
    go k true e n = let same : id ≡ k = grind (arith, nat_tests) in subst May same m
    go k false e n = let bad : false ≡ true = rw e at n in absurd cc

in_added : (place p : ℕ) (o : Option (List ℕ)) → is_in (Some (added place o)) p ≡ (is_in o p || eqb place p)
in_added place p None = go (eqb place p)
  where
    go : (b : Bool) → (b || false) ≡ b
    go true = refl
    go false = refl
in_added place p (Some places) = among_snoc places place p

-- who waits once a place waits for one id more
pub waits_added : (id place : ℕ) (d e : Waiters) → Moves id (Some (added place (waiters_at d id))) d e → (q p : ℕ) → waits e q p ≡ (waits d q p || (eqb id q && eqb place p))
waits_added id place d e m q p = ap (λ o. is_in o p) (moved id (Some (added place (waiters_at d id))) d e m q) ∙ go (eqb q id) refl
  where
    or_false : (a : Bool) → a ≡ (a || false)
    or_false true = refl
    or_false false = refl

    go : (b : Bool) → eqb q id ≡ b → is_in (cond b (Some (added place (waiters_at d id))) (waiters_at d q)) p ≡ (is_in (waiters_at d q) p || (eqb id q && eqb place p))
    go true k =
        let same : q ≡ id = grind (arith, nat_tests) in
        let on : eqb id q ≡ true = grind (arith, nat_tests) in
        in_added place p (waiters_at d id) ∙ ap (λ i. is_in (waiters_at d i) p || eqb place p) (sym same) ∙ ap (λ b. is_in (waiters_at d q) p || (b && eqb place p)) (sym on)
    go false k =
        let off : eqb id q ≡ false = grind (arith, nat_tests) in
        or_false (is_in (waiters_at d q) p) ∙ ap (λ b. is_in (waiters_at d q) p || (b && eqb place p)) (sym off)

pub among_one : (ids : List ℕ) (id : ℕ) → is_among ids id ≡ true → (q : ℕ) → is_among (id ∷ []) q ≡ true → is_among ids q ≡ true
among_one ids id h q m = go (eqb id q) refl
  where
    go : (b : Bool) → eqb id q ≡ b → is_among ids q ≡ true
    go true e = let same : q ≡ id = grind (arith, nat_tests) in ap (is_among ids) same ∙ h
    go false e = let bad : false ≡ true = rw e at m in absurd cc

pub among_at : (ids : List ℕ) (i d : ℕ) → i < length ids → is_among ids (get_or ids i d) ≡ true
among_at [] i d lt = absurd (omega arith)
among_at (x ∷ ids) zero d lt = let on : eqb x x ≡ true = grind (arith, nat_tests) in rw on refl
among_at (x ∷ ids) (suc i) d lt = or_true (eqb x (get_or ids i d)) (is_among ids (get_or ids i d)) (among_at ids i d (omega arith))
  where
    or_true : (a b : Bool) → b ≡ true → (a || b) ≡ true
    or_true true b e = refl
    or_true false b e = e
