-- A place that waits for several ids, which the source is asked for.
use Rattle.std.proofs.Common.{◌≡◌, ℕ, suc, zero, get_or, ◌<◌, ◌≤◌, List, [], ◌∷◌, ◌++◌, length, Bool, true, false, not, ◌||◌, ◌&&◌, cond, eqb, nat_eq, Option, Some, None, inl, inr, refl, sym, ap, ◌∙◌, subst, arith, append_assoc, append-nil}
use Rattle.std.proofs.lemmas.Bool.Decides.{nat_tests}
use Rattle.scan_values.specs.Selections.{is_among}
use Rattle.std.specs.Prelude.{◌⊎◌}
use Rattle.scan_segments.specs.Source.{SourceState, Ends}
use Rattle.scan_splits.specs.Wanted.{no_repeats}
use Rattle.scan_streams.specs.Sources.{SourceMoves, WasAsked}
use Rattle.scan_streams.specs.Desks.{Waiters, waiters_at, waits, is_in, added, is_awaited, AllAwaited, Moves, Asks}
use Rattle.scan_streams.proofs.Desking.{moved, among_snoc}

pub moves_none : (May : ℕ → Type 0) (s t : SourceState) → t.holds ≡ s.holds → t.asked ≡ s.asked → s.faults ≤ t.faults → t.turns ≤ s.turns → t.can_fail ≡ s.can_fail → ((id : ℕ) → t.live id ≡ true → s.live id ≡ true) → SourceMoves May s t
moves_none May s t h a f u c l = record { holds = h; ids = []; asked = a ∙ sym (append-nil s.asked); may = λ id n. absurd cc; live = λ id n. inl (l id n); faults = f; turns = u; can_fail = c }

pub moves_self : (May : ℕ → Type 0) (s : SourceState) → SourceMoves May s s
moves_self May s = moves_none May s s refl refl (omega arith) (omega arith) refl (λ id n. n)

among_both : (xs ys : List ℕ) (id : ℕ) → is_among (xs ++ ys) id ≡ (is_among xs id || is_among ys id)
among_both [] ys id = refl
among_both (x ∷ xs) ys id = ap (λ b. eqb x id || b) (among_both xs ys id) ∙ assoc (eqb x id) (is_among xs id) (is_among ys id)
  where
    assoc : (a b c : Bool) → (a || (b || c)) ≡ ((a || b) || c)
    assoc true b c = refl
    assoc false b c = refl

pub among_first : (xs ys : List ℕ) (id : ℕ) → is_among xs id ≡ true → is_among (xs ++ ys) id ≡ true
among_first xs ys id h = among_both xs ys id ∙ ap (λ b. b || is_among ys id) h

pub among_second : (xs ys : List ℕ) (id : ℕ) → is_among ys id ≡ true → is_among (xs ++ ys) id ≡ true
among_second xs ys id h = among_both xs ys id ∙ ap (λ b. is_among xs id || b) h ∙ go (is_among xs id)
  where
    go : (b : Bool) → (b || true) ≡ true
    go true = refl
    go false = refl

pub moves_then : (May : ℕ → Type 0) (r s t : SourceState) → SourceMoves May r s → SourceMoves May s t → SourceMoves May r t
moves_then May r s t p q = record {
  holds = q.holds ∙ p.holds;
  ids = p.ids ++ q.ids;
  asked = q.asked ∙ ap (λ xs. xs ++ q.ids) p.asked ∙ append_assoc r.asked p.ids q.ids;
  may = λ id n. go id (is_among p.ids id) refl (sym (among_both p.ids q.ids id) ∙ n);
  live = λ id n. before id (q.live id n);
  faults = let f = p.faults in let h = q.faults in omega arith;
  turns = let f = p.turns in let h = q.turns in omega arith;
  can_fail = q.can_fail ∙ p.can_fail;
}
  where
    go : (id : ℕ) (b : Bool) → is_among p.ids id ≡ b → (is_among p.ids id || is_among q.ids id) ≡ true → May id
    go id true e n = p.may id e
    go id false e n = q.may id (rw e at n)

    before : (id : ℕ) → (s.live id ≡ true) ⊎ (is_among q.ids id ≡ true) → (r.live id ≡ true) ⊎ (is_among (p.ids ++ q.ids) id ≡ true)
    before id (inl n) = first (p.live id n)
      where
        first : (r.live id ≡ true) ⊎ (is_among p.ids id ≡ true) → (r.live id ≡ true) ⊎ (is_among (p.ids ++ q.ids) id ≡ true)
        first (inl k) = inl k
        first (inr k) = inr (among_first p.ids q.ids id k)
    before id (inr n) = inr (among_second p.ids q.ids id n)

pub moves_weaker : (May Can : ℕ → Type 0) (s t : SourceState) → ((id : ℕ) → May id → Can id) → SourceMoves May s t → SourceMoves Can s t
moves_weaker May Can s t w p = record { holds = p.holds; ids = p.ids; asked = p.asked; may = λ id n. w id (p.may id n); live = p.live; faults = p.faults; turns = p.turns; can_fail = p.can_fail }

pub moves_end : (May : ℕ → Type 0) (id : ℕ) (s t : SourceState) → Ends id s t → SourceMoves May s t
moves_end May id s t h = moves_none May s t h.holds h.asked h.faults h.turns h.can_fail (λ k n. go (nat_eq k id) (s.live k) (ap (λ (f : ℕ → Bool). f k) (sym h.live) ∙ n))
  where
    go : (b c : Bool) → cond b false c ≡ true → c ≡ true
    go true c n = absurd cc
    go false c n = n

pub moves_asks : (May : ℕ → Type 0) (o : Option (List ℕ)) (id : ℕ) (s t : SourceState) → May id → Asks o id s t → SourceMoves May s t
moves_asks May (Some places) id s t m h = subst (SourceMoves May s) (sym h) (moves_self May s)
moves_asks May None id s t m h = record {
  holds = h.holds;
  ids = id ∷ [];
  asked = h.asked;
  may = λ k n. go k (eqb id k) refl n;
  live = λ k n. begun k (nat_eq k id) refl (ap (λ (f : ℕ → Bool). f k) (sym h.live) ∙ n);
  faults = h.faults;
  turns = h.turns;
  can_fail = h.can_fail;
}
  where
    go : (k : ℕ) (b : Bool) → eqb id k ≡ b → is_among (id ∷ []) k ≡ true → May k
    go k true e n = let same : id ≡ k = grind (arith, nat_tests) in subst May same m
    go k false e n = let bad : false ≡ true = rw e at n in absurd cc

    begun : (k : ℕ) (b : Bool) → nat_eq k id ≡ b → cond b true (s.live k) ≡ true → (s.live k ≡ true) ⊎ (is_among (id ∷ []) k ≡ true)
    begun k true e n = let on : eqb id k ≡ true = grind (arith, nat_tests) in inr (rw on refl)
    begun k false e n = inl n

pub was_later : (May : ℕ → Type 0) (id : ℕ) (s t u : SourceState) → SourceMoves May t u → WasAsked s t id → WasAsked s u id
was_later May id s t u m w = record { ids = w.ids ++ m.ids; asked = m.asked ∙ ap (λ xs. xs ++ m.ids) w.asked ∙ append_assoc s.asked w.ids m.ids; is = go w.is }
  where
    go : (s.live id ≡ true) ⊎ (is_among w.ids id ≡ true) → (s.live id ≡ true) ⊎ (is_among (w.ids ++ m.ids) id ≡ true)
    go (inl l) = inl l
    go (inr n) = inr (among_first w.ids m.ids id n)

pub was_before : (May : ℕ → Type 0) (id : ℕ) (s t u : SourceState) → SourceMoves May s t → WasAsked t u id → WasAsked s u id
was_before May id s t u m w = record { ids = m.ids ++ w.ids; asked = w.asked ∙ ap (λ xs. xs ++ w.ids) m.asked ∙ append_assoc s.asked m.ids w.ids; is = go w.is }
  where
    first : (s.live id ≡ true) ⊎ (is_among m.ids id ≡ true) → (s.live id ≡ true) ⊎ (is_among (m.ids ++ w.ids) id ≡ true)
    first (inl l) = inl l
    first (inr n) = inr (among_first m.ids w.ids id n)

    go : (t.live id ≡ true) ⊎ (is_among w.ids id ≡ true) → (s.live id ≡ true) ⊎ (is_among (m.ids ++ w.ids) id ≡ true)
    go (inl l) = first (m.live id l)
    go (inr n) = inr (among_second m.ids w.ids id n)

in_added : (place p : ℕ) (o : Option (List ℕ)) → is_in (Some (added place o)) p ≡ (is_in o p || eqb place p)
in_added place p None = go (eqb place p)
  where
    go : (b : Bool) → (b || false) ≡ b
    go true = refl
    go false = refl
in_added place p (Some places) = among_snoc places place p

-- who waits once a place waits for one id more
pub waits_added : (id place : ℕ) (d e : Waiters) → Moves id (Some (added place (waiters_at d id))) d e → (q p : ℕ) → waits e q p ≡ (waits d q p || (eqb id q && eqb place p))
waits_added id place d e m q p = ap (λ o. is_in o p) (moved id (Some (added place (waiters_at d id))) d e m q) ∙ go (eqb q id) refl
  where
    or_false : (a : Bool) → a ≡ (a || false)
    or_false true = refl
    or_false false = refl

    go : (b : Bool) → eqb q id ≡ b → is_in (cond b (Some (added place (waiters_at d id))) (waiters_at d q)) p ≡ (is_in (waiters_at d q) p || (eqb id q && eqb place p))
    go true k =
        let same : q ≡ id = grind (arith, nat_tests) in
        let on : eqb id q ≡ true = grind (arith, nat_tests) in
        in_added place p (waiters_at d id) ∙ ap (λ i. is_in (waiters_at d i) p || eqb place p) (sym same) ∙ ap (λ b. is_in (waiters_at d q) p || (b && eqb place p)) (sym on)
    go false k =
        let off : eqb id q ≡ false = grind (arith, nat_tests) in
        or_false (is_in (waiters_at d q) p) ∙ ap (λ b. is_in (waiters_at d q) p || (b && eqb place p)) (sym off)

added_awaited : (place : ℕ) (o : Option (List ℕ)) → is_awaited (Some (added place o)) ≡ true
added_awaited place None = refl
added_awaited place (Some []) = refl
added_awaited place (Some (p ∷ ps)) = refl

awaited_added : (id place : ℕ) (d e : Waiters) → Moves id (Some (added place (waiters_at d id))) d e → AllAwaited d → AllAwaited e
awaited_added id place d e m h q = ap is_awaited (moved id (Some (added place (waiters_at d id))) d e m q) ∙ go (eqb q id)
  where
    go : (b : Bool) → is_awaited (cond b (Some (added place (waiters_at d id))) (waiters_at d q)) ≡ true
    go true = added_awaited place (waiters_at d id)
    go false = h q

-- the rest of the ids is still to be asked for
pub record Asking (rest ids : List ℕ) (place : ℕ) (old now : Waiters) : Type 0 where
  pub asked : (id p : ℕ) → (waits now id p || (is_among rest id && eqb place p)) ≡ (waits old id p || (is_among ids id && eqb place p))
  pub new : (id : ℕ) → is_among rest id ≡ true → waits now id place ≡ false
  pub once : no_repeats rest ≡ true
  pub live : AllAwaited old → AllAwaited now

turn : (w a b e : Bool) → ((w || (a && e)) || (b && e)) ≡ (w || ((a || b) && e))
turn true a b e = refl
turn false true b true = refl
turn false true true false = refl
turn false true false false = refl
turn false false b e = refl

and_both : (a b : Bool) → (a && b) ≡ true → (a ≡ true) × (b ≡ true)
and_both true b h = (refl, h)
and_both false b h = absurd cc

not_true : (b : Bool) → not b ≡ true → b ≡ false
not_true true h = absurd cc
not_true false h = refl

pub asking_next : (id : ℕ) (rest ids : List ℕ) (place : ℕ) (old now next : Waiters) → Asking (id ∷ rest) ids place old now → Moves id (Some (added place (waiters_at now id))) now next → Asking rest ids place old next
asking_next id rest ids place old now next h m =
    let parts = and_both (not (is_among rest id)) (no_repeats rest) h.once in
    let off = not_true (is_among rest id) parts.0 in
    record {
      asked = λ q p. ap (λ b. b || (is_among rest q && eqb place p)) (waits_added id place now next m q p) ∙ turn (waits now q p) (eqb id q) (is_among rest q) (eqb place p) ∙ h.asked q p;
      new = λ q n. waits_added id place now next m q place ∙ apart q n off (eqb id q) refl;
      once = parts.1;
      live = λ w. awaited_added id place now next m (h.live w);
    }
  where
    or_right : (a b : Bool) → b ≡ true → (a || b) ≡ true
    or_right true b e = refl
    or_right false b e = e

    apart : (q : ℕ) → is_among rest q ≡ true → is_among rest id ≡ false → (b : Bool) → eqb id q ≡ b → (waits now q place || (eqb id q && eqb place place)) ≡ false
    apart q n off true e = let same : id ≡ q = grind (arith, nat_tests) in let bad = sym (ap (is_among rest) same ∙ n) ∙ off in absurd cc
    apart q n off false e = rw (e, h.new q (or_right (eqb id q) (is_among rest q) n)) refl

pub among_at : (ids : List ℕ) (i d : ℕ) → i < length ids → is_among ids (get_or ids i d) ≡ true
among_at [] i d lt = absurd (omega arith)
among_at (x ∷ ids) zero d lt = let on : eqb x x ≡ true = grind (arith, nat_tests) in rw on refl
among_at (x ∷ ids) (suc i) d lt = or_true (eqb x (get_or ids i d)) (is_among ids (get_or ids i d)) (among_at ids i d (omega arith))
  where
    or_true : (a b : Bool) → b ≡ true → (a || b) ≡ true
    or_true true b e = refl
    or_true false b e = e
