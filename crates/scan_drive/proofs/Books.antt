-- Books of files: sums over them, and what one file's step does to them.
use Rattle.std.proofs.Common.{◌≡◌, ℕ, zero, suc, ◌+◌, ◌≤◌, List, [], ◌∷◌, ◌++◌, length, drop, Bool, true, false, ◌||◌, cond, eqb, refl, sym, ap, ◌∙◌, subst, arith, append_assoc, append-nil, inl, inr}
use Rattle.std.specs.Prelude.{◌⊎◌, Some, IfSome}
use Rattle.std.proofs.Math.Seq.{drop-append_seam}
use Rattle.std.proofs.lemmas.Bool.Decides.{nat_tests}
use Rattle.scan_values.specs.Selections.{is_among}
use Rattle.scan_segments.specs.Source.{SourceState, TellsBytes}
use Rattle.scan_segments.specs.declared.segment.SegmentKey.{SegmentKey}
use Rattle.scan_drive.specs.Ledger.{Book, new_ids, total, Each, IsAt, moved, IsKept, IsLive, Lacks, IsAlone, IsFedIn}
use Rattle.scan_drive.specs.Traffic.{asked_since}
use Rattle.scan_drive.proofs.Desking.{among_snoc}

-- ---- what a step does to a source
-- nothing is asked, and no request begins
pub record Rests (s t : SourceState) : Type 0 where
  pub holds : t.holds ≡ s.holds
  pub asked : t.asked ≡ s.asked
  pub live : (id : ℕ) → t.live id ≡ true → s.live id ≡ true

-- nothing is asked, and no request begins or ends
pub record Stands (s t : SourceState) : Type 0 where
  pub holds : t.holds ≡ s.holds
  pub asked : t.asked ≡ s.asked
  pub live : (id : ℕ) → t.live id ≡ s.live id

-- an id is asked for that was not live
pub record IsAsked (id : ℕ) (s t : SourceState) : Type 0 where
  pub holds : t.holds ≡ s.holds
  pub asked : t.asked ≡ s.asked ++ id ∷ []
  pub dead : s.live id ≡ false
  pub live : (q : ℕ) → t.live q ≡ cond (eqb q id) true (s.live q)

-- the request of an id ends
pub record IsEnded (id : ℕ) (s t : SourceState) : Type 0 where
  pub holds : t.holds ≡ s.holds
  pub asked : t.asked ≡ s.asked
  pub was : s.live id ≡ true
  pub live : (q : ℕ) → t.live q ≡ cond (eqb q id) false (s.live q)

pub rests_stands : (s t : SourceState) → Stands s t → Rests s t
rests_stands s t h = record { holds = h.holds; asked = h.asked; live = λ id l. sym (h.live id) ∙ l }

pub rests_ended : (id : ℕ) (s t : SourceState) → IsEnded id s t → Rests s t
rests_ended id s t h = record { holds = h.holds; asked = h.asked; live = λ q l. go q (eqb q id) (sym (h.live q) ∙ l) }
  where
    go : (q : ℕ) (b : Bool) → cond b false (s.live q) ≡ true → s.live q ≡ true
    go q true e = absurd cc
    go q false e = e

-- ---- a book, and the same with its source now
pub kept_ids : (b : Book) (h : IsKept b) → new_ids b ≡ h.ids
kept_ids b h = ap (drop (length b.first.asked)) h.asked ∙ drop-append_seam b.first.asked h.ids

module _ (b : Book) (s t : SourceState) (h : IsKept b) (is : b.now ≡ s) where
  pub more_ids : (more : List ℕ) → t.asked ≡ s.asked ++ more → asked_since b.first t ≡ new_ids b ++ more
  more_ids more e = ap (drop (length b.first.asked)) whole ∙ drop-append_seam b.first.asked (h.ids ++ more) ∙ ap (λ xs. xs ++ more) (sym (kept_ids b h))
    where
      whole : t.asked ≡ b.first.asked ++ (h.ids ++ more)
      whole = e ∙ ap (λ (z : SourceState). z.asked ++ more) (sym is) ∙ ap (λ xs. xs ++ more) h.asked ∙ append_assoc b.first.asked h.ids more

  pub same_ids : t.asked ≡ s.asked → asked_since b.first t ≡ new_ids b
  same_ids e = more_ids [] (e ∙ sym (append-nil s.asked)) ∙ append-nil (new_ids b)

  pub live_among : (id : ℕ) → s.live id ≡ true → is_among (new_ids b) id ≡ true
  live_among id l = ap (λ xs. is_among xs id) (kept_ids b h) ∙ h.live id (ap (λ (z : SourceState). z.live id) is ∙ l)

  pub kept_rests : Rests s t → IsKept (record b { now = t })
  kept_rests r = record {
    holds = r.holds ∙ ap (λ (z : SourceState). z.holds) (sym is) ∙ h.holds;
    ids = h.ids;
    asked = r.asked ∙ ap (λ (z : SourceState). z.asked) (sym is) ∙ h.asked;
    live = λ id l. h.live id (ap (λ (z : SourceState). z.live id) is ∙ r.live id l);
  }

  pub kept_asked : (id : ℕ) → IsAsked id s t → IsKept (record b { now = t })
  kept_asked id r = record {
    holds = r.holds ∙ ap (λ (z : SourceState). z.holds) (sym is) ∙ h.holds;
    ids = h.ids ++ id ∷ [];
    asked = r.asked ∙ ap (λ (z : SourceState). z.asked ++ id ∷ []) (sym is) ∙ ap (λ xs. xs ++ id ∷ []) h.asked ∙ append_assoc b.first.asked h.ids (id ∷ []);
    live = λ q l. among_snoc h.ids id q ∙ go q (eqb q id) refl (sym (r.live q) ∙ l);
  }
    where
      or_true : (a : Bool) → (a || true) ≡ true
      or_true true = refl
      or_true false = refl

      go : (q : ℕ) (c : Bool) → eqb q id ≡ c → cond (eqb q id) true (s.live q) ≡ true → (is_among h.ids q || eqb id q) ≡ true
      go q true e l = let on : eqb id q ≡ true = grind (arith, nat_tests) in ap (λ a. is_among h.ids q || a) on ∙ or_true (is_among h.ids q)
      go q false e l = let was : s.live q ≡ true = rw e at l in ap (λ a. a || eqb id q) (h.live q (ap (λ (z : SourceState). z.live q) is ∙ was))

-- ---- sums
pub total_is : (f g : Book → ℕ) (bs : List Book) → ((b : Book) → f b ≡ g b) → total f bs ≡ total g bs
total_is f g [] h = refl
total_is f g (b ∷ bs) h = let e = h b in let ih = total_is f g bs h in omega arith

module _ (P : Book → Type 0) (name : List ℕ) (s t : SourceState) where
  pub total_up : (f : Book → ℕ) (n k : ℕ) (bs : List Book) → ((b : Book) → P b → b.name ≡ name → b.now ≡ s → f (record b { now = t }) ≡ f b + n) → IsAt k name s bs → Each P bs → total f (moved k t bs) ≡ total f bs + n
  total_up f n k [] h at each = absurd at
  total_up f n zero (b ∷ bs) h at each = let e = h b each.0 at.0 at.1 in omega arith
  total_up f n (suc k) (b ∷ bs) h at each = let ih = total_up f n k bs h at each.1 in omega arith

  pub total_down : (f : Book → ℕ) (n k : ℕ) (bs : List Book) → ((b : Book) → P b → b.name ≡ name → b.now ≡ s → f b ≡ n + f (record b { now = t })) → IsAt k name s bs → Each P bs → total f bs ≡ n + total f (moved k t bs)
  total_down f n k [] h at each = absurd at
  total_down f n zero (b ∷ bs) h at each = let e = h b each.0 at.0 at.1 in omega arith
  total_down f n (suc k) (b ∷ bs) h at each = let ih = total_down f n k bs h at each.1 in omega arith

  pub total_less : (f : Book → ℕ) (k : ℕ) (bs : List Book) → ((b : Book) → P b → b.name ≡ name → b.now ≡ s → f (record b { now = t }) ≤ f b) → IsAt k name s bs → Each P bs → total f (moved k t bs) ≤ total f bs
  total_less f k [] h at each = absurd at
  total_less f zero (b ∷ bs) h at each = let e = h b each.0 at.0 at.1 in omega arith
  total_less f (suc k) (b ∷ bs) h at each = let ih = total_less f k bs h at each.1 in omega arith

  pub each_moved : (k : ℕ) (bs : List Book) → ((b : Book) → P b → b.name ≡ name → b.now ≡ s → P (record b { now = t })) → IsAt k name s bs → Each P bs → Each P (moved k t bs)
  each_moved k [] h at each = absurd at
  each_moved zero (b ∷ bs) h at each = (h b each.0 at.0 at.1, each.1)
  each_moved (suc k) (b ∷ bs) h at each = (each.0, each_moved k bs h at each.1)

-- ---- the book at a place
pub at_moved : (k : ℕ) (name : List ℕ) (s t : SourceState) (bs : List Book) → IsAt k name s bs → IsAt k name t (moved k t bs)
at_moved k name s t [] at = absurd at
at_moved zero name s t (b ∷ bs) at = (at.0, refl)
at_moved (suc k) name s t (b ∷ bs) at = at_moved k name s t bs at

pub moved_moved : (k : ℕ) (t u : SourceState) (bs : List Book) → moved k u (moved k t bs) ≡ moved k u bs
moved_moved k t u [] = refl
moved_moved zero t u (b ∷ bs) = refl
moved_moved (suc k) t u (b ∷ bs) = ap (λ cs. b ∷ cs) (moved_moved k t u bs)

pub moved_same : (k : ℕ) (name : List ℕ) (s : SourceState) (bs : List Book) → IsAt k name s bs → moved k s bs ≡ bs
moved_same k name s [] at = absurd at
moved_same zero name s (b ∷ bs) at = λ i. record { name = b.name; first = b.first; now = sym at.1 i } ∷ bs
moved_same (suc k) name s (b ∷ bs) at = ap (λ cs. b ∷ cs) (moved_same k name s bs at)

-- ---- names
lacks_moved : (n : List ℕ) (k : ℕ) (t : SourceState) (bs : List Book) → Lacks n (moved k t bs) → Lacks n bs
lacks_moved n k t [] h = h
lacks_moved n zero t (b ∷ bs) h = h
lacks_moved n (suc k) t (b ∷ bs) h = (h.0, lacks_moved n k t bs h.1)

pub alone_moved : (n : List ℕ) (k : ℕ) (t : SourceState) (bs : List Book) → IsAlone n (moved k t bs) → IsAlone n bs
alone_moved n k t [] h = h
alone_moved n zero t (b ∷ bs) h = h
alone_moved n (suc k) t (b ∷ bs) (inl h) = inl (h.0, lacks_moved n k t bs h.1)
alone_moved n (suc k) t (b ∷ bs) (inr h) = inr (h.0, alone_moved n k t bs h.1)

lacks_at : (n : List ℕ) (k : ℕ) (s : SourceState) (bs : List Book) → Lacks n bs → IsAt k n s bs → ⊥
lacks_at n k s [] h at = at
lacks_at n zero s (b ∷ bs) h at = h.0 at.0
lacks_at n (suc k) s (b ∷ bs) h at = lacks_at n k s bs h.1 at

-- ---- what is live
lacks_live : (key : SegmentKey) (bs : List Book) → Lacks key.source_id bs → IsLive key bs → ⊥
lacks_live key [] h l = l
lacks_live key (b ∷ bs) h (inl l) = h.0 l.0
lacks_live key (b ∷ bs) h (inr l) = lacks_live key bs h.1 l

pub live_rests : (key : SegmentKey) (k : ℕ) (name : List ℕ) (s t : SourceState) (bs : List Book) → ((id : ℕ) → t.live id ≡ true → s.live id ≡ true) → IsAt k name s bs → IsLive key (moved k t bs) → IsLive key bs
live_rests key k name s t [] h at l = l
live_rests key zero name s t (b ∷ bs) h at (inl l) = inl (l.0, ap (λ (z : SourceState). z.live key.segment) at.1 ∙ h key.segment l.1)
live_rests key zero name s t (b ∷ bs) h at (inr l) = inr l
live_rests key (suc k) name s t (b ∷ bs) h at (inl l) = inl l
live_rests key (suc k) name s t (b ∷ bs) h at (inr l) = inr (live_rests key k name s t bs h at l)

-- it was live before, or it is what was asked for
pub live_asked : (key : SegmentKey) (k : ℕ) (name : List ℕ) (id : ℕ) (s t : SourceState) (bs : List Book) → ((q : ℕ) → t.live q ≡ cond (eqb q id) true (s.live q)) → IsAt k name s bs → IsLive key (moved k t bs) → IsLive key bs ⊎ ((key.source_id ≡ name) × (key.segment ≡ id))
live_asked key k name id s t [] h at l = absurd l
live_asked key zero name id s t (b ∷ bs) h at (inl l) = go (eqb key.segment id) refl (sym (h key.segment) ∙ l.1)
  where
    go : (c : Bool) → eqb key.segment id ≡ c → cond (eqb key.segment id) true (s.live key.segment) ≡ true → IsLive key (b ∷ bs) ⊎ ((key.source_id ≡ name) × (key.segment ≡ id))
    go true e was = let same : key.segment ≡ id = grind (arith, nat_tests) in inr (sym l.0 ∙ at.0, same)
    go false e was = let on : s.live key.segment ≡ true = rw e at was in inl (inl (l.0, ap (λ (z : SourceState). z.live key.segment) at.1 ∙ on))
live_asked key zero name id s t (b ∷ bs) h at (inr l) = inl (inr l)
live_asked key (suc k) name id s t (b ∷ bs) h at (inl l) = inl (inl l)
live_asked key (suc k) name id s t (b ∷ bs) h at (inr l) = elim (live_asked key k name id s t bs h at l) [ inl m ↦ inl (inr m) | inr m ↦ inr m ]

-- a key of a name that one book alone has is no longer live once its request has ended
pub live_ended : (key : SegmentKey) (k : ℕ) (s t : SourceState) (bs : List Book) → t.live key.segment ≡ false → IsAlone key.source_id bs → IsAt k key.source_id s bs → IsLive key (moved k t bs) → ⊥
live_ended key k s t [] off alone at l = at
live_ended key zero s t (b ∷ bs) off alone at (inl l) = let bad = sym off ∙ l.1 in absurd cc
live_ended key zero s t (b ∷ bs) off (inl alone) at (inr l) = lacks_live key bs alone.1 l
live_ended key zero s t (b ∷ bs) off (inr alone) at (inr l) = alone.0 at.0
live_ended key (suc k) s t (b ∷ bs) off (inl alone) at l = lacks_at key.source_id k s bs alone.1 at
live_ended key (suc k) s t (b ∷ bs) off (inr alone) at (inl l) = alone.0 l.0
live_ended key (suc k) s t (b ∷ bs) off (inr alone) at (inr l) = live_ended key k s t bs off alone.1 at l

pub live_at : (key : SegmentKey) (k : ℕ) (s : SourceState) (bs : List Book) → s.live key.segment ≡ true → IsAt k key.source_id s bs → IsLive key bs
live_at key k s [] on at = at
live_at key zero s (b ∷ bs) on at = inl (at.0, ap (λ (z : SourceState). z.live key.segment) at.1 ∙ on)
live_at key (suc k) s (b ∷ bs) on at = inr (live_at key k s bs on at)

-- ---- what the sources gave
among_more : (xs ys : List ℕ) (id : ℕ) → is_among xs id ≡ true → is_among (xs ++ ys) id ≡ true
among_more [] ys id h = absurd cc
among_more (x ∷ xs) ys id h = go (eqb x id) h (among_more xs ys id) where
  go : (b : Bool) → (b || is_among xs id) ≡ true → (is_among xs id ≡ true → is_among (xs ++ ys) id ≡ true) → (b || is_among (xs ++ ys) id) ≡ true
  go true h ih = refl
  go false h ih = ih h

pub fed_moved : (key : SegmentKey) (bytes : List ℕ) (k : ℕ) (name : List ℕ) (s t : SourceState) (more : List ℕ) (bs : List Book) → t.asked ≡ s.asked ++ more → IsAt k name s bs → Each IsKept bs → IsFedIn bs key bytes → IsFedIn (moved k t bs) key bytes
fed_moved key bytes k name s t more [] e at each f = f
fed_moved key bytes zero name s t more (b ∷ bs) e at each (inl f) = inl (f.0, ap (λ xs. is_among xs key.segment) (more_ids b s t each.0 at.1 more e) ∙ among_more (new_ids b) more key.segment f.1, f.2)
fed_moved key bytes zero name s t more (b ∷ bs) e at each (inr f) = inr f
fed_moved key bytes (suc k) name s t more (b ∷ bs) e at each (inl f) = inl f
fed_moved key bytes (suc k) name s t more (b ∷ bs) e at each (inr f) = inr (fed_moved key bytes k name s t more bs e at each.1 f)

pub fed_at : (key : SegmentKey) (bytes : List ℕ) (k : ℕ) (s : SourceState) (bs : List Book) → s.live key.segment ≡ true → TellsBytes s key.segment bytes → IsAt k key.source_id s bs → Each IsKept bs → IsFedIn bs key bytes
fed_at key bytes k s [] on told at each = at
fed_at key bytes zero s (b ∷ bs) on told at each =
    inl (at.0, live_among b s s each.0 at.1 key.segment on, subst (λ o. IfSome o (λ store. store key.segment ≡ Some bytes)) (ap (λ (z : SourceState). z.holds) (sym at.1) ∙ each.0.holds) told)
fed_at key bytes (suc k) s (b ∷ bs) on told at each = inr (fed_at key bytes k s bs on told at each.1)
