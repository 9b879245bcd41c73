-- A drive keeps what it is grounded in, step after step.
use Rattle.std.proofs.Common.{◌≡◌, ℕ, zero, suc, ◌<◌, List, [], ◌∷◌, length, get_or, true, Option, Some, None, is_some, inl, inr, refl, sym, ap, ◌∙◌, subst, arith}
use Rattle.std.specs.Prelude.{◌⊎◌, IsSome, IfSome}
use Rattle.std.proofs.lemmas.List.{get_or_default}
use Rattle.scan_values.specs.Selections.{is_among}
use Rattle.scan_segments.specs.Cache.{Entries, Both}
use Rattle.scan_segments.specs.Source.{SourceState}
use Rattle.scan_segments.specs.declared.segment.SegmentKey.{SegmentKey}
use Rattle.scan_drive.specs.Drives.{SourcesMove}
use Rattle.scan_drive.specs.Drivings.{IsKeptIn, IsAskedUnder, CameOf, WasAdmitted, HasSplits}
use Rattle.scan_drive.specs.Grounds.{WasOpen, MayCome, MayFail, At, Came, Failed, IsReason, IsSlotGrounded}
use Rattle.scan_drive.specs.Ledger.{Book, Each, IsKept, IsFedIn, Feeds, Ledger, books_of}
use Rattle.scan_drive.specs.Lost.{has_come, IsLost, Follows}
use Rattle.scan_drive.specs.Measures.{is_there}
use Rattle.scan_drive.specs.Moves.{EachMoves, IsNamed, tell}
use Rattle.scan_drive.specs.Openers.{OpenerState, Opens}
use Rattle.scan_drive.specs.Sources.{SourceMoves}
use Rattle.scan_drive.specs.Traffic.{key_of, WasAsked}
use Rattle.scan_drive.specs.Wants.{Cache}
use Rattle.scan_drive.specs.declared.files.ScanFile.{ScanFile}
use Rattle.scan_drive.specs.declared.phase.Tally.{Tally}
use Rattle.scan_drive.specs.declared.slot.Halt.{Halt}
use Rattle.scan_drive.specs.declared.slot.Halt.TheVariants as halt
use Rattle.scan_drive.specs.declared.slot.Slot.{Slot}
use Rattle.scan_drive.proofs.Admitting.{admitted_later}
use Rattle.scan_drive.proofs.Asking.{moves_self, moves_weaker}
use Rattle.scan_drive.proofs.Books.{kept_ids}
use Rattle.scan_drive.proofs.Failing.{asked_ids, asked_more, asked_before, failed_more, failed_before}

-- files after some calls, as far as sources and names go
pub record Moved {O S : Type 0} (source : S → SourceState) (first files : List (ScanFile O S)) : Type 0 where
  pub len : length files ≡ length first
  pub name : (k : ℕ) (f : ScanFile O S) → (get_or files k f).source_id ≡ (get_or first k f).source_id
  pub moves : (k : ℕ) (f : ScanFile O S) → SourceMoves (λ id. Unit {0}) (source (get_or first k f).source) (source (get_or files k f).source)

module _ {O S : Type 0} (source : S → SourceState) where
  pub moved_self : (files : List (ScanFile O S)) → Moved source files files
  moved_self files = record { len = refl; name = λ k f. refl; moves = λ k f. moves_self (λ id. Unit {0}) (source (get_or files k f).source) }

  pub moved_sources : (May : ℕ → ℕ → Type 0) (a b : List (ScanFile O S)) → SourcesMove source May a b → Moved source a b
  moved_sources May a b m = record { len = m.len; name = m.name; moves = λ k f. moves_weaker (May k) (λ id. Unit {0}) (source (get_or a k f).source) (source (get_or b k f).source) (λ id h. tt) (m.moves k f) }

  pub moved_each : {I : Type 0} (state : O → OpenerState I) (polls : O → O → Type 0) (P : Type 0) (a b : List (ScanFile O S)) → EachMoves state polls source P a b → Moved source a b
  moved_each state polls P a b m = record {
    len = m.len;
    name = λ k f. (m.at k f).name;
    moves = λ k f. moves_weaker (λ id. P → IsNamed (tell state source (get_or a k f)) id) (λ id. Unit {0}) (source (get_or a k f).source) (source (get_or b k f).source) (λ id h. tt) (m.at k f).source_moves;
  }

  -- ---- what the ledger says of each file
  book_at : (P : Book → Type 0) (first now : List (ScanFile O S)) (k : ℕ) (f : ScanFile O S) → length now ≡ length first → k < length first → Each P (books_of source first now)
      → P (record { name = (get_or now k f).source_id; first = source (get_or first k f).source; now = source (get_or now k f).source })
  book_at P [] now k f n lt h = absurd (omega arith)
  book_at P (x ∷ first) [] k f n lt h = absurd (omega arith)
  book_at P (x ∷ first) (y ∷ now) zero f n lt h = h.0
  book_at P (x ∷ first) (y ∷ now) (suc k) f n lt h = book_at P first now k f (omega (arith, n)) (omega (arith, lt)) h.1

  pub live_asked : (first files : List (ScanFile O S)) (c d : Cache) (k id : ℕ) (f : ScanFile O S) → length files ≡ length first → k < length first → Ledger (books_of source first files) c d
      → (source (get_or files k f).source).live id ≡ true → WasAsked id (source (get_or first k f).source) (source (get_or files k f).source)
  live_asked first files c d k id f n lt l on = let b = book_at IsKept first files k f n lt l.kept in asked_ids id (source (get_or first k f).source) (source (get_or files k f).source) b.ids b.asked (b.live id on)

  under : (name : List ℕ) (id : ℕ) (x y : ScanFile O S) (first now : List (ScanFile O S)) → IsAskedUnder source name id first now → IsAskedUnder source name id (x ∷ first) (y ∷ now)
  under name id x y first now h = record { place = suc h.place; there = (let t = h.there in omega (arith, t)); named = h.named; asked = h.asked }

  fed_asked : (first now : List (ScanFile O S)) (name : List ℕ) (id : ℕ) (bytes : List ℕ) → length now ≡ length first
      → ((k : ℕ) (f : ScanFile O S) → (get_or now k f).source_id ≡ (get_or first k f).source_id) → Each IsKept (books_of source first now) → IsFedIn (books_of source first now) (key_of name id) bytes
      → IsAskedUnder source name id first now
  fed_asked [] now name id bytes n s kept h = absurd h
  fed_asked (x ∷ first) [] name id bytes n s kept h = absurd h
  fed_asked (x ∷ first) (y ∷ now) name id bytes n s kept (inl h) = record {
    place = 0;
    there = omega arith;
    named = λ f. sym (s 0 f) ∙ h.0;
    asked = λ f. asked_ids id (source x.source) (source y.source) kept.0.ids kept.0.asked (sym (ap (λ (xs : List ℕ). is_among xs id) (kept_ids (record { name = y.source_id; first = source x.source; now = source y.source }) kept.0)) ∙ h.1);
  }
  fed_asked (x ∷ first) (y ∷ now) name id bytes n s kept (inr h) = under name id x y first now (fed_asked first now name id bytes (omega (arith, n)) (λ k f. s (suc k) f) kept.1 h)

  -- what the cache keeps now it kept at first, or a file of that name was asked for it
  pub kept_came : (first files : List (ScanFile O S)) (c d : Cache) (name : List ℕ) (id : ℕ) → Moved source first files → Ledger (books_of source first files) c d → IsKeptIn d name id → CameOf source c first files name id
  kept_came first files c d name id m l h = go c.entries d.entries l.entries h
    where
      some : (o p : Entries SegmentKey) → Feeds (books_of source first files) o p → (b : Option (List ℕ)) → p (key_of name id) ≡ b → IsSome b → IsAskedUnder source name id first files ⊎ IsSome (o (key_of name id))
      some o p f None e s = absurd cc
      some o p f (Some b) e s = by (f (key_of name id) b e)
        where
          by : (o (key_of name id) ≡ Some b) ⊎ IsFedIn (books_of source first files) (key_of name id) b → IsAskedUnder source name id first files ⊎ IsSome (o (key_of name id))
          by (inl was) = inr (ap is_some was)
          by (inr fed) = inl (fed_asked first files name id b m.len m.name l.kept fed)

      go : (o p : Option (Entries SegmentKey)) → Both o p (Feeds (books_of source first files)) → IfSome p (λ q. IsSome (q (key_of name id))) → IsAskedUnder source name id first files ⊎ IfSome o (λ q. IsSome (q (key_of name id)))
      go None p b k = inr tt
      go (Some o) None b k = absurd b
      go (Some o) (Some p) b k = some o p b (p (key_of name id)) refl k

  -- ---- what was asked stays asked
  pub came_more : (first a b : List (ScanFile O S)) (c : Cache) (name : List ℕ) (id : ℕ) → Moved source a b → CameOf source c first a name id → CameOf source c first b name id
  came_more first a b c name id m (inr k) = inr k
  came_more first a b c name id m (inl h) = inl (record {
    place = h.place;
    there = h.there;
    named = h.named;
    asked = λ f. asked_more (λ i. Unit {0}) id (source (get_or first h.place f).source) (source (get_or a h.place f).source) (source (get_or b h.place f).source) (m.moves h.place f) (h.asked f);
  })

  pub failed_on : (first a b : List (ScanFile O S)) (c : Cache) (k id : ℕ) → Moved source a b → Failed source first a c k id → Failed source first b c k id
  failed_on first a b c k id m h f =
      let x = source (get_or first k f).source in
      let y = source (get_or a k f).source in
      let z = source (get_or b k f).source in
      (failed_more (λ i. Unit {0}) x y z (m.moves k f) (h f).0, asked_more (λ i. Unit {0}) id x y z (m.moves k f) (h f).1)

  -- what may have come while they were served
  open_asked : (first a b : List (ScanFile O S)) (c d : Cache) (k id : ℕ) (f : ScanFile O S) → Moved source first a → k < length first → Moved source a b → Ledger (books_of source first a) c d
      → WasOpen id (source (get_or a k f).source) (source (get_or b k f).source) → WasAsked id (source (get_or first k f).source) (source (get_or b k f).source)
  open_asked first a b c d k id f p lt m l (inl on) = asked_more (λ i. Unit {0}) id (source (get_or first k f).source) (source (get_or a k f).source) (source (get_or b k f).source) (m.moves k f) (live_asked first a c d k id f p.len lt l on)
  open_asked first a b c d k id f p lt m l (inr w) = asked_before (λ i. Unit {0}) id (source (get_or first k f).source) (source (get_or a k f).source) (source (get_or b k f).source) (p.moves k f) w

  pub may_come : (first a b : List (ScanFile O S)) (c d : Cache) (k id : ℕ) → Moved source first a → k < length first → Moved source a b → Ledger (books_of source first a) c d → MayCome source d a b k id → Came source first b c k id
  may_come first a b c d k id p lt m l h f = go (h f)
    where
      go : WasOpen id (source (get_or a k f).source) (source (get_or b k f).source) ⊎ IsKeptIn d (get_or a k f).source_id id → CameOf source c first b (get_or first k f).source_id id
      go (inl w) = inl (record { place = k; there = lt; named = λ g. ap (λ (z : ScanFile O S). z.source_id) (get_or_default first k g f lt); asked = λ g. asked g })
        where
          blt : k < length b
          blt = let n = p.len in let q = m.len in omega (arith, lt, n, q)

          asked : (g : ScanFile O S) → WasAsked id (source (get_or first k g).source) (source (get_or b k g).source)
          asked g = subst (λ (z : ScanFile O S). WasAsked id (source (get_or first k g).source) (source z.source)) (get_or_default b k f g blt)
              (subst (λ (z : ScanFile O S). WasAsked id (source z.source) (source (get_or b k f).source)) (get_or_default first k f g lt) (open_asked first a b c d k id f p lt m l w))
      go (inr w) = came_more first a b c (get_or first k f).source_id id m (kept_came first a c d (get_or first k f).source_id id p l (subst (λ n. IsKeptIn d n id) (p.name k f) w))

  pub may_fail : (first a b : List (ScanFile O S)) (c d : Cache) (k id : ℕ) → Moved source first a → k < length first → Moved source a b → Ledger (books_of source first a) c d → MayFail source a b k id → Failed source first b c k id
  may_fail first a b c d k id p lt m l h f =
      (failed_before (λ i. Unit {0}) (source (get_or first k f).source) (source (get_or a k f).source) (source (get_or b k f).source) (p.moves k f) (h f).failed, open_asked first a b c d k id f p lt m l (h f).was)

module _ {O S W I : Type 0} (state : O → OpenerState I) (polls : O → O → Type 0) (admits : O → O → List W → Type 0) where
  -- files that were admitted still are
  pub admitted_on : (k : ℕ) (first a b : List (ScanFile O S)) → ((f : ScanFile O S) → Opens state polls (get_or a k f).opener (get_or b k f).opener) → At first a (WasAdmitted state polls admits) k → At first b (WasAdmitted state polls admits) k
  admitted_on k first a b o h f = let w = h f in (w.0, admitted_later state polls admits (get_or first k f).opener (get_or a k f).opener (get_or b k f).opener w.0 (o f) w.1)

  pub splits_on : (k : ℕ) (first a b : List (ScanFile O S)) → ((f : ScanFile O S) → Opens state polls (get_or a k f).opener (get_or b k f).opener) → At first a (HasSplits state polls admits) k → At first b (HasSplits state polls admits) k
  splits_on k first a b o h f = let w = h f in (w.0, admitted_later state polls admits (get_or first k f).opener (get_or a k f).opener (get_or b k f).opener w.0 (o f) w.1, w.2)

module _ {O S W R I : Type 0} (state : O → OpenerState I) (polls : O → O → Type 0) (admits : O → O → List W → Type 0) (source : S → SourceState) where
  -- a slot after some steps
  pub slot_follows : (first a b : List (ScanFile O S)) (c : Cache) (Comes Fails : ℕ → Type 0) (t : Tally) (s x : Slot W R) → Moved source a b → ((k : ℕ) (f : ScanFile O S) → Opens state polls (get_or a k f).opener (get_or b k f).opener) → Follows Comes Fails s x →
      ((id : ℕ) → Comes id → Came source first b c s.file id) → ((id : ℕ) → Fails id → Failed source first b c s.file id) → is_there x.stage ≡ true → (is_there s.stage ≡ true → IsSlotGrounded state polls admits source first a c t s) → IsSlotGrounded state polls admits source first b c t x
  slot_follows first a b c Comes Fails t s x m o h came failed there grounded =
      here (grounded (h.there there).0)
    where
      here : IsSlotGrounded state polls admits source first a c t s → IsSlotGrounded state polls admits source first b c t x
      here g = record {
        counted = subst (λ k. k < t.files) (sym (h.there there).1) g.counted;
        some = subst (λ k. At first b (HasSplits state polls admits) k) (sym (h.there there).1) (splits_on state polls admits s.file first a b (o s.file) g.some);
        came = λ id k. subst (λ n. Came source first b c n id) (sym (h.there there).1) (arrived id (h.came id k));
        lost = λ e k. subst (λ n. IsReason source first b c n e) (sym (h.there there).1) (reason e k);
      }
        where
          arrived : (id : ℕ) → (has_come s.stage id ≡ true) ⊎ Comes id → Came source first b c s.file id
          arrived id (inl k) = λ f. came_more source first a b c (get_or first s.file f).source_id id m (g.came id k f)
          arrived id (inr k) = came id k

          source_lost : (id : ℕ) → IsLost (halt.Source id) s.stage ⊎ Fails id → Failed source first b c s.file id
          source_lost id (inl k) = failed_on source first a b c s.file id m (g.lost (halt.Source id) k)
          source_lost id (inr k) = failed id k

          corrupt_lost : (id : ℕ) → IsLost (halt.Corrupt id) s.stage ⊎ ((has_come s.stage id ≡ true) ⊎ Comes id) → Came source first b c s.file id
          corrupt_lost id (inl k) = λ f. came_more source first a b c (get_or first s.file f).source_id id m (g.lost (halt.Corrupt id) k f)
          corrupt_lost id (inr k) = arrived id k

          reason : (e : Halt) → IsLost e x.stage → IsReason source first b c s.file e
          reason (halt.Source id) k = source_lost id (h.failed id k)
          reason (halt.Corrupt id) k = corrupt_lost id (h.spoilt id k)
          reason halt.Overflow k = tt
          reason halt.NoMemory k = tt
