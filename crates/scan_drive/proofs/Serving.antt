-- What came to the splits of several files, while they were served.
use Rattle.std.proofs.Common.{◌≡◌, ◌≢◌, ℕ, ◌<◌, List, [], ◌∷◌, length, set, get_or, Option, Some, None, is_some, inl, inr, refl, sym, ap, ◌∙◌, subst, get_or-set_same}
use Rattle.std.specs.Prelude.{◌⊎◌, IsSome, IfSome}
use Rattle.std.proofs.lemmas.Bool.{cases_eq}
use Rattle.std.proofs.lemmas.List.{get_or_default}
use Rattle.scan_segments.specs.Cache.{Entries, Loses, Both}
use Rattle.scan_segments.specs.Source.{SourceState}
use Rattle.scan_segments.specs.declared.segment.SegmentKey.{SegmentKey}
use Rattle.scan_drive.specs.Asks.{WantsOne}
use Rattle.scan_drive.specs.Desks.{Waiters, waiters_at}
use Rattle.scan_drive.specs.Drives.{SourcesMove}
use Rattle.scan_drive.specs.Drivings.{IsKeptIn}
use Rattle.scan_drive.specs.Grounds.{WasOpen, FailedAt, SourceFollows, MayCome, MayFail, SlotsFollow}
use Rattle.scan_drive.specs.Links.{Among, OfFile}
use Rattle.scan_drive.specs.Lost.{Follows}
use Rattle.scan_drive.specs.Slots.{slot_at}
use Rattle.scan_drive.specs.Sources.{SourceMoves, NoId}
use Rattle.scan_drive.specs.Traffic.{key_of}
use Rattle.scan_drive.specs.Wants.{Cache, OnlyLoses, IsWanted}
use Rattle.scan_drive.specs.declared.cached.Wanted.{Wanted}
use Rattle.scan_drive.specs.declared.cached.Wanted.TheVariants as wanted
use Rattle.scan_drive.specs.declared.files.ScanFile.{ScanFile}
use Rattle.scan_drive.specs.declared.slot.Slot.{Slot}
use Rattle.scan_drive.proofs.Asking.{moves_self, moves_asks}
use Rattle.scan_drive.proofs.Caching.{both_trans, both_same}
use Rattle.scan_drive.proofs.Failing.{open_more, open_before, at_more, at_before}
use Rattle.scan_drive.proofs.Following.{follows_same, follows_weaker, follows_handed, each_self, each_weaker, each_then, each_set}
use Rattle.scan_drive.proofs.Handing.{among_head}
use Rattle.scan_drive.proofs.Rounding.{sources_self, sources_moved}

-- ---- entries that only went
pub loses_self : (c : Cache) → OnlyLoses c c
loses_self c = both_same Loses (λ m k b e. e) c.entries

pub loses_then : (c d e : Cache) → OnlyLoses c d → OnlyLoses d e → OnlyLoses c e
loses_then c d e p q = both_trans Loses Loses Loses (λ x y z f g k b h. f k b (g k b h)) c.entries d.entries e.entries p q

pub kept_less : (c d : Cache) (name : List ℕ) (id : ℕ) → OnlyLoses c d → IsKeptIn d name id → IsKeptIn c name id
kept_less c d name id l h = go c.entries d.entries l h
  where
    some : (m n : Entries SegmentKey) → Loses m n → (o : Option (List ℕ)) → n (key_of name id) ≡ o → IsSome o → IsSome (m (key_of name id))
    some m n k None e s = absurd cc
    some m n k (Some b) e s = ap is_some (k (key_of name id) b e)

    go : (o p : Option (Entries SegmentKey)) → Both o p Loses → IfSome p (λ m. IsSome (m (key_of name id))) → IfSome o (λ m. IsSome (m (key_of name id)))
    go None p b k = tt
    go (Some m) None b k = absurd b
    go (Some m) (Some n) b k = some m n b (n (key_of name id)) refl k

-- a want ends with a lookup
pub wanted_loses : (key : SegmentKey) (place : ℕ) (c d : Cache) (s t : SourceState) (old new : Waiters) (w : Wanted) → IsWanted key place c d s t old new w → OnlyLoses c d
wanted_loses key place c d s t old new (wanted.Hit bytes) h = h.got.0.entries
wanted_loses key place c d s t old new wanted.Shared h = h.0.looked.entries
wanted_loses key place c d s t old new wanted.Asked h = h.0.looked.entries

pub wanted_moves : (key : SegmentKey) (place : ℕ) (c d : Cache) (s t : SourceState) (old new : Waiters) (w : Wanted) → IsWanted key place c d s t old new w → SourceMoves (Among (key.segment ∷ [])) s t
wanted_moves key place c d s t old new (wanted.Hit bytes) h = subst (SourceMoves (Among (key.segment ∷ [])) s) (sym h.source) (moves_self (Among (key.segment ∷ [])) s)
wanted_moves key place c d s t old new wanted.Shared h = moves_asks (Among (key.segment ∷ [])) (waiters_at old key.segment) key.segment s t (among_head key.segment []) h.0.source
wanted_moves key place c d s t old new wanted.Asked h = moves_asks (Among (key.segment ∷ [])) (waiters_at old key.segment) key.segment s t (among_head key.segment []) h.0.source

module _ {W R : Type 0} where
  -- what a want of a split hands to it the cache kept
  pub wants_follow : (key : SegmentKey) (place : ℕ) (c : Cache) (old new : Slot W R) (d e : Waiters) → WantsOne key place c old new d e → Follows (IsKeptIn c key.source_id) NoId old new
  wants_follow key place c old new d e (inr w) = follows_same (IsKeptIn c key.source_id) NoId old new w.0
  wants_follow key place c old new d e (inl w) = subst (Follows (IsKeptIn c key.source_id) NoId old) (sym w.2) (follows_handed (IsKeptIn c key.source_id) NoId key.segment (Rattle.scan_splits.specs.declared.inbox.Arrival.TheVariants.Bytes w.0) old (kept c.entries w.1))
    where
      kept : (o : Option (Entries SegmentKey)) → IfSome o (λ m. m key ≡ Some w.0) → IfSome o (λ m. IsSome (m (key_of key.source_id key.segment)))
      kept None h = tt
      kept (Some m) h = ap is_some h

  -- one want after the other
  pub wants_then : (name : List ℕ) (key : SegmentKey) (place : ℕ) (c d : Cache) (old now new : Slot W R) (x y : Waiters) → key.source_id ≡ name → OnlyLoses c d → WantsOne key place d now new x y → Follows (IsKeptIn c name) NoId old now → Follows (IsKeptIn c name) NoId old new
  wants_then name key place c d old now new x y e l w f =
      Rattle.scan_drive.proofs.Following.follows_then (IsKeptIn c name) NoId old now new f
      (follows_weaker (IsKeptIn d key.source_id) NoId (IsKeptIn c name) NoId now new (λ id k. kept_less c d name id l (subst (λ n. IsKeptIn d n id) e k)) (λ id k. k) (wants_follow key place d now new x y w))

module _ {O S : Type 0} (source : S → SourceState) where
  -- what may have come once others were asked may have come
  come_more : (c : Cache) (May : ℕ → ℕ → Type 0) (a b e : List (ScanFile O S)) → SourcesMove source May b e → (k id : ℕ) → MayCome source c a b k id → MayCome source c a e k id
  come_more c May a b e m k id h f = go (h f)
    where
      go : WasOpen id (source (get_or a k f).source) (source (get_or b k f).source) ⊎ IsKeptIn c (get_or a k f).source_id id → WasOpen id (source (get_or a k f).source) (source (get_or e k f).source) ⊎ IsKeptIn c (get_or a k f).source_id id
      go (inl w) = inl (open_more (May k) id (source (get_or a k f).source) (source (get_or b k f).source) (source (get_or e k f).source) (m.moves k f) w)
      go (inr w) = inr w

  fail_more : (May : ℕ → ℕ → Type 0) (a b e : List (ScanFile O S)) → SourcesMove source May b e → (k id : ℕ) → MayFail source a b k id → MayFail source a e k id
  fail_more May a b e m k id h f = at_more (May k) id (source (get_or a k f).source) (source (get_or b k f).source) (source (get_or e k f).source) (m.moves k f) (h f)

  come_before : (c d : Cache) (May Can : ℕ → ℕ → Type 0) (a b e : List (ScanFile O S)) → OnlyLoses c d → SourcesMove source May a b → SourcesMove source Can b e → (k id : ℕ) → MayCome source d b e k id → MayCome source c a e k id
  come_before c d May Can a b e l m n k id h f = go (h f)
    where
      go : WasOpen id (source (get_or b k f).source) (source (get_or e k f).source) ⊎ IsKeptIn d (get_or b k f).source_id id → WasOpen id (source (get_or a k f).source) (source (get_or e k f).source) ⊎ IsKeptIn c (get_or a k f).source_id id
      go (inl w) = inl (open_before (May k) (Can k) id (source (get_or a k f).source) (source (get_or b k f).source) (source (get_or e k f).source) (m.moves k f) (n.moves k f) w)
      go (inr w) = inr (kept_less c d (get_or a k f).source_id id l (subst (λ n. IsKeptIn d n id) (m.name k f) w))

  fail_before : (May Can : ℕ → ℕ → Type 0) (a b e : List (ScanFile O S)) → SourcesMove source May a b → SourcesMove source Can b e → (k id : ℕ) → MayFail source b e k id → MayFail source a e k id
  fail_before May Can a b e m n k id h f = at_before (May k) (Can k) id (source (get_or a k f).source) (source (get_or b k f).source) (source (get_or e k f).source) (m.moves k f) (n.moves k f) (h f)

  one_moves : (now : List (ScanFile O S)) (k : ℕ) (May : ℕ → ℕ → Type 0) (x y : ScanFile O S) → k < length now → x ≡ get_or now k x → y.opener ≡ x.opener → y.source_id ≡ x.source_id → SourceMoves (May k) (source x.source) (source y.source) → SourcesMove source May now (set now k y)
  one_moves now k May x y lt e o s m = sources_moved source May now now k x y (sources_self source May now) lt e o s m

module _ {O S W R : Type 0} (source : S → SourceState) where
  pub served_then : (c d : Cache) (May Can : ℕ → ℕ → Type 0) (a b e : List (ScanFile O S)) (x y z : List (Slot W R)) → OnlyLoses c d → SourcesMove source May a b → SourcesMove source Can b e → SlotsFollow source c a b x y → SlotsFollow source d b e y z → SlotsFollow source c a e x z
  served_then c d May Can a b e x y z l m n p q =
      each_then (MayCome source c a e) (MayFail source a e) x y z
      (each_weaker (MayCome source c a b) (MayFail source a b) (MayCome source c a e) (MayFail source a e) x y (come_more source c Can a b e n) (fail_more source Can a b e n) p)
      (each_weaker (MayCome source d b e) (MayFail source b e) (MayCome source c a e) (MayFail source a e) y z (come_before source c d May Can a b e l m n) (fail_before source May Can a b e m n) q)

  -- ---- one file
  -- its source was polled
  pub one_polled : (c : Cache) (now : List (ScanFile O S)) (k : ℕ) (x y : ScanFile O S) (old new : List (Slot W R)) → k < length now → x ≡ get_or now k x → OfFile k old new → SourceFollows (source x.source) (source y.source) old new → SlotsFollow source c now (set now k y) old new
  one_polled c now k x y old new lt e o h p = go (cases_eq (slot_at old p).file k)
    where
      at : (f : ScanFile O S) → x ≡ get_or now k f
      at f = e ∙ get_or_default now k x f lt

      came : (id : ℕ) → WasOpen id (source x.source) (source y.source) → MayCome source c now (set now k y) k id
      came id w f = inl (subst (λ (z : ScanFile O S). WasOpen id (source z.source) (source (get_or (set now k y) k f).source)) (at f) (subst (λ (z : ScanFile O S). WasOpen id (source x.source) (source z.source)) (sym (get_or-set_same now k y f lt)) w))

      failed : (id : ℕ) → FailedAt id (source x.source) (source y.source) → MayFail source now (set now k y) k id
      failed id w f = subst (λ (z : ScanFile O S). FailedAt id (source z.source) (source (get_or (set now k y) k f).source)) (at f) (subst (λ (z : ScanFile O S). FailedAt id (source x.source) (source z.source)) (sym (get_or-set_same now k y f lt)) w)

      go : ((slot_at old p).file ≡ k) ⊎ ((slot_at old p).file ≢ k) → Follows (MayCome source c now (set now k y) (slot_at old p).file) (MayFail source now (set now k y) (slot_at old p).file) (slot_at old p) (slot_at new p)
      go (inr other) = follows_same (MayCome source c now (set now k y) (slot_at old p).file) (MayFail source now (set now k y) (slot_at old p).file) (slot_at old p) (slot_at new p) (o.others p other)
      go (inl is) = follows_weaker (λ id. WasOpen id (source x.source) (source y.source)) (λ id. FailedAt id (source x.source) (source y.source)) (MayCome source c now (set now k y) (slot_at old p).file) (MayFail source now (set now k y) (slot_at old p).file) (slot_at old p) (slot_at new p)
          (λ id w. subst (λ j. MayCome source c now (set now k y) j id) (sym is) (came id w)) (λ id w. subst (λ j. MayFail source now (set now k y) j id) (sym is) (failed id w)) (h p)

  pub polled_next : (c d : Cache) (May : ℕ → ℕ → Type 0) (files now : List (ScanFile O S)) (k : ℕ) (x y : ScanFile O S) (old mid new : List (Slot W R)) → OnlyLoses c d
      → SourcesMove source May files now → k < length now → x ≡ get_or now k x → y.opener ≡ x.opener → y.source_id ≡ x.source_id → SourceMoves NoId (source x.source) (source y.source) →
      OfFile k mid new → SourceFollows (source x.source) (source y.source) mid new → SlotsFollow source c files now old mid → SlotsFollow source c files (set now k y) old new
  polled_next c d May files now k x y old mid new l m lt e o s moves of h p =
      served_then c d May (λ j. NoId) files now (set now k y) old mid new l m (one_moves source now k (λ j. NoId) x y lt e o s moves) p (one_polled d now k x y mid new lt e of h)

  -- what the split at a place wanted was looked up
  pub wanted_next : (c d : Cache) (May Can : ℕ → ℕ → Type 0) (files now : List (ScanFile O S)) (k place : ℕ) (x y : ScanFile O S) (old mid : List (Slot W R)) (t : Slot W R) → OnlyLoses c d
      → SourcesMove source May files now → k < length now → x ≡ get_or now k x → y.opener ≡ x.opener → y.source_id ≡ x.source_id → SourceMoves (Can k) (source x.source) (source y.source) →
      place < length mid → k ≡ (slot_at mid place).file → Follows (IsKeptIn d x.source_id) NoId (slot_at mid place) t → SlotsFollow source c files now old mid → SlotsFollow source c files (set now k y) old (set mid place t)
  wanted_next c d May Can files now k place x y old mid t l m lt e o s moves plt is h p =
      served_then c d May Can files now (set now k y) old mid (set mid place t) l m (one_moves source now k Can x y lt e o s moves) p
      (each_set (MayCome source d now (set now k y)) (MayFail source now (set now k y)) mid mid place t plt (each_self (MayCome source d now (set now k y)) (MayFail source now (set now k y)) mid)
      (follows_weaker (IsKeptIn d x.source_id) NoId (MayCome source d now (set now k y) (slot_at mid place).file) (MayFail source now (set now k y) (slot_at mid place).file) (slot_at mid place) t (λ id w. subst (λ j. MayCome source d now (set now k y) j id) is (came id w)) (λ id w. absurd w) h))
    where
      came : (id : ℕ) → IsKeptIn d x.source_id id → MayCome source d now (set now k y) k id
      came id w f = inr (subst (λ (z : ScanFile O S). IsKeptIn d z.source_id id) (e ∙ get_or_default now k x f lt) w)
