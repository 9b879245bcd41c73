-- What calls of sources do to a cache that they share.
use Rattle.std.proofs.Common.{◌≡◌, ◌≢◌, ℕ, ◌<◌, List, length, set, get_or, Option, Some, None, IfSome, inl, inr, refl, sym, ap, ◌∙◌, subst, arith, length-set, get_or-set_same, get_or-set_other}
use Rattle.std.specs.Prelude.{◌⊎◌, IsSome}
use Rattle.std.proofs.lemmas.Bool.{cases_eq}
use Rattle.std.proofs.lemmas.List.{get_or_default}
use Rattle.scan_segments.specs.Cache.{Entries, Stores, Both}
use Rattle.scan_segments.specs.Cached.{Offers}
use Rattle.scan_segments.specs.Source.{SourceState, Store, TellsBytes}
use Rattle.scan_segments.specs.declared.segment.SegmentKey.{SegmentKey}
use Rattle.scan_splits.specs.declared.inbox.Arrival.TheVariants as arrival
use Rattle.scan_drive.specs.Desks.{Waiters, Replies}
use Rattle.scan_drive.specs.Ledger.{KeepsLedger}
use Rattle.scan_drive.specs.Traffic.{key_of}
use Rattle.scan_drive.specs.Trades.{Trusts, Trades, CacheAgrees, FilesTrade}
use Rattle.scan_drive.specs.Wants.{Cache, PutsWhatCame}
use Rattle.scan_drive.specs.declared.desk.Reply.{Reply}
use Rattle.scan_drive.specs.declared.desk.Reply.TheVariants as reply
use Rattle.scan_drive.specs.declared.files.ScanFile.{ScanFile}
use Rattle.scan_drive.proofs.Balancing.{ledger_self, ledger_then}
use Rattle.scan_drive.proofs.Filing.{files_ledger, files_ledger_self, files_ledger_then}

-- what a cache keeps under a name
abbrev pub Under : List ℕ → Store → Entries SegmentKey → Type 0
Under n store m = (id : ℕ) (b : List ℕ) → m (key_of n id) ≡ Some b → store id ≡ Some b

both_under : (n : List ℕ) (store : Store) (change : Entries SegmentKey → Entries SegmentKey → Type 0) → ((x y : Entries SegmentKey) → change x y → Under n store x → Under n store y)
    → (o p : Option (Entries SegmentKey)) → Both o p change → IsSome o → IfSome o (Under n store) → IsSome p × IfSome p (Under n store)
both_under n store change h None p b t u = absurd cc
both_under n store change h (Some x) None b t u = absurd b
both_under n store change h (Some x) (Some y) b t u = (refl, h x y b u)

trusts_by : (n : List ℕ) (store : Store) (change : Entries SegmentKey → Entries SegmentKey → Type 0) (c d : Cache) → ((x y : Entries SegmentKey) → change x y → Under n store x → Under n store y) → Both c.entries d.entries change → Trusts n store c → Trusts n store d
trusts_by n store change c d h b t = let r = both_under n store change h c.entries d.entries b t.tells t.agrees in record { tells = r.0; agrees = r.1 }

pub trades_self : (name : List ℕ) (s : SourceState) (c : Cache) → Trades name s s c c
trades_self name s c = record { trusts = λ n store h u. u; ledger = ledger_self name s c }

-- a cache that was not called
still_trusts : (name : List ℕ) (s t : SourceState) (c d : Cache) → d ≡ c → KeepsLedger name s t c d → Trades name s t c d
still_trusts name s t c d e l = record { trusts = λ n store h u. subst (Trusts n store) (sym e) u; ledger = l }

pub trades_then : (name : List ℕ) (r s t : SourceState) (c d e : Cache) → s.holds ≡ r.holds → Trades name r s c d → Trades name s t d e → Trades name r t c e
trades_then name r s t c d e same p q = record { trusts = λ n store h u. q.trusts n store (λ is. same ∙ h is) (p.trusts n store h u); ledger = ledger_then name r s t c d e p.ledger q.ledger }

told : (o : Option Store) (store : Store) (id : ℕ) (b : List ℕ) → o ≡ Some store → IfSome o (λ s. s id ≡ Some b) → store id ≡ Some b
told o store id b e t = subst (λ (q : Option Store). IfSome q (λ s. s id ≡ Some b)) e t

-- what the source told was put under its name
pub trades_put : (key : SegmentKey) (bytes : List ℕ) (s t : SourceState) (c d : Cache) → Offers key bytes c d → TellsBytes s key.segment bytes → KeepsLedger key.source_id s t c d → Trades key.source_id s t c d
trades_put key bytes s t c d o told_here ledger = record { ledger = ledger; trusts = λ n store h u. trusts_by n store (Stores key bytes) c d (λ x y l v id b e. go n store h id b (v id b) (l (key_of n id) b e)) o.entries u }
  where
    go : (n : List ℕ) (store : Store) → (n ≡ key.source_id → s.holds ≡ Some store) → (id : ℕ) (b : List ℕ) → {x : Type 0} → (x → store id ≡ Some b) → x ⊎ ((key_of n id ≡ key) × (b ≡ bytes)) → store id ≡ Some b
    go n store h id b v (inl old) = v old
    go n store h id b v (inr new) =
        let name : n ≡ key.source_id = ap (λ (k : SegmentKey). k.source_id) new.0 in
        let seg : id ≡ key.segment = ap (λ (k : SegmentKey). k.segment) new.0 in
        ap store seg ∙ told s.holds store key.segment bytes (h name) told_here ∙ ap Some (sym new.1)

-- an answer of a live request, of which what came was put
pub trades_came : (key : SegmentKey) (s t : SourceState) (old new : Waiters) (c d : Cache) (r : Reply) → Replies key.segment s t old new r → PutsWhatCame key c d r → KeepsLedger key.source_id s t c d → Trades key.source_id s t c d
trades_came key s t old new c d reply.Pending h p l = still_trusts key.source_id s t c d p l
trades_came key s t old new c d (reply.Came (arrival.Bytes bytes) places) h p l = trades_put key bytes s t c d p h.2 l
trades_came key s t old new c d (reply.Came arrival.Missing places) h p l = still_trusts key.source_id s t c d p l
trades_came key s t old new c d (reply.Failed places) h p l = still_trusts key.source_id s t c d p l
trades_came key s t old new c d reply.NoMemory h p l = still_trusts key.source_id s t c d p l

-- what the cache had under a name is what the store has
pub trusted : (n : List ℕ) (store : Store) (c : Cache) (id : ℕ) (b : List ℕ) → Trusts n store c → IfSome c.entries (λ m. m (key_of n id) ≡ Some b) → store id ≡ Some b
trusted n store c id b t h = go c.entries t.tells t.agrees h
  where
    go : (o : Option (Entries SegmentKey)) → IsSome o → IfSome o (Under n store) → IfSome o (λ m. m (key_of n id) ≡ Some b) → store id ≡ Some b
    go None s u k = absurd cc
    go (Some m) s u k = u id b k

module _ {O S : Type 0} (source : S → SourceState) where
  pub files_self : (files : List (ScanFile O S)) (c : Cache) → FilesTrade source files files c c
  files_self files c = record { len = refl; agrees = λ h. h; ledger = files_ledger_self source files c }

  pub files_then : (a b e : List (ScanFile O S)) (c d x : Cache) → FilesTrade source a b c d → FilesTrade source b e d x → FilesTrade source a e c x
  files_then a b e c d x p q = record { len = q.len ∙ p.len; agrees = λ h. q.agrees (p.agrees h); ledger = files_ledger_then source a b e c d x p.len p.ledger q.ledger }

  name_at : (files : List (ScanFile O S)) (k : ℕ) (x y : ScanFile O S) → k < length files → x ≡ get_or files k x → y.source_id ≡ x.source_id → (i : ℕ) (f : ScanFile O S) → (get_or (set files k y) i f).source_id ≡ (get_or files i f).source_id
  name_at files k x y lt e n i f = go (cases_eq i k)
    where
      go : (i ≡ k) ⊎ (i ≢ k) → (get_or (set files k y) i f).source_id ≡ (get_or files i f).source_id
      go (inl is) = ap (λ j. (get_or (set files k y) j f).source_id) is ∙ ap (λ (z : ScanFile O S). z.source_id) (get_or-set_same files k y f lt) ∙ n ∙ ap (λ (z : ScanFile O S). z.source_id) (e ∙ get_or_default files k x f lt) ∙ sym (ap (λ j. (get_or files j f).source_id) is)
      go (inr other) = ap (λ (z : ScanFile O S). z.source_id) (get_or-set_other files k i y f other)

  holds_at : (files : List (ScanFile O S)) (k : ℕ) (x y : ScanFile O S) → k < length files → x ≡ get_or files k x → (source y.source).holds ≡ (source x.source).holds → (i : ℕ) (f : ScanFile O S) → (source (get_or (set files k y) i f).source).holds ≡ (source (get_or files i f).source).holds
  holds_at files k x y lt e n i f = go (cases_eq i k)
    where
      go : (i ≡ k) ⊎ (i ≢ k) → (source (get_or (set files k y) i f).source).holds ≡ (source (get_or files i f).source).holds
      go (inl is) = ap (λ j. (source (get_or (set files k y) j f).source).holds) is ∙ ap (λ (z : ScanFile O S). (source z.source).holds) (get_or-set_same files k y f lt) ∙ n
          ∙ ap (λ (z : ScanFile O S). (source z.source).holds) (e ∙ get_or_default files k x f lt) ∙ sym (ap (λ j. (source (get_or files j f).source).holds) is)
      go (inr other) = ap (λ (z : ScanFile O S). (source z.source).holds) (get_or-set_other files k i y f other)

  -- files that hold the same under the same names
  pub agrees_same : (a b : List (ScanFile O S)) (c : Cache) → length b ≡ length a → ((i : ℕ) (f : ScanFile O S) → (get_or b i f).source_id ≡ (get_or a i f).source_id)
      → ((i : ℕ) (f : ScanFile O S) → (source (get_or b i f).source).holds ≡ (source (get_or a i f).source).holds) → CacheAgrees source a c → CacheAgrees source b c
  agrees_same a b c n name holds h = record {
    same = λ i j f il jl e. holds i f ∙ h.same i j f (omega arith) (omega arith) (sym (name i f) ∙ e ∙ name j f) ∙ sym (holds j f);
    trusts = λ k f store lt e. subst (λ m. Trusts m store c) (sym (name k f)) (h.trusts k f store (omega arith) (sym (holds k f) ∙ e));
  }

  -- calls of one file's source
  pub files_set : (files : List (ScanFile O S)) (k : ℕ) (x y : ScanFile O S) (c d : Cache) → k < length files → x ≡ get_or files k x → y.source_id ≡ x.source_id
      → (source y.source).holds ≡ (source x.source).holds → Trades x.source_id (source x.source) (source y.source) c d → FilesTrade source files (set files k y) c d
  files_set files k x y c d lt e n m t = record { len = length-set files k y; ledger = files_ledger source files k x y c d lt e n t.ledger; agrees = λ h. agrees_same files (set files k y) d (length-set files k y) (name_at files k x y lt e n) (holds_at files k x y lt e m) (moved h) }
    where
      moved : CacheAgrees source files c → CacheAgrees source files d
      moved h = record {
        same = h.same;
        trusts = λ i f store l is.
            let at : x ≡ get_or files k f = e ∙ get_or_default files k x f lt in
            t.trusts (get_or files i f).source_id store
            (λ same. ap (λ (z : ScanFile O S). (source z.source).holds) at ∙ sym (h.same i k f l lt (same ∙ ap (λ (z : ScanFile O S). z.source_id) at)) ∙ is)
            (h.trusts i f store l is);
      }
