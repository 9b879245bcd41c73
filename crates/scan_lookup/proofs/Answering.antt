-- A look-up of places, by its walk and by the rows that it reads.
use Rattle.std.proofs.Common.{◌≡◌, ◌<◌, ◌≤◌, ◌++◌, ◌||◌, ℕ, Bool, true, false, List, [], ◌∷◌, Option, Some, None, IfSome, get_or, length, inl, inr, refl, sym, ap, ◌∙◌, subst, arith, eqb}
use Rattle.std.specs.Prelude.{◌⊎◌, All, Contains, IsSome}
use Rattle.std.proofs.Math.Seq.{drop-length}
use Rattle.std.proofs.lemmas.Bool.{cases_lt}
use Rattle.std.proofs.lemmas.Bool.Decides.{nat_tests}
use Rattle.std.proofs.lemmas.List.{get_or_past}
use Rattle.std.proofs.lemmas.List.Elements.{All-nil, All-cons, All-weaker}
use Rattle.scan_values.specs.Selections.{is_among}
use Rattle.scan_expr.specs.Bound.{Bound}
use Rattle.scan_segments.specs.Cache.{Entries}
use Rattle.scan_segments.specs.Source.{SourceState, Store, none_live}
use Rattle.scan_segments.specs.declared.segment.SegmentKey.{SegmentKey}
use Rattle.scan_splits.specs.Wanted.{no_repeats}
use Rattle.scan_opener.specs.Opener.{OpenerState}
use Rattle.scan_drive.specs.Ledger.{Ledger, books_of}
use Rattle.scan_drive.specs.Trades.{CacheAgrees, FilesTrade, Trusts}
use Rattle.scan_drive.specs.Traffic.{key_of, IsFedBy, asked_since, CacheMoves}
use Rattle.scan_drive.specs.Wants.{Cache}
use Rattle.scan_drive.specs.declared.files.ScanFile.{ScanFile}
use Rattle.scan_drive.proofs.Failing.{among_contains}
use Rattle.scan_drive.proofs.Filing.{files_ledger_same, ledger_starts}
use Rattle.scan_drive.proofs.Reckoning.{ends_cache, ends_lookups}
use Rattle.scan_drive.proofs.Trading.{agrees_same, files_self, files_then}
use Rattle.scan_multi.specs.Lawful.{told_file, IsIdle, IsLawful, Tells}
use Rattle.scan_multi.specs.Moves.{EachMoves}
use Rattle.scan_multi.proofs.Moving.{asked-is}
use Rattle.scan_multi.proofs.Telling.{content, still-tells}
use Rattle.scan_seek.specs.KeptData.{KeptData, unopened, skipped, flawed, ready}
use Rattle.scan_seek.specs.Keeps.{is_open, HasRow, IsKept}
use Rattle.scan_seek.specs.Polls.{IsPolledThrough}
use Rattle.scan_places.specs.Walks.{kept_at, files_of, AreKept, HasPlaceRow, Walks}
use Rattle.scan_places.specs.declared.place.Place.{Place}
use Rattle.scan_places.proofs.Walking.{kept_after}
use Rattle.scan_lookup.specs.Asked.{MayBeAsked, EachAsksOnce, EachAsksTouched, OpensNamed, rows_at}
use Rattle.scan_lookup.specs.Lookups.{LookupMoves}
use Rattle.scan_lookup.specs.Reading.{ReadsPlaces}
use Rattle.scan_lookup.specs.Session.{is_open_in}
use Rattle.scan_lookup.proofs.Gathering.{file_self, more_self}
use Rattle.scan_lookup.proofs.Slotting.{place_rows}
use Rattle.scan_lookup.proofs.Telling.{asks_touched, holds_it}

true_false : (b : Bool) → b ≡ true → b ≡ false → ⊥
true_false true p q = cc
true_false false p q = cc

bool_cases : (b : Bool) → (b ≡ true) ⊎ (b ≡ false)
bool_cases true = inl refl
bool_cases false = inr refl

some_same : {X : Type 0} (x y : X) → Some x ≡ Some y → x ≡ y
some_same x y e = cc

-- what a cache keeps under a name
trust : (name : List ℕ) (store : Store) (c : Cache) (holds : Option Store) → IsSome c.entries → holds ≡ Some store
    → IfSome c.entries (λ m. IfSome holds (λ s. (id : ℕ) → IfSome (m (key_of name id)) (λ bytes. s id ≡ Some bytes))) → Trusts name store c
trust name store c holds t e h = record {
  tells = t;
  agrees = go c.entries (subst (λ o. IfSome c.entries (λ m. IfSome o (λ s. (id : ℕ) → IfSome (m (key_of name id)) (λ bytes. s id ≡ Some bytes)))) e h);
}
  where
    go : (o : Option (Entries SegmentKey)) → IfSome o (λ m. (id : ℕ) → IfSome (m (key_of name id)) (λ bytes. store id ≡ Some bytes)) → IfSome o (λ m. (id : ℕ) (b : List ℕ) → m (key_of name id) ≡ Some b → store id ≡ Some b)
    go None k = tt
    go (Some m) k = λ id b q. subst (λ o. IfSome o (λ bytes. store id ≡ Some bytes)) q (k id)

row_open : (k : KeptData) (row : ℕ) → HasRow k row → is_open k ≡ true
row_open unopened row h = absurd h
row_open skipped row h = absurd h
row_open (flawed l) row h = absurd h
row_open (ready l e) row h = refl

module _ {O S : Type 0} (source : S → SourceState) (kept : List KeptData) (files : List (ScanFile O S)) (c : Cache) (places : List Place) where
  -- nothing is read
  pub reads_none : All (λ (f : ScanFile O S). (source f.source).live ≡ none_live) files → ReadsPlaces source kept files files c c places
  reads_none idle = record {
    reads = record { count = refl; idle = idle; more = λ k f. more_self source (get_or files k f); trade = files_self source files c };
    each = λ k f. file_self source (CacheAgrees source files c) (kept_at kept k) (rows_at k places) (get_or files k f);
    unnamed = λ k off f. refl;
  }

-- ---- a walk, and what is read then
module _ {O S : Type 0} (opener : O → OpenerState) (source : S → SourceState) (e : Bound) (places : List Place) (old mid new : List (ScanFile O S)) (kept0 kept : List KeptData) (c d : Cache)
    (w : Walks opener e (files_of places) old mid kept0 kept) (r : ReadsPlaces source kept mid new c d places) (idle : All (IsIdle opener source) old) where
  from : (k : ℕ) (f : ScanFile O S) → source (get_or mid k f).source ≡ source (get_or old k f).source
  from k f = ap source (w.source k f)

  pub count_is : length new ≡ length old
  count_is = r.reads.count ∙ w.count

  pub names : (k : ℕ) (f : ScanFile O S) → (get_or new k f).source_id ≡ (get_or old k f).source_id
  names k f = (r.each k f).keeps.name ∙ w.name k f

  polls : (k : ℕ) (f : ScanFile O S) → IsPolledThrough (opener (get_or old k f).opener) (opener (get_or new k f).opener)
  polls k f = subst (λ (o : O). IsPolledThrough (opener (get_or old k f).opener) (opener o)) (sym (r.each k f).keeps.opener) (w.polls k f)

  holds : (k : ℕ) (f : ScanFile O S) → (source (get_or new k f).source).holds ≡ (source (get_or old k f).source).holds
  holds k f = (r.each k f).holds ∙ ap (λ (s : SourceState). s.holds) (from k f)

  asked : (k : ℕ) (f : ScanFile O S) → (source (get_or new k f).source).asked ≡ (source (get_or old k f).source).asked ++ (r.each k f).ids
  asked k f = (r.each k f).asked ∙ ap (λ (s : SourceState). s.asked ++ (r.each k f).ids) (from k f)

  since : (k : ℕ) (f : ScanFile O S) → asked_since (source (get_or old k f).source) (source (get_or new k f).source) ≡ (r.each k f).ids
  since k f = asked-is (r.each k f).ids (source (get_or old k f).source) (source (get_or new k f).source) (asked k f)

  pub each_moves : EachMoves opener source old new
  each_moves k f =
      let p = polls k f in
      let q = r.each k f in
      record {
        source_id = names k f;
        gives = p.gives;
        opener_faults = p.faults;
        opener_turns = p.turns;
        opener_can_fail = p.can_fail;
        polled = p.grows;
        polls = p.most;
        holds = holds k f;
        source_faults = subst (λ (s : SourceState). s.faults ≤ (source (get_or new k f).source).faults) (from k f) q.faults;
        source_turns = subst (λ (s : SourceState). (source (get_or new k f).source).turns ≤ s.turns) (from k f) q.turns;
        source_can_fail = q.can_fail ∙ ap (λ (s : SourceState). s.can_fail) (from k f);
        live = q.live ∙ ap (λ (s : SourceState). s.live) (from k f);
        ids = q.ids;
        asked = asked k f;
      }

  unnamed_off : (k : ℕ) → (Contains (files_of places) k → ⊥) → is_among (files_of places) k ≡ false
  unnamed_off k free = elim (bool_cases (is_among (files_of places) k)) [ inl on ↦ absurd (free (among_contains (files_of places) k on)) | inr off ↦ off ]

  opens_named : OpensNamed opener source e places old new kept0 kept
  opens_named = record {
    unnamed = λ k free f. r.unnamed k (unnamed_off k free) f ∙ (w.unnamed k (unnamed_off k free)).file f;
    opened = λ k on f. (r.each k f).keeps.opener ∙ ap (λ (z : ScanFile O S). z.opener) ((w.opened k on).file f);
    stay = λ k on. (w.opened k on).kept_is;
    closed = λ k free. (w.unnamed k (unnamed_off k free)).kept_is;
  }

  -- ---- the cache
  trade : FilesTrade source old new c d
  trade = files_then source old mid new c c d
      (record { len = w.count; agrees = λ h. agrees_same source old mid c w.count w.name (λ k f. ap (λ (s : SourceState). s.holds) (from k f)) h; ledger = files_ledger_same source old mid c w.count w.source w.name })
      r.reads.trade

  ledger : Ledger (books_of source old new) c d
  ledger = trade.ledger old c refl (ledger_starts source old c idle)

  moves_cache : CacheMoves source old new c d
  moves_cache = ends_cache source old new c d names ledger

  -- lawful objects agree with the cache, before a look-up and after it
  pub cache_agrees : IsLawful opener source old c → CacheAgrees source old c
  cache_agrees l = record { same = l.same; trusts = λ k f store lt is. trust (get_or old k f).source_id store c (source (get_or old k f).source).holds l.cache_tells is (l.agrees k f lt) }

  pub agrees_mid : IsLawful opener source old c → CacheAgrees source mid c
  agrees_mid l = agrees_same source old mid c w.count w.name (λ k f. ap (λ (s : SourceState). s.holds) (from k f)) (cache_agrees l)

  tells_new : IsLawful opener source old c → All (Tells opener source) new
  tells_new l k f lt =
      let t = l.tells k f (let n = count_is in omega (arith, lt, n)) in
      record { gives = subst IsSome (sym (polls k f).gives) t.gives; holds = subst IsSome (sym (holds k f)) t.holds }

  stays_lawful : IsLawful opener source old c → IsLawful opener source new d
  stays_lawful l = record {
    tells = tells_new l;
    same = λ i j f il jl is.
        holds i f ∙ l.same i j f (let n = count_is in omega (arith, il, n)) (let n = count_is in omega (arith, jl, n)) (sym (names i f) ∙ is ∙ names j f) ∙ sym (holds j f);
    cache_tells = still-tells c.entries d.entries (λ m n. (k : SegmentKey) (b : List ℕ) → n k ≡ Some b → (m k ≡ Some b) ⊎ IsFedBy source old new k b) moves_cache.entries l.cache_tells;
    agrees = λ k f lt. content (get_or new k f).source_id d (source (get_or new k f).source).holds (λ store is. (trade.agrees (cache_agrees l)).trusts k f store lt is);
  }

  once_each : EachAsksOnce opener source e places old new
  once_each k f = ap no_repeats (since k f) ∙ (r.each k f).once

  -- ---- what was asked for
  module _ (have : (k : ℕ) → All (HasRow (kept_at kept k)) (rows_at k places)) where
    all_may : (P : ℕ → Type 0) (ids : List ℕ) → ((id : ℕ) → is_among ids id ≡ true → P id) → All P ids
    all_may P [] h = All-nil P
    all_may P (x ∷ ids) h = All-cons P x ids (h x (here x ids)) (all_may P ids (λ id n. h id (right (eqb x id) (is_among ids id) n)))
      where
        here : (y : ℕ) (ys : List ℕ) → is_among (y ∷ ys) y ≡ true
        here y ys = let is : eqb y y ≡ true = grind (arith, nat_tests) in rw is refl

        right : (a b : Bool) → b ≡ true → (a || b) ≡ true
        right true b h = refl
        right false b h = h

    told_mid : (k : ℕ) (f : ScanFile O S) → k < length old → IsKept e (opener (get_or old k f).opener) (kept_at kept k)
    told_mid k f lt = kept_after e (opener (get_or mid k f).opener) (opener (get_or old k f).opener) (kept_at kept k) (sym (w.polls k f).gives) (w.are_kept k f (let n = w.count in omega (arith, lt, n)))

    touched_each : IsLawful opener source old c → EachAsksTouched opener source e places old new
    touched_each l k f = subst (All (MayBeAsked e (told_file opener source (get_or old k f)) (rows_at k places))) (sym (since k f)) (elim (cases_lt k (length old)) [ inl lt ↦ inside lt | inr ge ↦ past ge ])
      where
        inside : k < length old → All (MayBeAsked e (told_file opener source (get_or old k f)) (rows_at k places)) (r.each k f).ids
        inside lt = all_may (MayBeAsked e (told_file opener source (get_or old k f)) (rows_at k places)) (r.each k f).ids (λ id n.
            let t = l.tells k f lt in
            asks_touched opener source e (get_or old k f) t (kept_at kept k) (told_mid k f lt) (rows_at k places) (have k) id
            ((r.each k f).touched (agrees_mid l) (told_file opener source (get_or old k f)).store (ap (λ (s : SourceState). s.holds) (from k f) ∙ holds_it opener source e (get_or old k f) t) id n))

        past : length old ≤ k → All (MayBeAsked e (told_file opener source (get_or old k f)) (rows_at k places)) (r.each k f).ids
        past ge =
            let same : get_or new k f ≡ get_or old k f = get_or_past new k f (let n = count_is in omega (arith, ge, n)) ∙ sym (get_or_past old k f ge) in
            let none : (r.each k f).ids ≡ [] = sym (since k f) ∙ ap (λ (z : ScanFile O S). asked_since (source (get_or old k f).source) (source z.source)) same ∙ drop-length (source (get_or old k f).source).asked in
            subst (All (MayBeAsked e (told_file opener source (get_or old k f)) (rows_at k places))) (sym none) (All-nil (MayBeAsked e (told_file opener source (get_or old k f)) (rows_at k places)))

  -- where no source was called, nothing was asked for
  pub none_touched : ((k : ℕ) (f : ScanFile O S) → (get_or new k f).source ≡ (get_or old k f).source) → IsLawful opener source old c → EachAsksTouched opener source e places old new
  none_touched still l k f =
      let none : asked_since (source (get_or old k f).source) (source (get_or new k f).source) ≡ [] = ap (λ (z : S). asked_since (source (get_or old k f).source) (source z)) (still k f) ∙ drop-length (source (get_or old k f).source).asked in
      subst (All (MayBeAsked e (told_file opener source (get_or old k f)) (rows_at k places))) (sym none) (All-nil (MayBeAsked e (told_file opener source (get_or old k f)) (rows_at k places)))

  pub look_moves : (IsLawful opener source old c → EachAsksTouched opener source e places old new) → LookupMoves opener source e places old new kept0 kept c d
  look_moves touched = record {
    moves = each_moves;
    count = count_is;
    opens = opens_named;
    idle = r.reads.idle;
    touched = touched;
    once = once_each;
    entries = moves_cache;
    lawful = stays_lawful;
    lookups = ends_lookups source old new c d names ledger;
  }

  -- what is kept of the files is as before
  pub are_kept : AreKept opener e new kept
  are_kept k f lt = subst (λ (o : O). IsKept e (opener o) (kept_at kept k)) (sym (r.each k f).keeps.opener) (w.are_kept k f (let n = r.reads.count in omega (arith, lt, n)))

  pub even_still : length kept ≡ length new
  even_still = w.even ∙ sym r.reads.count

  -- ---- where all places are there
  module _ (there : All (HasPlaceRow mid kept) places) where
    have_rows : (k : ℕ) → All (HasRow (kept_at kept k)) (rows_at k places)
    have_rows k = place_rows mid kept k places there

    pub look_moved : LookupMoves opener source e places old new kept0 kept c d
    look_moved = look_moves (touched_each have_rows)

    pub open_now : All (λ (p : Place). is_open_in kept p.file ≡ true) places
    open_now = All-weaker (HasPlaceRow mid kept) (λ (p : Place). is_open_in kept p.file ≡ true) (λ p h. row_open (kept_at kept p.file) p.row h.1) places there

-- ---- a walk alone
pub idle_mid : {O S : Type 0} (opener : O → OpenerState) (source : S → SourceState) (e : Bound) (places : List Place) (old mid : List (ScanFile O S)) (kept0 kept : List KeptData)
    → Walks opener e (files_of places) old mid kept0 kept → All (IsIdle opener source) old → All (IsIdle opener source) mid
idle_mid opener source e places old mid kept0 kept w idle k f lt = ap (λ (s : SourceState). s.live) (ap source (w.source k f)) ∙ idle k f (let n = w.count in omega (arith, lt, n))
