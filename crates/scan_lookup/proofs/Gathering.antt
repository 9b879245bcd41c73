-- Rows of files that are read one file after the other.
use Rattle.std.proofs.Common.{◌≡◌, ◌≢◌, ◌≤◌, ◌<◌, ◌+◌, ◌++◌, ℕ, true, false, List, [], ◌∷◌, Option, Some, None, IfSome, is_some, get_or, set, length, map, inl, inr, refl, sym, ap, ◌∙◌, subst, arith, append-nil, length-set, get_or-set_same, get_or-set_other}
use Rattle.std.specs.Prelude.{◌⊎◌, All, IsSome, Result, Ok, Err, IfOk, IfErr, OnOk}
use Rattle.std.specs.List.{slice_get}
use Rattle.std.proofs.lemmas.Bool.{cases_eq}
use Rattle.std.proofs.lemmas.List.{append_assoc, get_or_default}
use Rattle.std.proofs.lemmas.List.Elements.{All-set}
use Rattle.std.proofs.lemmas.Option.{get_or_from_slice_get, slice_get_within}
use Rattle.scan_values.specs.Val.{Val, marked}
use Rattle.scan_values.specs.Values.{val_of}
use Rattle.scan_segments.specs.Cache.{Entries, Both}
use Rattle.scan_segments.specs.Source.{SourceState, Store, none_live}
use Rattle.scan_segments.specs.declared.segment.SegmentKey.{SegmentKey}
use Rattle.scan_drive.specs.Drivings.{CameOf, IsKeptIn, SourceFailed}
use Rattle.scan_drive.specs.Ledger.{Ledger, books_of}
use Rattle.scan_drive.specs.Trades.{Trusts, CacheAgrees}
use Rattle.scan_drive.specs.Traffic.{WasAsked, IsFedBy, key_of}
use Rattle.scan_drive.specs.Wants.{Cache}
use Rattle.scan_drive.specs.declared.files.ScanFile.{ScanFile}
use Rattle.scan_drive.proofs.Filing.{files_report, files_report_then, idle_at, ledger_starts}
use Rattle.scan_drive.proofs.Reckoning.{ends_cache}
use Rattle.scan_drive.proofs.Trading.{files_self, files_set, files_then}
use Rattle.scan_fetch.specs.Fetches.{IsTold, KeepsCounts}
use Rattle.scan_seek.specs.KeptData.{KeptData}
use Rattle.scan_seek.specs.Reads.{values_of, any_overflows, any_spoils, AreRead, HasSeekCause, SeekMoves}
use Rattle.scan_seek.specs.declared.reading.SeekFault.{SeekFault}
use Rattle.scan_seek.specs.declared.reading.SeekFault.TheVariants as seek
use Rattle.scan_places.specs.Walks.{kept_at}
use Rattle.scan_lookup.specs.Faults.{of_seek}
use Rattle.scan_lookup.specs.Reading.{Values, IsSeekFault, AreApart, IsReadable, KeepsOthers, ReadsFile, AsksMore, KeepsFileCounts, Reads, ReadsGroup, ReadsGroups, OverStore, GroupIsRead, AllAreRead, CameAt, CameUnder, FailsRows, FailsGroup, FailsOne}
use Rattle.scan_lookup.specs.declared.fault.LookupFault.{LookupFault}
use Rattle.scan_lookup.specs.declared.fault.LookupFault.TheVariants as fault
use Rattle.scan_lookup.specs.declared.groups.Group.{Group}
use Rattle.scan_lookup.proofs.Listing.{contains_left, got_pushed, length_pushed}

same_some : {X : Type 0} (x y : X) → Some x ≡ Some y → x ≡ y
same_some x y e = cc

none_got : (n : ℕ) (vs : Values) → slice_get [] n ≡ Some vs → ⊥
none_got n vs e = cc

-- what a source was asked for in a part of a call
asked_then : (id : ℕ) (r s t : SourceState) (ids : List ℕ) → t.asked ≡ s.asked ++ ids → WasAsked id r s → WasAsked id r t
asked_then id r s t ids e w = record {
  ids = w.ids ++ ids;
  asked = e ∙ ap (λ xs. xs ++ ids) w.asked ∙ append_assoc r.asked w.ids ids;
  among = contains_left w.ids ids id w.among;
}

module _ {O S : Type 0} (source : S → SourceState) where
  -- the file at a number, by any default
  at_default : (files : List (ScanFile O S)) (k : ℕ) (x f : ScanFile O S) → k < length files → x ≡ get_or files k x → get_or files k f ≡ x
  at_default files k x f lt e = sym (e ∙ get_or_default files k x f lt)

  -- ---- a file that is not read
  pub file_self : (agrees : Type 0) (k : KeptData) (rows : List ℕ) (f : ScanFile O S) → ReadsFile source agrees k rows f f
  file_self agrees k rows f = record {
    keeps = record { opener = refl; name = refl };
    holds = refl;
    faults = omega arith;
    turns = omega arith;
    can_fail = refl;
    live = refl;
    ids = [];
    asked = sym (append-nil (source f.source).asked);
    once = refl;
    touched = λ a store h id n. absurd cc;
  }

  -- ---- one that is
  pub file_reads : (agrees : Type 0) (k : KeptData) (rows : List ℕ) (f g : ScanFile O S) (c d : Cache) → KeepsOthers f g → (source f.source).live ≡ none_live
      → SeekMoves k rows f.source_id (source f.source) (source g.source) c d
      → (agrees → (store : Store) → (source f.source).holds ≡ Some store → Trusts f.source_id store c) → ReadsFile source agrees k rows f g
  file_reads agrees k rows f g c d keeps idle m trusts = record {
    keeps = keeps;
    holds = m.holds;
    faults = m.faults;
    turns = m.turns;
    can_fail = m.can_fail;
    live = m.idle ∙ sym idle;
    ids = m.ids;
    asked = m.asked;
    once = m.once;
    touched = λ a store h id n. m.touched store (record { holds = h; trusts = trusts a store h }) id n;
  }

  pub more_self : (f : ScanFile O S) → AsksMore source f f
  more_self f = record { name = refl; ids = []; asked = sym (append-nil (source f.source).asked) }

  more_then : (f g h : ScanFile O S) → AsksMore source f g → AsksMore source g h → AsksMore source f h
  more_then f g h p q = record { name = q.name ∙ p.name; ids = p.ids ++ q.ids; asked = q.asked ∙ ap (λ xs. xs ++ q.ids) p.asked ∙ append_assoc (source f.source).asked p.ids q.ids }

  -- a file of a list
  module _ (kept : List KeptData) (old : List (ScanFile O S)) (n : ℕ) (x y : ScanFile O S) (c d : Cache) (g : Group) (own : n ≡ g.file) (lt : n < length old) (e : x ≡ get_or old n x)
      (idle : All (λ (f : ScanFile O S). (source f.source).live ≡ none_live) old) (k : KeptData) (is_kept : k ≡ kept_at kept n) (keeps : KeepsOthers x y) where
    abbrev new : List (ScanFile O S)
    new = set old n y

    was : (f : ScanFile O S) → get_or old n f ≡ x
    was f = at_default old n x f lt e

    now : (f : ScanFile O S) → get_or new n f ≡ y
    now f = get_or-set_same old n y f lt

    trusted : CacheAgrees source old c → (store : Store) → (source x.source).holds ≡ Some store → Trusts x.source_id store c
    trusted a store h = subst (λ (z : ScanFile O S). Trusts z.source_id store c) (was x) (a.trusts n x store lt (ap (λ (z : ScanFile O S). (source z.source).holds) (was x) ∙ h))

    told_of : CacheAgrees source old c → (f : ScanFile O S) (store : Store) → (source (get_or old n f).source).holds ≡ Some store → IsTold x.source_id store (source x.source) c
    told_of a f store h = let holds : (source x.source).holds ≡ Some store = ap (λ (z : ScanFile O S). (source z.source).holds) (sym (was f)) ∙ h in record { holds = holds; trusts = trusted a store holds }

    module _ (m : SeekMoves k g.rows.items x.source_id (source x.source) (source y.source) c d) where
      reads_y : (f : ScanFile O S) → ReadsFile source (CacheAgrees source old c) (kept_at kept g.file) g.rows.items (get_or old n f) (get_or new n f)
      reads_y f =
          subst (λ (z : ScanFile O S). ReadsFile source (CacheAgrees source old c) (kept_at kept g.file) g.rows.items (get_or old n f) z) (sym (now f))
          (subst (λ (z : ScanFile O S). ReadsFile source (CacheAgrees source old c) (kept_at kept g.file) g.rows.items z y) (sym (was f))
          (subst (λ q. ReadsFile source (CacheAgrees source old c) q g.rows.items x y) (is_kept ∙ ap (kept_at kept) own)
          (file_reads (CacheAgrees source old c) k g.rows.items x y c d keeps (idle_at source old n x lt e idle) m trusted)))

      more_y : (j : ℕ) (f : ScanFile O S) → (j ≡ n) ⊎ (j ≢ n) → AsksMore source (get_or old j f) (get_or new j f)
      more_y j f (inl is) =
          subst (λ i. AsksMore source (get_or old i f) (get_or new i f)) (sym is)
          (subst (λ (z : ScanFile O S). AsksMore source (get_or old n f) z) (sym (now f)) (subst (λ (z : ScanFile O S). AsksMore source z y) (sym (was f)) (record { name = keeps.name; ids = m.ids; asked = m.asked })))
      more_y j f (inr ne) = subst (λ (z : ScanFile O S). AsksMore source (get_or old j f) z) (sym (get_or-set_other old n j y f ne)) (more_self (get_or old j f))

      pub group_reads : ReadsGroup source kept old (set old n y) c d g
      group_reads = record {
        reads = record {
          count = length-set old n y;
          idle = All-set (λ (f : ScanFile O S). (source f.source).live ≡ none_live) old n y m.idle idle;
          more = λ j f. more_y j f (cases_eq j n);
          trade = files_set source old n x y c d lt e keeps.name m.holds m.trades;
        };
        own = λ f. subst (λ j. ReadsFile source (CacheAgrees source old c) (kept_at kept g.file) g.rows.items (get_or old j f) (get_or new j f)) own (reads_y f);
        others = λ j ne f. get_or-set_other old n j y f (λ is. ne (is ∙ own));
      }

    pub group_is_read : (vs : List Val) → AreRead k g.rows.items x.source_id (source x.source) c vs → GroupIsRead source kept old c g vs
    group_is_read vs r = record {
      count = r.count;
      values = λ a f store h. subst (λ q. map marked vs ≡ values_of q store g.rows.items) (is_kept ∙ ap (kept_at kept) own) (r.values store (told_of a f store (back f store h)));
      no_overflow = λ a f store h.
          subst (λ q. All (λ (row : ℕ). any_overflows q store row ≡ false) g.rows.items) (is_kept ∙ ap (kept_at kept) own) (r.no_overflow store (told_of a f store (back f store h)));
    }
      where
        back : (f : ScanFile O S) (store : Store) → (source (get_or old g.file f).source).holds ≡ Some store → (source (get_or old n f).source).holds ≡ Some store
        back f store h = ap (λ j. (source (get_or old j f).source).holds) own ∙ h

    pub group_counts : KeepsCounts x.source_id (source x.source) (source y.source) c d → KeepsFileCounts source old (set old n y) c d
    group_counts h report = let r = h report in (r.0, files_report source old n x y c d report r.0 lt e keeps.name r.1)

    -- why it is not read
    pub group_fails : (u : LookupFault) → IsSeekFault n (HasSeekCause k g.rows.items x.source_id (source x.source) (source y.source) c) u → FailsGroup source kept old (set old n y) c g u
    group_fails u h = subst (FailsGroup source kept old new c g) (sym h.is) (go h.why h.cause)
      where
        failed : SourceFailed (source x.source) (source y.source) → (f : ScanFile O S) → SourceFailed (source (get_or old n f).source) (source (get_or new n f).source)
        failed h f = subst (λ (z : ScanFile O S). SourceFailed (source z.source) (source (get_or new n f).source)) (sym (was f)) (subst (λ (z : ScanFile O S). SourceFailed (source x.source) (source z.source)) (sym (now f)) h)

        asked : (id : ℕ) → WasAsked id (source x.source) (source y.source) → (f : ScanFile O S) → WasAsked id (source (get_or old n f).source) (source (get_or new n f).source)
        asked id h f = subst (λ (z : ScanFile O S). WasAsked id (source z.source) (source (get_or new n f).source)) (sym (was f)) (subst (λ (z : ScanFile O S). WasAsked id (source x.source) (source z.source)) (sym (now f)) h)

        came : (id : ℕ) → WasAsked id (source x.source) (source y.source) ⊎ IsKeptIn c x.source_id id → CameAt source kept old new c n id
        came id (inl w) = inl (asked id w)
        came id (inr h) = inr (λ f. subst (λ (z : ScanFile O S). IsKeptIn c z.source_id id) (sym (was f)) h)

        go : (w : SeekFault) → HasSeekCause k g.rows.items x.source_id (source x.source) (source y.source) c w → FailsGroup source kept old new c g (of_seek n w)
        go seek.NoMemory h = tt
        go (seek.Source id) h = (own, failed h.0, asked id h.1)
        go (seek.Corrupt id) h = (own, λ a f store q. subst (λ z. any_spoils z g.rows.items store id ≡ true) is_kept (h.0 store (told_of a f store q)), came id h.1)
        go (seek.Overflow row) h = (own, h.0, λ a f store q. subst (λ z. any_overflows z store row ≡ true) is_kept (h.1 store (told_of a f store q)))

  -- ---- groups so far
  pub record SoFar (kept : List KeptData) (old cur : List (ScanFile O S)) (c d : Cache) (gs : List Group) (i : ℕ) : Type 0 where
    pub reads : Reads source kept old cur c d
    pub each : (n : ℕ) (g : Group) → slice_get gs n ≡ Some g → (f : ScanFile O S)
        → ReadsFile source (CacheAgrees source old c) (kept_at kept g.file) g.rows.items (get_or old g.file f) (get_or cur g.file f)
    pub later : (n : ℕ) (g : Group) → slice_get gs n ≡ Some g → i ≤ n → (f : ScanFile O S) → get_or cur g.file f ≡ get_or old g.file f
    pub others : (k : ℕ) → ((n : ℕ) (g : Group) → slice_get gs n ≡ Some g → g.file ≡ k → ⊥) → (f : ScanFile O S) → get_or cur k f ≡ get_or old k f

  pub so_far_none : (kept : List KeptData) (old : List (ScanFile O S)) (c : Cache) (gs : List Group) → All (λ (f : ScanFile O S). (source f.source).live ≡ none_live) old → SoFar kept old old c c gs 0
  so_far_none kept old c gs idle = record {
    reads = record { count = refl; idle = idle; more = λ k f. more_self (get_or old k f); trade = files_self source old c };
    each = λ n g e f. file_self (CacheAgrees source old c) (kept_at kept g.file) g.rows.items (get_or old g.file f);
    later = λ n g e le f. refl;
    others = λ k none f. refl;
  }

  pub reads_groups : (kept : List KeptData) (old cur : List (ScanFile O S)) (c d : Cache) (gs : List Group) (i : ℕ) → SoFar kept old cur c d gs i → ReadsGroups source kept old cur c d gs
  reads_groups kept old cur c d gs i s = record { reads = s.reads; each = s.each; others = s.others }

  -- ---- the values of groups so far
  pub record ReadSoFar (kept : List KeptData) (old : List (ScanFile O S)) (c : Cache) (gs : List Group) (i : ℕ) (vss : List Values) : Type 0 where
    pub count : length vss ≡ i
    pub each : (n : ℕ) (g : Group) (vs : Values) → slice_get gs n ≡ Some g → slice_get vss n ≡ Some vs → GroupIsRead source kept old c g (map val_of vs.items)

  pub read_none : (kept : List KeptData) (old : List (ScanFile O S)) (c : Cache) (gs : List Group) → ReadSoFar kept old c gs 0 []
  read_none kept old c gs = record { count = refl; each = λ n g vs e s. absurd (none_got n vs s) }

  pub read_all : (kept : List KeptData) (old : List (ScanFile O S)) (c : Cache) (gs : List Group) (i : ℕ) (vss : List Values) → ReadSoFar kept old c gs i vss → i ≡ length gs → AllAreRead source kept old c gs vss
  read_all kept old c gs i vss r e = record { count = r.count ∙ e; each = r.each }

  -- ---- one group more
  module _ (kept : List KeptData) (old cur new : List (ScanFile O S)) (c d e : Cache) (gs : List Group) (i : ℕ) (g : Group) (apart : AreApart gs) (there : slice_get gs i ≡ Some g) (s : SoFar kept old cur c d gs i) (w : ReadsGroup source kept cur new d e g) where
    agrees : CacheAgrees source old c → CacheAgrees source cur d
    agrees a = s.reads.trade.agrees a

    stood : (f : ScanFile O S) → get_or cur g.file f ≡ get_or old g.file f
    stood f = s.later i g there (omega arith) f

    weaker : (a b : Type 0) → (b → a) → (k : KeptData) (rows : List ℕ) (f h : ScanFile O S) → ReadsFile source a k rows f h → ReadsFile source b k rows f h
    weaker a b t k rows f h r = record {
      keeps = r.keeps;
      holds = r.holds;
      faults = r.faults;
      turns = r.turns;
      can_fail = r.can_fail;
      live = r.live;
      ids = r.ids;
      asked = r.asked;
      once = r.once;
      touched = λ x. r.touched (t x);
    }

    abbrev Read : Group → ScanFile O S → ScanFile O S → Type 0
    Read h f z = ReadsFile source (CacheAgrees source old c) (kept_at kept h.file) h.rows.items f z

    own_now : (f : ScanFile O S) → Read g (get_or old g.file f) (get_or new g.file f)
    own_now f = subst (λ (z : ScanFile O S). Read g z (get_or new g.file f)) (stood f) (weaker (CacheAgrees source cur d) (CacheAgrees source old c) agrees (kept_at kept g.file) g.rows.items (get_or cur g.file f) (get_or new g.file f) (w.own f))

    each_now : (n : ℕ) (h : Group) → slice_get gs n ≡ Some h → (f : ScanFile O S) → (h.file ≡ g.file) ⊎ (h.file ≢ g.file) → Read h (get_or old h.file f) (get_or new h.file f)
    each_now n h q f (inl is) =
        let same : h ≡ g = same_some h g (sym q ∙ ap (slice_get gs) (apart n i h g q there is) ∙ there) in
        subst (λ (z : Group). Read z (get_or old z.file f) (get_or new z.file f)) (sym same) (own_now f)
    each_now n h q f (inr ne) = subst (Read h (get_or old h.file f)) (sym (w.others h.file ne f)) (s.each n h q f)

    later_now : (n : ℕ) (h : Group) → slice_get gs n ≡ Some h → i + 1 ≤ n → (f : ScanFile O S) → (h.file ≡ g.file) ⊎ (h.file ≢ g.file) → get_or new h.file f ≡ get_or old h.file f
    later_now n h q le f (inl is) = absurd (let same : n ≡ i = apart n i h g q there is in omega (arith, same, le))
    later_now n h q le f (inr ne) = w.others h.file ne f ∙ s.later n h q (omega (arith, le)) f

    pub so_far_next : SoFar kept old new c e gs (i + 1)
    so_far_next = record {
      reads = record { count = w.reads.count ∙ s.reads.count; idle = w.reads.idle; more = λ k f. more_then (get_or old k f) (get_or cur k f) (get_or new k f) (s.reads.more k f) (w.reads.more k f); trade = files_then source old cur new c d e s.reads.trade w.reads.trade };
      each = λ n h q f. each_now n h q f (cases_eq h.file g.file);
      later = λ n h q le f. later_now n h q le f (cases_eq h.file g.file);
      others = λ k none f. w.others k (λ is. none i g there (sym is)) f ∙ s.others k none f;
    }

    -- the values of this group, from the first point
    back : (f : ScanFile O S) (store : Store) → (source (get_or old g.file f).source).holds ≡ Some store → (source (get_or cur g.file f).source).holds ≡ Some store
    back f store h = ap (λ (z : ScanFile O S). (source z.source).holds) (stood f) ∙ h

    first_read : (vs : List Val) → GroupIsRead source kept cur d g vs → GroupIsRead source kept old c g vs
    first_read vs r = record { count = r.count; values = λ a f store h. r.values (agrees a) f store (back f store h); no_overflow = λ a f store h. r.no_overflow (agrees a) f store (back f store h) }

    pub read_next : (vss : List Values) (own : Values) → ReadSoFar kept old c gs i vss → GroupIsRead source kept cur d g (map val_of own.items) → ReadSoFar kept old c gs (i + 1) (vss ++ own ∷ [])
    read_next vss own r v = record { count = length_pushed vss own ∙ ap (λ k. k + 1) r.count; each = λ n h vs q p. go n h vs q (got_pushed vss own n vs p) }
      where
        go : (n : ℕ) (h : Group) (vs : Values) → slice_get gs n ≡ Some h → (slice_get vss n ≡ Some vs) ⊎ ((n ≡ length vss) × (vs ≡ own)) → GroupIsRead source kept old c h (map val_of vs.items)
        go n h vs q (inl p) = r.each n h vs q p
        go n h vs q (inr p) =
            let same : h ≡ g = same_some h g (sym q ∙ ap (slice_get gs) (p.0 ∙ r.count) ∙ there) in
            subst (λ (z : Group). GroupIsRead source kept old c z (map val_of vs.items)) (sym same)
            (subst (λ (z : Values). GroupIsRead source kept old c g (map val_of z.items)) (sym p.1) (first_read (map val_of own.items) v))

    pub counts_next : KeepsFileCounts source old cur c d → KeepsFileCounts source cur new d e → KeepsFileCounts source old new c e
    counts_next p q report = let a = p report in let b = q a.0 in (b.0, files_report_then source old cur new c d e report a.0 b.0 s.reads.count a.1 b.1)

    -- ---- why this group is not read, from the first point
    over : (P : Store → Type 0) → OverStore source cur d g.file P → OverStore source old c g.file P
    over P h a f store q = h (agrees a) f store (back f store q)

    asked_first_at : (id : ℕ) (f : ScanFile O S) → WasAsked id (source (get_or cur g.file f).source) (source (get_or new g.file f).source) → WasAsked id (source (get_or old g.file f).source) (source (get_or new g.file f).source)
    asked_first_at id f w = subst (λ (z : ScanFile O S). WasAsked id (source z.source) (source (get_or new g.file f).source)) (stood f) w

    module _ (first_idle : All (λ (f : ScanFile O S). (source f.source).live ≡ none_live) old) (listed : g.file < length old) where
      -- what the cache kept before this group it kept at first, or a file stood asked for it
      ledger : Ledger (books_of source old cur) c d
      ledger = s.reads.trade.ledger old c refl (ledger_starts source old c first_idle)

      fed : (name : List ℕ) (id : ℕ) (b : List ℕ) → IsFedBy source old cur (key_of name id) b → CameOf source c old new name id
      fed name id b h = inl (record {
        place = h.place;
        there = h.there;
        named = h.name;
        asked = λ f. let m = w.reads.more h.place f in asked_then id (source (get_or old h.place f).source) (source (get_or cur h.place f).source) (source (get_or new h.place f).source) m.ids m.asked (h.asked f);
      })

      kept_first : (name : List ℕ) (id : ℕ) → IsKeptIn d name id → CameOf source c old new name id
      kept_first name id h = go c.entries d.entries (ends_cache source old cur c d (λ k f. (s.reads.more k f).name) ledger).entries (λ x. x) h
        where
          one : (m : Entries SegmentKey) (o p : Option (List ℕ)) → m (key_of name id) ≡ o → ((b : List ℕ) → p ≡ Some b → (m (key_of name id) ≡ Some b) ⊎ IsFedBy source old cur (key_of name id) b) → IsSome p
              → (IsSome (m (key_of name id)) → CameOf source c old new name id) → CameOf source c old new name id
          one m o None q f some up = cc
          one m o (Some b) q f some up = elim (f b refl) [ inl e ↦ up (ap is_some e) | inr fedby ↦ fed name id b fedby ]

          go : (x y : Option (Entries SegmentKey)) → Both x y (λ m n. (k : SegmentKey) (b : List ℕ) → n k ≡ Some b → (m k ≡ Some b) ⊎ IsFedBy source old cur k b)
              → (IfSome x (λ m. IsSome (m (key_of name id))) → IsKeptIn c name id) → IfSome y (λ m. IsSome (m (key_of name id))) → CameOf source c old new name id
          go None None both up k = inr (up tt)
          go None (Some n) both up k = let bad : Some n ≡ None = both in absurd cc
          go (Some m) None both up k = absurd both
          go (Some m) (Some n) both up k = one m (m (key_of name id)) (n (key_of name id)) refl (both (key_of name id)) k (λ e. inr (up e))

      came : (id : ℕ) → CameAt source kept cur new d g.file id → CameUnder source kept old new c g.file id
      came id (inl a) f = inl (record {
        place = g.file;
        there = listed;
        named = λ z. ap (λ (q : ScanFile O S). q.source_id) (get_or_default old g.file z f listed);
        asked = λ z. asked_first_at id z (a z);
      })
      came id (inr k) f = kept_first (get_or old g.file f).source_id id (subst (λ (q : ScanFile O S). IsKeptIn d q.source_id id) (stood f) (k f))

      failed_at : (f : ScanFile O S) → SourceFailed (source (get_or cur g.file f).source) (source (get_or new g.file f).source) → SourceFailed (source (get_or old g.file f).source) (source (get_or new g.file f).source)
      failed_at f h = subst (λ (z : ScanFile O S). SourceFailed (source z.source) (source (get_or new g.file f).source)) (stood f) h

      own_fails : (u : LookupFault) → FailsGroup source kept cur new d g u → FailsRows source kept old new c (CameUnder source kept old new c) g.file g.rows.items u
      own_fails fault.NoMemory h = tt
      own_fails (fault.Bind b) h = absurd h
      own_fails (fault.NoPlace n) h = absurd h
      own_fails (fault.Opener k) h = absurd h
      own_fails (fault.DTypeMismatch k) h = absurd h
      own_fails (fault.Layout k l) h = absurd h
      own_fails (fault.Source k id) h = (
        h.0,
        λ f. subst (λ j. SourceFailed (source (get_or old j f).source) (source (get_or new j f).source)) (sym h.0) (failed_at f (subst (λ j. SourceFailed (source (get_or cur j f).source) (source (get_or new j f).source)) h.0 (h.1 f))),
        λ f. subst (λ j. WasAsked id (source (get_or old j f).source) (source (get_or new j f).source)) (sym h.0) (asked_first_at id f (subst (λ j. WasAsked id (source (get_or cur j f).source) (source (get_or new j f).source)) h.0 (h.2 f))),
      )
      own_fails (fault.Corrupt k id) h = (
        h.0,
        subst (λ j. OverStore source old c j (λ store. any_spoils (kept_at kept j) g.rows.items store id ≡ true)) (sym h.0)
            (over (λ store. any_spoils (kept_at kept g.file) g.rows.items store id ≡ true) (subst (λ j. OverStore source cur d j (λ store. any_spoils (kept_at kept j) g.rows.items store id ≡ true)) h.0 h.1)),
        subst (λ j. CameUnder source kept old new c j id) (sym h.0) (came id (subst (λ j. CameAt source kept cur new d j id) h.0 h.2)),
      )
      own_fails (fault.Overflow k row) h = (
        h.0,
        h.1,
        subst (λ j. OverStore source old c j (λ store. any_overflows (kept_at kept j) store row ≡ true)) (sym h.0)
            (over (λ store. any_overflows (kept_at kept g.file) store row ≡ true) (subst (λ j. OverStore source cur d j (λ store. any_overflows (kept_at kept j) store row ≡ true)) h.0 h.2)),
      )

      pub one_fails : (u : LookupFault) → FailsGroup source kept cur new d g u → FailsOne source kept old new c gs u
      one_fails u h = record { number = i; group = g; there = there; fails = own_fails u h }

-- ---- groups that can be read
pub readable_at : {O S : Type 0} (files : List (ScanFile O S)) (kept : List KeptData) (gs : List Group) (i : ℕ) (g : Group) → slice_get gs i ≡ Some g → All (IsReadable files kept) gs → IsReadable files kept g
readable_at files kept gs i g e h = subst (IsReadable files kept) (get_or_from_slice_get gs i g g e) (h i g (slice_get_within gs i g e))

pub readable_now : {O S : Type 0} (source : S → SourceState) (kept : List KeptData) (old cur : List (ScanFile O S)) (c d : Cache) (gs : List Group) (i : ℕ) → SoFar source kept old cur c d gs i → (g : Group) → IsReadable old kept g → IsReadable cur kept g
readable_now source kept old cur c d gs i s g r = record { listed = (let n = s.reads.count in let l = r.listed in omega (arith, n, l)); read = r.read; rows = r.rows }

-- ---- what answers of calls give
pub all_fails : {T : Type 0} {P Q : LookupFault → Type 0} (x : Result T LookupFault) → ((u : LookupFault) → P u → Q u) → IfErr x P → IfErr x Q
all_fails (Ok a) f h = tt
all_fails (Err u) f h = f u h

pub all_values : {T E : Type 0} {P Q : T → Type 0} (x : Result T E) → ((a : T) → P a → Q a) → IfOk x P → IfOk x Q
all_values (Ok a) f h = f a h
all_values (Err u) f h = tt

pub on_values : {T E : Type 0} {P Q : Type 0} (x : Result T E) → (P → Q) → OnOk x P → OnOk x Q
on_values (Ok a) f h = f h
on_values (Err u) f h = tt
