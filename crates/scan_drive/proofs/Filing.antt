-- The ledger over files: at the start, and after a step of one of them.
use Rattle.std.proofs.Common.{◌≡◌, ℕ, zero, suc, ◌+◌, ◌<◌, List, [], ◌∷◌, length, map, get_or, set, ◌-◌, ◌^◌, Bool, true, false, refl, sym, ap, ◌∙◌, subst, arith, append-nil, inl, inr}
use Rattle.std.specs.Prelude.{All, Option, None, Some, IfSome}
use Rattle.std.proofs.lemmas.List.Elements.{All-head, All-tail}
use Rattle.std.proofs.Math.Nat.{le_refl}
use Rattle.std.proofs.Math.Seq.{drop-length}
use Rattle.scan_segments.specs.Events.{times}
use Rattle.scan_segments.specs.Source.{SourceState, none_live}
use Rattle.scan_segments.specs.declared.segment.SegmentKey.{SegmentKey}
use Rattle.scan_drive.specs.Ledger.{Book, open_among, count_held, asks, opens, ask_count, held_asked, held_open, total, Each, IsAt, moved, IsKept, IsLive, Feeds, Ledger, Balance, KeepsLedger, KeepsBalance, books_of, FilesKeepLedger, FilesKeepBalance, KeepsReport, FilesKeepReport}
use Rattle.scan_drive.specs.Traffic.{key_of, capped_report, asked_since}
use Rattle.scan_drive.specs.Wants.{Cache}
use Rattle.scan_drive.specs.declared.files.ScanFile.{ScanFile}
use Rattle.scan_drive.specs.declared.report.ScanReport.{ScanReport}
use Rattle.scan_drive.proofs.Caching.{both_same, grows_self}
use Rattle.scan_drive.proofs.Wanting.{ended_none}

module _ {O S : Type 0} (source : S → SourceState) where
  -- ---- one file's step
  pub books_at : (first now : List (ScanFile O S)) (k : ℕ) (x : ScanFile O S) → length now ≡ length first → k < length now → x ≡ get_or now k x → IsAt k x.source_id (source x.source) (books_of source first now)
  books_at [] [] k x n lt e = absurd (omega arith)
  books_at [] (g ∷ gs) k x n lt e = absurd (omega arith)
  books_at (f ∷ fs) [] k x n lt e = absurd (omega arith)
  books_at (f ∷ fs) (g ∷ gs) zero x n lt e = (ap (λ (z : ScanFile O S). z.source_id) (sym e), ap (λ (z : ScanFile O S). source z.source) (sym e))
  books_at (f ∷ fs) (g ∷ gs) (suc k) x n lt e = books_at fs gs k x (omega arith) (omega arith) e

  pub books_set : (first now : List (ScanFile O S)) (k : ℕ) (x y : ScanFile O S) → length now ≡ length first → k < length now → x ≡ get_or now k x → y.source_id ≡ x.source_id → books_of source first (set now k y) ≡ moved k (source y.source) (books_of source first now)
  books_set [] [] k x y n lt e m = absurd (omega arith)
  books_set [] (g ∷ gs) k x y n lt e m = absurd (omega arith)
  books_set (f ∷ fs) [] k x y n lt e m = absurd (omega arith)
  books_set (f ∷ fs) (g ∷ gs) zero x y n lt e m = let name : y.source_id ≡ g.source_id = m ∙ ap (λ (z : ScanFile O S). z.source_id) e in λ i. record { name = name i; first = source f.source; now = source y.source } ∷ books_of source fs gs
  books_set (f ∷ fs) (g ∷ gs) (suc k) x y n lt e m = ap (λ (bs : List Book). record { name = g.source_id; first = source f.source; now = source g.source } ∷ bs) (books_set fs gs k x y (omega arith) (omega arith) e m)

  pub files_ledger : (now : List (ScanFile O S)) (k : ℕ) (x y : ScanFile O S) (c d : Cache) → k < length now → x ≡ get_or now k x → y.source_id ≡ x.source_id → KeepsLedger x.source_id (source x.source) (source y.source) c d → FilesKeepLedger source now (set now k y) c d
  files_ledger now k x y c d lt e m h first cache n l = subst (λ bs. Ledger bs cache d) (sym (books_set first now k x y n lt e m)) (h k (books_of source first now) cache (books_at first now k x n lt e) l)

  pub files_balance : (now : List (ScanFile O S)) (k : ℕ) (x y : ScanFile O S) (c d : Cache) (report after : ScanReport) (lost gone : Bool) → k < length now → x ≡ get_or now k x → y.source_id ≡ x.source_id →
      KeepsBalance x.source_id (source x.source) (source y.source) c d report after lost gone → FilesKeepBalance source now (set now k y) c d report after lost gone
  files_balance now k x y c d report after lost gone lt e m h first cache n b = subst (λ bs. Balance bs cache d after gone) (sym (books_set first now k x y n lt e m)) (h k (books_of source first now) cache (books_at first now k x n lt e) b)

  -- ---- one after the other
  pub files_ledger_self : (files : List (ScanFile O S)) (c : Cache) → FilesKeepLedger source files files c c
  files_ledger_self files c first cache n l = l

  pub files_ledger_then : (old mid new : List (ScanFile O S)) (c d e : Cache) → length mid ≡ length old → FilesKeepLedger source old mid c d → FilesKeepLedger source mid new d e → FilesKeepLedger source old new c e
  files_ledger_then old mid new c d e m p q first cache n l = q first cache (m ∙ n) (p first cache n l)

  pub files_balance_self : (files : List (ScanFile O S)) (c : Cache) (report : ScanReport) (lost : Bool) → FilesKeepBalance source files files c c report report lost lost
  files_balance_self files c report lost first cache n b = b

  pub files_balance_then : (old mid new : List (ScanFile O S)) (c d e : Cache) (r x y : ScanReport) (a b g : Bool) → length mid ≡ length old → FilesKeepBalance source old mid c d r x a b → FilesKeepBalance source mid new d e x y b g → FilesKeepBalance source old new c e r y a g
  files_balance_then old mid new c d e r x y a b g m p q first cache n l = q first cache (m ∙ n) (p first cache n l)

  pub files_report_then : (old mid new : List (ScanFile O S)) (c d e : Cache) (r x y : ScanReport) → length mid ≡ length old → FilesKeepReport source old mid c d r x → FilesKeepReport source mid new d e x y → FilesKeepReport source old new c e r y
  files_report_then old mid new c d e r x y m p q lost = files_balance_then old mid new c d e r x y lost lost lost m (p lost) (q lost)

  pub files_report : (now : List (ScanFile O S)) (k : ℕ) (x y : ScanFile O S) (c d : Cache) (report after : ScanReport) → k < length now → x ≡ get_or now k x → y.source_id ≡ x.source_id → KeepsReport x.source_id (source x.source) (source y.source) c d report after
      → FilesKeepReport source now (set now k y) c d report after
  files_report now k x y c d report after lt e m h lost = files_balance now k x y c d report after lost lost lt e m (h lost)

  -- files whose sources and names are as before
  pub books_same : (first old new : List (ScanFile O S)) → length new ≡ length old → ((k : ℕ) (f : ScanFile O S) → (get_or new k f).source ≡ (get_or old k f).source) → ((k : ℕ) (f : ScanFile O S) → (get_or new k f).source_id ≡ (get_or old k f).source_id)
      → books_of source first new ≡ books_of source first old
  books_same [] old new n s m = refl
  books_same (f ∷ fs) [] [] n s m = refl
  books_same (f ∷ fs) [] (g ∷ gs) n s m = absurd (omega arith)
  books_same (f ∷ fs) (h ∷ hs) [] n s m = absurd (omega arith)
  books_same (f ∷ fs) (h ∷ hs) (g ∷ gs) n s m =
      let rest = books_same fs hs gs (omega arith) (λ k. s (suc k)) (λ k. m (suc k)) in
      λ i. record { name = m 0 g i; first = source f.source; now = source (s 0 g i) } ∷ rest i

  pub files_ledger_same : (old new : List (ScanFile O S)) (c : Cache) → length new ≡ length old → ((k : ℕ) (f : ScanFile O S) → (get_or new k f).source ≡ (get_or old k f).source) → ((k : ℕ) (f : ScanFile O S) → (get_or new k f).source_id ≡ (get_or old k f).source_id)
      → FilesKeepLedger source old new c c
  files_ledger_same old new c n s m first cache len l = subst (λ bs. Ledger bs cache c) (sym (books_same first old new n s m)) l

  pub files_balance_same : (old new : List (ScanFile O S)) (c : Cache) (report : ScanReport) (lost : Bool) → length new ≡ length old → ((k : ℕ) (f : ScanFile O S) → (get_or new k f).source ≡ (get_or old k f).source)
      → ((k : ℕ) (f : ScanFile O S) → (get_or new k f).source_id ≡ (get_or old k f).source_id) → FilesKeepBalance source old new c c report report lost lost
  files_balance_same old new c report lost n s m first cache len b = subst (λ bs. Balance bs cache c report lost) (sym (books_same first old new n s m)) b

  -- a file of those that are idle
  pub idle_at : (files : List (ScanFile O S)) (k : ℕ) (x : ScanFile O S) → k < length files → x ≡ get_or files k x → All (λ f. (source f.source).live ≡ none_live) files → (source x.source).live ≡ none_live
  idle_at [] k x lt e idle = absurd (omega arith)
  idle_at (f ∷ fs) zero x lt e idle = subst (λ (z : ScanFile O S). (source z.source).live ≡ none_live) (sym e) (All-head (λ (g : ScanFile O S). (source g.source).live ≡ none_live) f fs idle)
  idle_at (f ∷ fs) (suc k) x lt e idle = idle_at fs k x (omega arith) e (All-tail (λ (g : ScanFile O S). (source g.source).live ≡ none_live) f fs idle)

  -- ---- the start
  first_kept : (f : ScanFile O S) → (source f.source).live ≡ none_live → IsKept (record { name = f.source_id; first = source f.source; now = source f.source })
  first_kept f idle = record { holds = refl; ids = []; asked = sym (append-nil (source f.source).asked); live = λ id on. (let off : (source f.source).live id ≡ false = ap (λ (l : ℕ → Bool). l id) idle in let bad : false ≡ true = sym off ∙ on in absurd cc) }

  pub all_kept : (files : List (ScanFile O S)) → All (λ f. (source f.source).live ≡ none_live) files → Each IsKept (books_of source files files)
  all_kept [] idle = tt
  all_kept (f ∷ fs) idle = (first_kept f (All-head (λ (g : ScanFile O S). (source g.source).live ≡ none_live) f fs idle), all_kept fs (All-tail (λ (g : ScanFile O S). (source g.source).live ≡ none_live) f fs idle))

  none_new : (f : ScanFile O S) → asked_since (source f.source) (source f.source) ≡ []
  none_new f = drop-length (source f.source).asked

  -- what counts nothing where nothing was asked for
  total_none : (w : Book → ℕ) (files : List (ScanFile O S)) → ((f : ScanFile O S) → w (record { name = f.source_id; first = source f.source; now = source f.source }) ≡ 0) → total w (books_of source files files) ≡ 0
  total_none w [] h = refl
  total_none w (f ∷ fs) h = let e = h f in let rest = total_none w fs h in omega arith

  pub asks_none : (key : SegmentKey) (files : List (ScanFile O S)) → total (asks key) (books_of source files files) ≡ 0
  asks_none key files = total_none (asks key) files (λ f. ap (λ ids. times key (map (key_of f.source_id) ids)) (none_new f))

  pub opens_none : (key : SegmentKey) (files : List (ScanFile O S)) → total (opens key) (books_of source files files) ≡ 0
  opens_none key files = total_none (opens key) files (λ f. ap (λ ids. times key (map (key_of f.source_id) (open_among (source f.source).live ids))) (none_new f))

  count_none : (files : List (ScanFile O S)) → total ask_count (books_of source files files) ≡ 0
  count_none files = total_none ask_count files (λ f. ap length (none_new f))

  held_none : (files : List (ScanFile O S)) → total held_asked (books_of source files files) ≡ 0
  held_none files = total_none held_asked files (λ f. ap (count_held (source f.source).holds) (none_new f))

  held_open_none : (files : List (ScanFile O S)) → total held_open (books_of source files files) ≡ 0
  held_open_none files = total_none held_open files (λ f. ap (λ ids. count_held (source f.source).holds (open_among (source f.source).live ids)) (none_new f))

  pub not_live : (key : SegmentKey) (first now : List (ScanFile O S)) → All (λ f. (source f.source).live ≡ none_live) now → IsLive key (books_of source first now) → ⊥
  not_live key [] now idle l = l
  not_live key (f ∷ fs) [] idle l = l
  not_live key (f ∷ fs) (g ∷ gs) idle (inl l) =
      let none : (source g.source).live ≡ none_live = All-head (λ (h : ScanFile O S). (source h.source).live ≡ none_live) g gs idle in
      let off : (source g.source).live key.segment ≡ false = ap (λ (live : ℕ → Bool). live key.segment) none in
      let bad : false ≡ true = sym off ∙ l.1 in
      absurd cc
  not_live key (f ∷ fs) (g ∷ gs) idle (inr l) = not_live key fs gs (All-tail (λ (h : ScanFile O S). (source h.source).live ≡ none_live) g gs idle) l

  abbrev pub ledger_starts : (files : List (ScanFile O S)) (c : Cache) → All (λ f. (source f.source).live ≡ none_live) files → Ledger (books_of source files files) c c
  ledger_starts files c idle = record {
    kept = all_kept files idle;
    events = [];
    ended = ended_none c.ended;
    short = grows_self c.short;
    faults = le_refl c.faults;
    turns = le_refl c.turns;
    entries = both_same (Feeds (books_of source files files)) (λ a k v is. inl is) c.entries;
    missed = λ key. let e = asks_none key files in omega (arith, e);
    each = λ key. let e = asks_none key files in let o = opens_none key files in omega (arith, e, o);
    follow = λ key alone. refl;
    pending = λ key alone live. absurd (not_live key files files idle live);
  }

  pub balance_starts : (files : List (ScanFile O S)) (c : Cache) → All (λ f. (source f.source).live ≡ none_live) files → Balance (books_of source files files) c c (capped_report 0 0 0) false
  balance_starts files c idle = record {
    ledger = ledger_starts files c idle;
    totals = record {
      shared = 0;
      counts = ap (capped_report 0 0) (sym (count_none files));
      lookups = let e : 0 ≡ 0 + total ask_count (books_of source files files) = omega (arith, count_none files) in e;
      puts = λ kept told. same c.short;
    };
  }
    where
      same : (x : Option ℕ) → IfSome x (λ before. IfSome x (λ now. now < 2 ^ 64 - 1 → total held_asked (books_of source files files) + before ≡ 0 + now + total held_open (books_of source files files)))
      same None = tt
      same (Some n) = λ lt. let h = held_none files in let o = held_open_none files in omega (arith, h, o)
