-- What an answer of a look-up means.
use Rattle.std.proofs.Common.{◌≡◌, ◌<◌, ℕ, suc, true, false, List, [], ◌∷◌, Some, IfSome, get_or, length, map, refl, sym, ap, ◌∙◌, subst, arith}
use Rattle.std.specs.Prelude.{All, Result, Ok, Err, IfOk, OnOk}
use Rattle.std.specs.List.{slice_get}
use Rattle.std.proofs.Math.Nat.{le_refl}
use Rattle.std.proofs.lemmas.List.Elements.{All-nil, All-cons, All-head, All-tail, All-weaker}
use Rattle.scan_values.specs.Arrays.{ArrayData}
use Rattle.scan_values.specs.Marked.{Marked}
use Rattle.scan_values.specs.Val.{Val, marked}
use Rattle.scan_expr.specs.Bound.{Bound}
use Rattle.scan_expr.specs.Infer.{infer}
use Rattle.scan_segments.specs.Source.{SourceState}
use Rattle.scan_opener.specs.Opener.{OpenerState}
use Rattle.scan_drive.specs.Ledger.{Balance, FilesKeepReport, books_of}
use Rattle.scan_drive.specs.Traffic.{capped_report, ended_since, PutsWhatItAsked}
use Rattle.scan_drive.specs.Wants.{Cache}
use Rattle.scan_drive.specs.declared.files.ScanFile.{ScanFile}
use Rattle.scan_drive.specs.declared.report.ScanReport.{ScanReport}
use Rattle.scan_drive.proofs.Filing.{balance_starts, files_balance_same}
use Rattle.scan_drive.proofs.Reckoning.{ends_puts}
use Rattle.scan_multi.specs.Answer.{ToldFile}
use Rattle.scan_multi.specs.Lawful.{told, told_file, IsIdle, IsLawful}
use Rattle.scan_seek.specs.KeptData.{KeptData}
use Rattle.scan_seek.specs.Keeps.{IsKept}
use Rattle.scan_places.specs.Walks.{kept_at, files_of, HasPlaceRow, Walks}
use Rattle.scan_places.specs.declared.place.Place.{Place}
use Rattle.scan_places.proofs.Placing.{take_whole}
use Rattle.scan_places.proofs.Walking.{kept_after, one_file, told_row}
use Rattle.scan_lookup.specs.Causes.{Before, IsTold, OverflowsAt}
use Rattle.scan_lookup.specs.Lookups.{IsReply}
use Rattle.scan_lookup.specs.Reading.{KeepsFileCounts, ReadsPlaces, IsValue, AreValues}
use Rattle.scan_lookup.specs.Replies.{reply_to, value_of}
use Rattle.scan_lookup.specs.Session.{is_open_in}
use Rattle.scan_lookup.specs.declared.fault.LookupFault.{LookupFault}
use Rattle.scan_lookup.proofs.Answering.{agrees_mid, names, open_now}
use Rattle.scan_lookup.proofs.Telling.{holds_it, none_overflows, of_told, told_at, value_is}

some_same : {X : Type 0} (x y : X) → Some x ≡ Some y → x ≡ y
some_same x y e = cc

module _ {O S : Type 0} (opener : O → OpenerState) (source : S → SourceState) (e : Bound) (places : List Place) (old mid new : List (ScanFile O S)) (kept0 kept : List KeptData) (c d : Cache)
    (w : Walks opener e (files_of places) old mid kept0 kept) (r : ReadsPlaces source kept mid new c d places) (idle : All (IsIdle opener source) old) (there : All (HasPlaceRow mid kept) places) where
  told_all : Before opener source e places c old new (length places)
  told_all = subst (All (IsTold opener source e places c old new)) (sym (take_whole places (length places) (le_refl (length places))))
      (All-weaker (HasPlaceRow mid kept) (IsTold opener source e places c old new) (λ p h. told_row opener e (files_of places) old mid new kept0 kept w p h) places there)

  pub before_all : Before opener source e places c old new (length places)
  before_all = told_all

  -- ---- as many values
  count_values : (ps : List Place) (vs : List Val) → AreValues source kept mid c ps vs → length vs ≡ length ps
  count_values [] [] h = refl
  count_values [] (v ∷ vs) h = absurd h
  count_values (p ∷ ps) [] h = absurd h
  count_values (p ∷ ps) (v ∷ vs) h = ap suc (count_values ps vs h.1)

  listed : (p : Place) → HasPlaceRow mid kept p → p.file < length old
  listed p h = let n = w.count in let l = h.0 in omega (arith, n, l)

  -- a file of the list
  first_file : (k : ℕ) → k < length old → ScanFile O S
  first_file k lt = one_file old k lt

  kept_old : (k : ℕ) (f : ScanFile O S) → k < length old → IsKept e (opener (get_or old k f).opener) (kept_at kept k)
  kept_old k f lt = kept_after e (opener (get_or mid k f).opener) (opener (get_or old k f).opener) (kept_at kept k) (sym (w.polls k f).gives) (w.are_kept k f (let n = w.count in omega (arith, lt, n)))

  module _ (l : IsLawful opener source old c) where
    held : (k : ℕ) (f : ScanFile O S) → k < length old → (source (get_or mid k f).source).holds ≡ Some (told_file opener source (get_or old k f)).store
    held k f lt = ap (λ (s : SourceState). s.holds) (ap source (w.source k f)) ∙ holds_it opener source e (get_or old k f) (l.tells k f lt)

    one_value : (p : Place) (v : Val) → HasPlaceRow mid kept p → IsValue source kept mid c p v → marked v ≡ value_of e p.row (slice_get (told opener source old) p.file)
    one_value p v h i =
        let lt = listed p h in
        let f = first_file p.file lt in
        let x = get_or old p.file f in
        value_is opener source e x (l.tells p.file f lt) p.row (kept_at kept p.file) (kept_old p.file f lt) h.1 v
        (i.value (agrees_mid opener source e places old mid new kept0 kept c d w r idle l) f (told_file opener source x).store (held p.file f lt))
        ∙ sym (of_told opener source old e p.row p.file f lt)

    all_values : (ps : List Place) (vs : List Val) → All (HasPlaceRow mid kept) ps → AreValues source kept mid c ps vs → map marked vs ≡ reply_to e (told opener source old) ps
    all_values [] [] h i = refl
    all_values [] (v ∷ vs) h i = absurd i
    all_values (p ∷ ps) [] h i = absurd i
    all_values (p ∷ ps) (v ∷ vs) h i =
        ap (λ (m : Marked). m ∷ map marked vs) (one_value p v (All-head (HasPlaceRow mid kept) p ps h) i.0)
        ∙ ap (λ (ms : List Marked). value_of e p.row (slice_get (told opener source old) p.file) ∷ ms) (all_values ps vs (All-tail (HasPlaceRow mid kept) p ps h) i.1)

    abbrev Never : Place → Type 0
    Never p = (f : ToldFile) → slice_get (told opener source old) p.file ≡ Some f → OverflowsAt e p.row f → ⊥

    one_never : (p : Place) (v : Val) → HasPlaceRow mid kept p → IsValue source kept mid c p v → Never p
    one_never p v h i t is o =
        let lt = listed p h in
        let f = first_file p.file lt in
        let x = get_or old p.file f in
        let same : t ≡ told_file opener source x = some_same t (told_file opener source x) (sym is ∙ told_at opener source old p.file f lt) in
        none_overflows opener source e x (l.tells p.file f lt) p.row (kept_at kept p.file) (kept_old p.file f lt) h.1
        (i.no_overflow (agrees_mid opener source e places old mid new kept0 kept c d w r idle l) f (told_file opener source x).store (held p.file f lt))
        (subst (OverflowsAt e p.row) same o)

    all_never : (ps : List Place) (vs : List Val) → All (HasPlaceRow mid kept) ps → AreValues source kept mid c ps vs → All Never ps
    all_never [] [] h i = All-nil Never
    all_never [] (v ∷ vs) h i = absurd i
    all_never (p ∷ ps) [] h i = absurd i
    all_never (p ∷ ps) (v ∷ vs) h i = All-cons Never p ps (one_never p v (All-head (HasPlaceRow mid kept) p ps h) i.0) (all_never ps vs (All-tail (HasPlaceRow mid kept) p ps h) i.1)

  -- ---- the counts
  module _ (counts : KeepsFileCounts source mid new c d) where
    balance : (after : ScanReport) → FilesKeepReport source mid new c d (capped_report 0 0 0) after → Balance (books_of source old new) c d after false
    balance after h = h false old c w.count
        (files_balance_same source old mid c (capped_report 0 0 0) false w.count w.source w.name old c refl (balance_starts source old c idle))

    pub puts_all : IfSome (ended_since c d) (PutsWhatItAsked source old new c d)
    puts_all = let k = counts (capped_report 0 0 0) in ends_puts source old new c d (names opener source e places old mid new kept0 kept c d w r idle) k.0 r.reads.idle (balance k.0 k.1)

    pub is_reply : (a : ArrayData) → a.dtype ≡ infer e.scope e.expr → AreValues source kept mid c places a.items → IsReply opener source e places old new c d a
    is_reply a dtype values = record {
      dtype = dtype;
      count = count_values places a.items values;
      there = told_all;
      values = λ l. all_values l places a.items there values;
      no_overflow = λ l. all_never l places a.items there values;
      puts = puts_all;
    }

  pub replied : (x : Result ArrayData LookupFault) → IfOk x (λ (a : ArrayData). a.dtype ≡ infer e.scope e.expr) → IfOk x (λ (a : ArrayData). AreValues source kept mid c places a.items) → OnOk x (KeepsFileCounts source mid new c d)
      → IfOk x (IsReply opener source e places old new c d)
  replied (Ok a) p q s = is_reply s a p q
  replied (Err u) p q s = tt

  pub opened : (x : Result ArrayData LookupFault) → OnOk x (All (λ (p : Place). is_open_in kept p.file ≡ true) places)
  opened (Ok a) = open_now opener source e places old mid new kept0 kept c d w r idle there
  opened (Err u) = tt
