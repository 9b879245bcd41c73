-- What a scan of files under another dtype says of the files themselves.
use Rattle.std.proofs.Common.{◌≡◌, ℕ, zero, suc, ◌<◌, ◌≤◌, ◌+◌, ◌^◌, List, [], ◌∷◌, ◌++◌, length, map, drop, arith, refl, sym, subst, ap, ◌∙◌, Bool, true, false, Option, Some, None, All, IfSome, Contains, get_or}
use Rattle.std.specs.Prelude.{nat_lt}
use Rattle.std.specs.Fmt.{decimal}
use Rattle.std.proofs.Math.Seq.{drop-append_seam}
use Rattle.std.proofs.lemmas.Bool.Decides.{nat_tests}
use Rattle.std.proofs.lemmas.Fmt.{decimal_injective}
use Rattle.std.proofs.lemmas.List.{append_cancel_left, length-map}
use Rattle.std.proofs.lemmas.List.Elements.{All-nil, All-cons, All-contains, All-get_or, All-weaker}
use Rattle.scan_values.specs.DataType.{DataType}
use Rattle.scan_expr.specs.declared.request.ScanRequest.{ScanRequest}
use Rattle.scan_segments.specs.Cache.{empty_cache}
use Rattle.scan_segments.specs.Source.{SourceState, Store, none_live}
use Rattle.scan_opener.specs.Opener.{Given, OpenerState}
use Rattle.scan_opener.specs.declared.opener.MemoryOpener.{MemoryOpener}
use Rattle.scan_drive.specs.Traffic.{WasAsked, asked_since}
use Rattle.scan_drive.specs.declared.files.ScanFile.{ScanFile}
use Rattle.scan_multi.specs.Answer.{ToldFile}
use Rattle.scan_multi.specs.Lawful.{told_file, Tells, IsIdle, IsLawful, Agrees}
use Rattle.scan_multi.specs.Moves.{EachMoves, FileMoves, AsksNamed, EachAsksNamed}
use Rattle.scan_multi.specs.Named.{named}
use Rattle.scan_splits.proofs.Numbers.{filter_map_to}
use Rattle.scan_widened.specs.Follows.{Moves, Follows, StandsBehind, HasInner}
use Rattle.scan_widened.specs.Identity.{inner_of}
use Rattle.scan_widened.specs.Sources.{UnionState, state_of, fresh, Follow}
use Rattle.scan_union.specs.Seats.{Pairs, AreSeated, make_file, make_all, rest_of, back_file, back_all}
use Rattle.scan_union.specs.Under.{behind_of, file_under}
use Rattle.scan_union.specs.UnionCauses.{named_behind}
use Rattle.scan_union.specs.declared.seat.Rest.{Rest}
use Rattle.scan_union.specs.declared.seat.Seat.{Seat}
use Rattle.scan_union.proofs.Moved.{SourceGoes, none_since, pairs_from}
use Rattle.scan_union.proofs.Spots.{Spot, spot, memory, told_made, made_count, given_told}

-- past the end of a list is what is given instead
get_past : {A : Type 0} (xs : List A) (k : ℕ) (x : A) → length xs ≤ k → get_or xs k x ≡ x
get_past [] k x h = refl
get_past (y ∷ ys) zero x h = absurd (omega (arith, h))
get_past (y ∷ ys) (suc k) x h = get_past ys k x (omega (arith, h))

-- ---- one file
module _ {O S : Type 0} (opener : O → OpenerState) (source : S → SourceState) (d : DataType) (request : ScanRequest) where
  -- what the scan did to the source over the file's own
  abbrev pub steps : (t : ScanFile O S) (s : Seat) (m : ScanFile MemoryOpener (UnionState S)) → FileMoves memory (state_of source) (make_file source t s) m
      → Moves (state_of source (fresh source t.source (s.segments).items)) (state_of source m.source)
  steps t s m v = record { holds = v.holds; faults = v.source_faults; turns = v.source_turns; can_fail = v.source_can_fail; live = v.live; ids = v.ids; asked = v.asked }

  pub inner_steps : (t : ScanFile O S) (s : Seat) (m : ScanFile MemoryOpener (UnionState S)) → Follow source m.source → (v : FileMoves memory (state_of source) (make_file source t s) m)
      → Follows (s.segments).items v.ids (state_of source (fresh source t.source (s.segments).items)) (state_of source m.source) (source t.source) (source (m.source).inner)
  inner_steps t s m follow v = follow t.source (s.segments).items (steps t s m v)

  pub goes : (t : ScanFile O S) (s : Seat) (m : ScanFile MemoryOpener (UnionState S)) → Follow source m.source → FileMoves memory (state_of source) (make_file source t s) m → (source t.source).live ≡ none_live
      → SourceGoes opener source t (back_file (rest_of t) m)
  goes t s m follow v idle =
      let f = inner_steps t s m follow v in
      record {
        opens = refl;
        named = refl;
        holds = f.holds;
        faults = f.faults;
        turns = f.turns;
        can_fail = f.can_fail;
        live = f.idle ∙ sym idle;
        ids = f.inner_ids;
        asked = f.asked;
      }

  -- the ids that were asked in a scan, by either way to say it
  same_ids : (s t : SourceState) (xs ys : List ℕ) → t.asked ≡ s.asked ++ xs → t.asked ≡ s.asked ++ ys → xs ≡ ys
  same_ids s t xs ys a b = append_cancel_left s.asked xs ys (sym a ∙ b)

  since : (s t : SourceState) (xs : List ℕ) → t.asked ≡ s.asked ++ xs → asked_since s t ≡ xs
  since s t xs a = ap (λ ys. drop (length s.asked) ys) a ∙ drop-append_seam s.asked xs

  -- a segment of the file was asked where one was over it
  pub inner_asked : (t : ScanFile O S) (s : Seat) (m : ScanFile MemoryOpener (UnionState S)) (id k : ℕ) → Follow source m.source → FileMoves memory (state_of source) (make_file source t s) m
      → inner_of (s.segments).items id ≡ Some k → WasAsked id (state_of source (fresh source t.source (s.segments).items)) (state_of source m.source) → WasAsked k (source t.source) (source (m.source).inner)
  inner_asked t s m id k follow v stands was =
      let f = inner_steps t s m follow v in
      let same : was.ids ≡ v.ids = same_ids (state_of source (fresh source t.source (s.segments).items)) (state_of source m.source) was.ids v.ids was.asked v.asked in
      let among : Contains v.ids id = subst (λ xs. Contains xs id) same was.among in
      let has = All-contains (HasInner (s.segments).items f.inner_ids) v.ids id f.each among in
      record { ids = f.inner_ids; asked = f.asked; among = subst (λ o. IfSome o (λ i. Contains f.inner_ids i)) stands has }

  -- ---- all files: as they were, opened, under the other dtype, scanned, and put back
  pub record Trip (old mid new : List (ScanFile O S)) (made made' : List (ScanFile MemoryOpener (UnionState S))) : Type 0 where
    pub spots : (k : ℕ) → k < length old → Spot opener source d request.row_range old mid new made made' k k
    pub mid_count : length mid ≡ length old
    pub new_count : length new ≡ length old
    pub made_count : length made ≡ length old
    pub moves : EachMoves memory (state_of source) made made'
    pub most : length old < 2 ^ 64

  module _ (old mid new : List (ScanFile O S)) (made made' : List (ScanFile MemoryOpener (UnionState S))) (trip : Trip old mid new made made') where
    pub file_moved : (k : ℕ) (p : Spot opener source d request.row_range old mid new made made' k k) → FileMoves memory (state_of source) (make_file source p.opened p.seat) p.after
    file_moved k p =
        subst (λ x. FileMoves memory (state_of source) x p.after) (p.made_at p.after)
        (subst (λ y. FileMoves memory (state_of source) (get_or made k p.after) y) (p.after_at p.after) (trip.moves k p.after))

    -- each source, as it is put back
    goes_at : (k : ℕ) (p : Spot opener source d request.row_range old mid new made made' k k) → All (IsIdle opener source) old → k < length old → SourceGoes opener source p.opened (back_file (rest_of p.opened) p.after)
    goes_at k p idle lt =
        let own : (source (p.file).source).live ≡ none_live = subst (λ (x : ScanFile O S). (source x.source).live ≡ none_live) (p.old_at p.file) (All-get_or (IsIdle opener source) old k p.file lt idle) in
        goes p.opened p.seat p.after p.follow (file_moved k p) (ap (λ (x : S). (source x).live) ((p.opens).polled).kept ∙ own)

    pub all_go : All (IsIdle opener source) old → Pairs (SourceGoes opener source) mid new
    all_go idle = pairs_from (SourceGoes opener source) mid new (trip.new_count ∙ sym trip.mid_count) one
      where
        one : (k : ℕ) (x : ScanFile O S) → k < length mid → SourceGoes opener source (get_or mid k x) (get_or new k x)
        one k x lt =
            let n = trip.mid_count in
            let here : k < length old = omega (arith, lt, n) in
            let p = trip.spots k here in
            subst (λ z. SourceGoes opener source z (get_or new k x)) (sym (p.mid_at x)) (subst (λ z. SourceGoes opener source p.opened z) (sym (p.new_at x)) (goes_at k p idle here))

    -- ---- what was asked
    asks_at : (k : ℕ) (p : Spot opener source d request.row_range old mid new made made' k k) → Tells opener source p.file → EachAsksNamed memory (state_of source) d request made made'
        → All (Contains (named_behind d request (told_file opener source p.file))) (asked_since (source (p.file).source) (source ((p.after).source).inner))
    asks_at k p own lawful =
        let v = file_moved k p in
        let follows = inner_steps p.opened p.seat p.after p.follow v in
        let f : ToldFile = told_file opener source p.file in
        let there : AsksNamed memory (state_of source) d request (make_file source p.opened p.seat) p.after =
        subst (λ x. AsksNamed memory (state_of source) d request x p.after) (p.made_at p.after)
        (subst (λ y. AsksNamed memory (state_of source) d request (get_or made k p.after) y) (p.after_at p.after) (lawful k p.after)) in
        let same : told_file memory (state_of source) (make_file source p.opened p.seat) ≡ file_under d f = told_made opener source d request.row_range k p.file p.opened p.given p.seat p.opens p.seated own in
        let ids : asked_since (state_of source (make_file source p.opened p.seat).source) (state_of source (p.after).source) ≡ v.ids = since (state_of source (make_file source p.opened p.seat).source) (state_of source (p.after).source) v.ids v.asked in
        let among : All (Contains (named d request (file_under d f).given (file_under d f).store)) v.ids =
        subst (λ (t : ToldFile). All (Contains (named d request t.given t.store)) v.ids) same
        (subst (λ xs. All (Contains (named d request (told_file memory (state_of source) (make_file source p.opened p.seat)).given (told_file memory (state_of source) (make_file source p.opened p.seat)).store)) xs) ids there) in
        let segs : ((p.seat).segments).items ≡ behind_of d f.given =
        (p.seated).segments ∙ ap (behind_of d) (sym (given_told opener source d request.row_range (opener (p.file).opener).gives p.given own.gives (p.opens).told)) in
        let kept : (source (p.opened).source).asked ≡ (source (p.file).source).asked = ap (λ (x : S). (source x).asked) ((p.opens).polled).kept in
        let asked : asked_since (source (p.file).source) (source ((p.after).source).inner) ≡ follows.inner_ids =
        since (source (p.file).source) (source ((p.after).source).inner) follows.inner_ids (follows.asked ∙ ap (λ xs. xs ++ follows.inner_ids) kept) in
        subst (λ xs. All (Contains (named_behind d request f)) xs) (sym asked)
        (All-weaker (StandsBehind ((p.seat).segments).items v.ids) (Contains (named_behind d request f))
        (λ id w. filter_map_to (inner_of (behind_of d f.given)) (named d request (file_under d f).given (file_under d f).store) w.0 id
        (All-contains (Contains (named d request (file_under d f).given (file_under d f).store)) v.ids w.0 among w.1) (subst (λ bs. inner_of bs w.0 ≡ Some id) segs w.2))
        follows.inner_ids follows.from)

    pub asks_behind : (All (Tells opener source) old → EachAsksNamed memory (state_of source) d request made made') → All (Tells opener source) old → (k : ℕ) (f : ScanFile O S)
        → All (Contains (named_behind d request (told_file opener source (get_or old k f)))) (asked_since (source (get_or old k f).source) (source (get_or new k f).source))
    asks_behind lawful tells k f = go (nat_lt k (length old)) refl
      where
        go : (b : Bool) → nat_lt k (length old) ≡ b → All (Contains (named_behind d request (told_file opener source (get_or old k f)))) (asked_since (source (get_or old k f).source) (source (get_or new k f).source))
        go false e =
            let past : length old ≤ k = grind (arith, nat_tests, e) in
            let n = trip.new_count in
            let both : get_or new k f ≡ get_or old k f = get_past new k f (omega (arith, past, n)) ∙ sym (get_past old k f past) in
            none_since opener source (source (get_or old k f).source) (source (get_or new k f).source) (Contains (named_behind d request (told_file opener source (get_or old k f)))) (ap (λ (x : ScanFile O S). (source x.source).asked) both)
        go true e =
            let here : k < length old = grind (arith, nat_tests, e) in
            let p = trip.spots k here in
            let own : Tells opener source p.file = subst (λ (x : ScanFile O S). Tells opener source x) (p.old_at p.file) (All-get_or (Tells opener source) old k p.file here tells) in
            subst (λ (x : ScanFile O S). All (Contains (named_behind d request (told_file opener source x))) (asked_since (source x.source) (source (get_or new k f).source))) (sym (p.old_at f))
            (subst (λ (y : ScanFile O S). All (Contains (named_behind d request (told_file opener source p.file))) (asked_since (source (p.file).source) (source y.source))) (sym (p.new_at f)) (asks_at k p own (lawful tells)))

    -- ---- the objects of the scan below are lawful
    name_of : (k : ℕ) (x : ScanFile MemoryOpener (UnionState S)) → k < length old → (get_or made k x).source_id ≡ decimal k
    name_of k x lt = let p = trip.spots k lt in ap (λ (y : ScanFile MemoryOpener (UnionState S)). y.source_id) (p.made_at x) ∙ (p.seated).name

    pub same_place : (i j : ℕ) (x : ScanFile MemoryOpener (UnionState S)) → i < length old → j < length old → (get_or made i x).source_id ≡ (get_or made j x).source_id → i ≡ j
    same_place i j x li lj e = let most = trip.most in decimal_injective i j (omega (arith, li, most)) (omega (arith, lj, most)) (sym (name_of i x li) ∙ e ∙ name_of j x lj)

    no_entries : (h : Option Store) → IfSome h (λ store. (id : ℕ) → Unit {0})
    no_entries None = tt
    no_entries (Some store) = λ id. tt

    agree_all : (fs : List (ScanFile MemoryOpener (UnionState S))) → All (Agrees memory (state_of source) empty_cache) fs
    agree_all [] = All-nil (Agrees memory (state_of source) empty_cache)
    agree_all (f ∷ fs) = All-cons (Agrees memory (state_of source) empty_cache) f fs (no_entries (state_of source f.source).holds) (agree_all fs)

    pub lawful_made : All (Tells memory (state_of source)) made → IsLawful memory (state_of source) made empty_cache
    lawful_made tells = record {
      tells = tells;
      same = λ i j x li lj e. let n = trip.made_count in ap (λ k. (state_of source (get_or made k x).source).holds) (same_place i j x (omega (arith, li, n)) (omega (arith, lj, n)) e);
      cache_tells = refl;
      agrees = agree_all made;
    }

  -- ---- such a trip
  back_count : (rs : List (Rest O)) (ms : List (ScanFile MemoryOpener (UnionState S))) → length ms ≡ length rs → length (back_all rs ms) ≡ length rs
  back_count [] ms n = refl
  back_count (r ∷ rs) [] n = absurd (omega (arith, n))
  back_count (r ∷ rs) (m ∷ ms) n = ap suc (back_count rs ms (omega (arith, n)))

  pub trip_of : (old mid : List (ScanFile O S)) (gs : List Given) (ss : List Seat) (made' : List (ScanFile MemoryOpener (UnionState S))) → AreSeated opener source d request.row_range 0 0 old mid gs ss
      → length made' ≡ length (make_all source mid ss) → All (λ m. Follow source m.source) made' → EachMoves memory (state_of source) (make_all source mid ss) made' → length old < 2 ^ 64
      → Trip old mid (back_all (map rest_of mid) made') (make_all source mid ss) made'
  trip_of old mid gs ss made' seated count follow moves most =
      let n = made_count opener source d request.row_range 0 0 old mid gs ss seated in
      let many : length made' ≡ length old = count ∙ n.0 in
      let rests : length (map rest_of mid) ≡ length mid = length-map mid rest_of in
      record {
        spots = λ k lt. subst (λ q. Spot opener source d request.row_range old mid (back_all (map rest_of mid) made') (make_all source mid ss) made' k q) (let e : 0 + k ≡ k = omega arith in e) (spot opener source d request.row_range 0 0 old mid gs ss made' seated many follow k lt);
        mid_count = n.1;
        new_count = back_count (map rest_of mid) made' (many ∙ sym n.1 ∙ sym rests) ∙ rests ∙ n.1;
        made_count = n.0;
        moves = moves;
        most = most;
      }
