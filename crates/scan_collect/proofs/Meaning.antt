-- What is read of a stream of a scan, by the rows that the scan is asked for.
use Rattle.std.proofs.Common.{◌≡◌, ◌≤◌, ◌+◌, ◌-◌, ℕ, zero, suc, Bool, true, false, not, List, [], ◌∷◌, ◌++◌, length, map, take, drop, Option, None, Some, Result, Ok, Err, IfErr, IfOk, inl, refl, sym, ap, subst, ◌∙◌, append-nil, take-append-drop, arith, IsPermutation}
use Rattle.std.specs.Ordering.{nat_cmp}
use Rattle.std.specs.Prelude.{nat_le, option_map}
use Rattle.std.proofs.lemmas.Bool.Decides.{nat_tests}
use Rattle.std.proofs.lemmas.List.Sorted.{IsPermutation-refl, IsPermutation-append, length_permutation}
use Rattle.std.specs.FinMap as finite
use Rattle.std.specs.declared.ops.Range.{Range}
use Rattle.scan_values.specs.Marked.{Marked}
use Rattle.scan_values.specs.Selections.{is_among}
use Rattle.scan_segments.specs.Source.{SourceState, Store, none_live}
use Rattle.scan_splits.specs.Arrivals.{content}
use Rattle.scan_limit.specs.Budget.{most}
use Rattle.scan_limit.specs.Seats.{SeatState}
use Rattle.scan_plans.specs.Futures.{FutureData, items_of}
use Rattle.scan_streams.specs.Feeds.{FeedData}
use Rattle.scan_streams.specs.Grants.{HasRoom}
use Rattle.scan_streams.specs.Iters.{IterData}
use Rattle.scan_streams.specs.Plans.{has_filter}
use Rattle.scan_streams.specs.Splits.{AllHold, Alike, new_split, one_part, parts_left, reach}
use Rattle.scan_streams.specs.Streams.{LiveAs, StreamData}
use Rattle.scan_streams.specs.declared.fault.StreamFault.{StreamFault}
use Rattle.scan_streams.specs.declared.setup.SetupFault.{SetupFault}
use Rattle.scan_readers.specs.Readers.{ReaderState}
use Rattle.scan_core.specs.BuilderData.{BuilderData, IsBuilder}
use Rattle.scan_core.specs.Given.{Rises, SplitsGiveWhatIsAsked, asked_values, values_of}
use Rattle.scan_core.specs.LazyData.{IsIterOf}
use Rattle.scan_core.specs.Prepared.{IsPrepared}
use Rattle.scan_core.specs.ScanData.{ScanData, IsScan, splits_of}
use Rattle.scan_core.specs.Setup.{Refuses}
use Rattle.scan_core.specs.Streaming.{IsOwnSeat, IsStreamOf, first_of, limit_after, limit_before, limit_if, streamed, values_in, StreamsGiveTheFirstRows}
use Rattle.scan_collect.specs.Asked.{RefusedBy, StopsRows, StopsScan}
use Rattle.scan_collect.specs.Reads.{IsAlone, IsFresh, IsReadOf, MayStop, StopsBy, joined, limit_in}
use Rattle.scan_collect.specs.Rows.{GivesFirst}
use Rattle.scan_collect.proofs.Alike.{joined_alike}
use Rattle.scan_collect.proofs.Joining.{joined_both, length_first, take_both, take_none}

-- ---- nothing was read of a stream that a scan executes
new_hold : (store : Store) (fs : List FutureData) → AllHold store (map new_split fs)
new_hold store [] = tt
new_hold store (f ∷ fs) = (λ id bytes e. absurd (let z : None ≡ Some bytes = sym (ap (option_map content) (finite.get-empty nat_cmp id)) ∙ e in cc), new_hold store fs)

seat_alone : (limit : Option ℕ) (seat : Option SeatState) (n : ℕ) → IsOwnSeat limit seat → HasRoom seat n → IsAlone seat n
seat_alone None seat n h l = subst (λ (o : Option SeatState). IsAlone o n) (sym h) tt
seat_alone (Some k) seat n h l =
    let few : n ≤ most = subst (λ (o : Option SeatState). HasRoom o n) h.1 l in
    subst (λ (o : Option SeatState). IsAlone o n) (sym h.1) (refl, few)

seat_limit : (limit : Option ℕ) (seat : Option SeatState) → IsOwnSeat limit seat → limit_in seat ≡ limit
seat_limit None seat h = ap limit_in h
seat_limit (Some k) seat h = ap limit_in h.1 ∙ ap Some h.2

module _ {M : Type 0} (s : ScanData M) (r : Option (Range ℕ)) (t : StreamData M) (is : IsStreamOf s r t) where
  pub stream_fresh : (store : Store) → HasRoom (t.feed).seat (reach (t.feed).splits) → IsFresh store t.feed
  stream_fresh store room =
      let made = (is.stream).feed in
      record {
        begun = ap (λ (f : FeedData). f.ended) made;
        holds = subst (λ (f : FeedData). AllHold store f.splits) (sym made) (new_hold store (streamed s r));
        alone = seat_alone (limit_after s) (t.feed).seat (reach (t.feed).splits) is.seat room;
      }

-- ---- its values
parts_in : (store : Store) (fs : List FutureData) → joined (parts_left store (map new_split fs)) ≡ values_in fs store
parts_in store [] = refl
parts_in store (f ∷ fs) =
    joined_both (one_part (items_of f store)) (parts_left store (map new_split fs))
    ∙ ap (λ (xs : List Marked). xs ++ joined (parts_left store (map new_split fs))) (one (items_of f store))
    ∙ ap (λ (xs : List Marked). items_of f store ++ xs) (parts_in store fs)
  where
    one : (xs : List Marked) → joined (one_part xs) ≡ xs
    one [] = refl
    one (x ∷ xs) = append-nil (x ∷ xs)

joined_in : (ordered : Bool) (limit : Option ℕ) (store : Store) (fs : List FutureData) (parts : List (List Marked)) (values : List Marked)
    → Alike ordered (parts_left store (map new_split fs)) parts → values ≡ first_of limit (joined parts) → GivesFirst ordered limit (values_in fs store) values
joined_in true limit store fs parts values h e = e ∙ ap (λ (xss : List (List Marked)). first_of limit (joined xss)) (sym h) ∙ ap (first_of limit) (parts_in store fs)
joined_in false limit store fs parts values h e =
    (joined parts, subst (λ (xs : List Marked). IsPermutation xs (joined parts)) (parts_in store fs) (joined_alike (λ (xs : List Marked). xs) (parts_left store (map new_split fs)) parts h), e)

module _ {M : Type 0} (s : ScanData M) (r : Option (Range ℕ)) (t : StreamData M) (is : IsStreamOf s r t) (store : Store) (values : List Marked) where
  -- of what the splits of the scan give, as many as its limit allows as arrays come
  pub stream_gives : IsReadOf store t.feed values → GivesFirst s.ordered (limit_after s) (values_in (streamed s r) store) values
  stream_gives h =
      let made = (is.stream).feed in
      let limit : limit_in (t.feed).seat ≡ limit_after s = seat_limit (limit_after s) (t.feed).seat is.seat in
      let all : Alike s.ordered (parts_left store (map new_split (streamed s r))) h.parts = subst (λ (f : FeedData). Alike f.ordered (parts_left store f.splits) h.parts) made h.all in
      joined_in s.ordered (limit_after s) store (streamed s r) h.parts values all (h.first ∙ ap (λ (o : Option ℕ). first_of o (joined h.parts)) limit)

-- ---- a limit before reading and one after it
take_long : (n : ℕ) (xs : List Marked) → length xs ≤ n → take n xs ≡ xs
take_long zero [] l = refl
take_long (suc n) [] l = refl
take_long zero (x ∷ xs) l = absurd (omega arith)
take_long (suc n) (x ∷ xs) l = ap (λ (ys : List Marked). x ∷ ys) (take_long n xs (omega arith))

drop_long : (n : ℕ) (xs : List Marked) → length xs ≤ n → drop n xs ≡ []
drop_long zero [] l = refl
drop_long (suc n) [] l = refl
drop_long zero (x ∷ xs) l = absurd (omega arith)
drop_long (suc n) (x ∷ xs) l = drop_long n xs (omega arith)

-- a permutation of the first rows is the first of a permutation of all
others_first : (n : ℕ) (asked others : List Marked) → length others ≡ length (take n asked) → others ≡ take n (others ++ drop n asked)
others_first n asked others e =
    let long = length_first n asked in
    let few : length others ≤ n = omega (arith, e, long) in
    let whole = take_long n others few in
    sym (take_both n others (drop n asked) ∙ ap (λ (xs : List Marked). xs ++ take (n - length others) (drop n asked)) whole ∙ go (nat_le n (length asked)) refl ∙ append-nil others)
  where
    go : (b : Bool) → nat_le n (length asked) ≡ b → others ++ take (n - length others) (drop n asked) ≡ others ++ []
    go true h =
        let long = length_first n asked in
        let low : n ≤ length asked = grind (arith, nat_tests, h) in
        let none : n - length others ≡ 0 = omega (arith, e, long, low) in
        ap (λ (k : ℕ). others ++ take k (drop n asked)) none
    go false h =
        let high : length asked ≤ n = grind (arith, nat_tests, h) in
        ap (λ (xs : List Marked). others ++ take (n - length others) xs) (drop_long n asked high) ∙ ap (λ (xs : List Marked). others ++ xs) (take_none (n - length others))

before_some : (limit : Option ℕ) (asked values : List Marked) → GivesFirst false None (first_of limit asked) values → GivesFirst false limit asked values
before_some None asked values h = h
before_some (Some n) asked values h =
    let count : length h.0 ≡ length (take n asked) = length_permutation (take n asked) h.0 h.1 in (
      h.0 ++ drop n asked,
      subst (λ (xs : List Marked). IsPermutation xs (h.0 ++ drop n asked)) (take-append-drop n asked) (IsPermutation-append (take n asked) h.0 (drop n asked) (drop n asked) h.1 (IsPermutation-refl (drop n asked))),
      h.2 ∙ others_first n asked h.0 count,
    )

pub both_limits : (ordered filtered : Bool) (limit : Option ℕ) (asked values : List Marked)
    → GivesFirst ordered (limit_if filtered limit) (first_of (limit_if (not filtered) limit) asked) values → GivesFirst ordered limit asked values
both_limits true true limit asked values h = h
both_limits true false limit asked values h = h
both_limits false true limit asked values h = h
both_limits false false limit asked values h = before_some limit asked values h

-- ---- a scan
-- a stream of it over an idle source
pub stream_live : {M : Type 0} (s : ScanData M) (r : Option (Range ℕ)) (t : StreamData M) (live : ℕ → Bool) → IsStreamOf s r t → live ≡ none_live → LiveAs live (t.feed).live
stream_live s r t live is h = λ id. ap (λ (f : ℕ → Bool). f id) h ∙ ap (λ (f : FeedData). is_among f.live id) (sym (is.stream).feed)

pub scan_gives : {M : Type 0} (s : ScanData M) (r : Option (Range ℕ)) (t : StreamData M) (store : Store) (values : List Marked)
    → StreamsGiveTheFirstRows M → IsStreamOf s r t → HasRoom (t.feed).seat (reach (t.feed).splits) → (IsFresh store t.feed → IsReadOf store t.feed values)
    → GivesFirst s.ordered s.limit (values_of (splits_of s r) store) values
scan_gives s r t store values first made room read =
    let given = stream_gives s r t made store values (read (stream_fresh s r t made store room)) in
    let all : GivesFirst s.ordered (limit_after s) (first_of (limit_before s) (values_of (splits_of s r) store)) values = subst (λ (xs : List Marked). GivesFirst s.ordered (limit_after s) xs values) (first s r store) given in
    both_limits s.ordered (has_filter s.plans) s.limit (values_of (splits_of s r) store) values all

rows_given : {R M : Type 0} (state : ReaderState) (b : BuilderData R M) (s : ScanData M) (store : Store) (values : List Marked)
    → SplitsGiveWhatIsAsked R M → IsBuilder state b.projection b.filter b.natural → Rises b.selection → IsPrepared state b s → IsScan s
    → GivesFirst s.ordered s.limit (values_of (splits_of s None) store) values → GivesFirst b.ordered b.limit (asked_values state b None store) values
rows_given state b s store values law builder rises is scan h =
    let asked = asked_values state b None store in
    let given : GivesFirst s.ordered s.limit asked values = subst (λ (xs : List Marked). GivesFirst s.ordered s.limit xs values) (law state b s None builder rises is scan refl store) h in
    subst (λ (z : Bool × Option ℕ). GivesFirst z.0 z.1 asked values) (λ i. (is.ordered i, is.limit i)) given

-- ---- what a call answers
pub scan_read : {M V F : Type 0} (s : ScanData M) (r : Option (Range ℕ)) (t : StreamData M) (holds : Option Store) (values : V → List Marked) (result : Result V F)
    → StreamsGiveTheFirstRows M → IsStreamOf s r t → HasRoom (t.feed).seat (reach (t.feed).splits)
    → IfOk result (λ v. (store : Store) → holds ≡ Some store → IsFresh store t.feed → IsReadOf store t.feed (values v))
    → IfOk result (λ v. (store : Store) → holds ≡ Some store → GivesFirst s.ordered s.limit (values_of (splits_of s r) store) (values v))
scan_read s r t holds values (Ok v) first made room h = λ store told. scan_gives s r t store (values v) first made room (h store told)
scan_read s r t holds values (Err f) first made room h = tt

pub rows_read : {R M V F : Type 0} (state : ReaderState) (b : BuilderData R M) (s : ScanData M) (holds : Option Store) (values : V → List Marked) (result : Result V F)
    → SplitsGiveWhatIsAsked R M → IsBuilder state b.projection b.filter b.natural → Rises b.selection → IsPrepared state b s → IsScan s
    → IfOk result (λ v. (store : Store) → holds ≡ Some store → GivesFirst s.ordered s.limit (values_of (splits_of s None) store) (values v))
    → IfOk result (λ v. (store : Store) → holds ≡ Some store → GivesFirst b.ordered b.limit (asked_values state b None store) (values v))
rows_read state b s holds values (Ok v) law builder rises is scan h = λ store told. rows_given state b s store (values v) law builder rises is scan (h store told)
rows_read state b s holds values (Err f) law builder rises is scan h = tt

-- the same over a source of its own
module _ {M S V F : Type 0} (s : ScanData M) (r : Option (Range ℕ)) (state : S → SourceState) (source : S) (i : IterData M S) (is : IsIterOf s r source i) where
  pub iter_read : (values : V → List Marked) (result : Result V F) → StreamsGiveTheFirstRows M → HasRoom ((i.stream).feed).seat (reach ((i.stream).feed).splits)
      → IfOk result (λ v. (store : Store) → (state i.source).holds ≡ Some store → IsFresh store (i.stream).feed → IsReadOf store (i.stream).feed (values v))
      → IfOk result (λ v. (store : Store) → (state source).holds ≡ Some store → GivesFirst s.ordered s.limit (values_of (splits_of s r) store) (values v))
  iter_read values result first room h =
      let P : S → Type 0 = λ x. IfOk result (λ v. (store : Store) → (state x).holds ≡ Some store → GivesFirst s.ordered s.limit (values_of (splits_of s r) store) (values v)) in
      subst P is.1 (scan_read s r i.stream (state i.source).holds values result first is.0 room h)

-- ---- why it stops
pub refused : (o : Option SetupFault) (f : SetupFault) → Refuses {T = ℕ} (Err f) o → RefusedBy o f
refused None f h = h
refused (Some g) f h = h

pub scan_stops : {M V F : Type 0} (s : ScanData M) (r : Option (Range ℕ)) (t : StreamData M) (a b : SourceState) (result : Result V (StreamFault F)) → IsStreamOf s r t → IfErr result (StopsBy a b (t.feed).splits) → IfErr result (StopsScan a b s r)
scan_stops s r t a b (Ok v) is h = tt
scan_stops s r t a b (Err x) is h = inl (subst (λ (f : FeedData). StopsBy a b f.splits x) (is.stream).feed h)

pub iter_stops : {M S V F : Type 0} (s : ScanData M) (r : Option (Range ℕ)) (state : S → SourceState) (source : S) (i : IterData M S) (result : Result V (StreamFault F)) → IsIterOf s r source i
    → IfErr result (MayStop (state i.source) ((i.stream).feed).splits) → IfErr result (λ x. (after : SourceState) × StopsScan (state source) after s r x)
iter_stops {S = S} s r state source i (Ok v) is h = tt
iter_stops {S = S} s r state source i (Err x) is h =
    let P : S × FeedData → Type 0 = λ z. StopsBy (state z.0) h.0 (z.1).splits x in
    (h.0, inl (subst P (λ j. ((is.1) j, ((is.0).stream).feed j)) h.1))

pub own_rows_stops : {R M V F : Type 0} (state : ReaderState) (b : BuilderData R M) (s : ScanData M) (old : SourceState) (result : Result V (StreamFault F)) → IsPrepared state b s
    → IfErr result (λ x. (after : SourceState) × StopsScan old after s None x) → IfErr result (λ x. (after : SourceState) × StopsRows state b old after x)
own_rows_stops state b s old (Ok v) is h = tt
own_rows_stops state b s old (Err x) is h = (h.0, inl (s, is, h.1))

pub rows_stops : {R M V F : Type 0} (state : ReaderState) (b : BuilderData R M) (s : ScanData M) (old new : SourceState) (result : Result V (StreamFault F)) → IsPrepared state b s → IfErr result (StopsScan old new s None) → IfErr result (StopsRows state b old new)
rows_stops state b s old new (Ok v) is h = tt
rows_stops state b s old new (Err x) is h = inl (s, is, h)
