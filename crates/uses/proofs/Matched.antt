-- The rows at which a filter is true, and the rows of a range.
use Rattle.std.proofs.Common.{◌≡◌, ◌≤◌, ◌<◌, ◌+◌, ◌^◌, ◌||◌, ℕ, Bool, true, false, nat_le, nat_lt, List, [], ◌∷◌, map, filter, take, Option, None, Some, Result, Ok, Err, IfOk, refl, sym, ap, subst, ◌∙◌, arith, IsPermutation}
use Rattle.std.specs.Prelude.{IfSome, min}
use Rattle.std.proofs.lemmas.Bool.Decides.{nat_tests}
use Rattle.std.proofs.lemmas.List.{take-map}
use Rattle.std.specs.declared.ops.Range.{Range}
use Rattle.vortex_scan.specs.Values.Marked.{Marked}
use Rattle.vortex_scan.specs.Values.Selections.{is_among, numbers}
use Rattle.vortex_scan.specs.Expr.Bound.{Bound}
use Rattle.vortex_scan.specs.Segments.Source.{SourceState, Store, none_live}
use Rattle.vortex_scan.specs.Readers.Readers.{ReaderState, value_of}
use Rattle.vortex_scan.specs.Readers.RowIdxData.{numbered_state}
use Rattle.vortex_scan.specs.Streams.Feeds.{FeedData}
use Rattle.vortex_scan.specs.Streams.Grants.{HasRoom}
use Rattle.vortex_scan.specs.Streams.Iters.{IterData}
use Rattle.vortex_scan.specs.Streams.Splits.{reach}
use Rattle.vortex_scan.specs.Streams.Streams.{LiveAs, StreamData}
use Rattle.vortex_scan.specs.Core.BuilderData.{BuilderData, IsFilter, IsOver, conjuncts_in}
use Rattle.vortex_scan.specs.Core.Given.{SplitsGiveWhatIsAsked, asked_values, passes, values_of}
use Rattle.vortex_scan.specs.Core.LazyData.{IsIterOf}
use Rattle.vortex_scan.specs.Core.Prepared.{IsPrepared}
use Rattle.vortex_scan.specs.Core.RowRanges.{is_past}
use Rattle.vortex_scan.specs.Core.ScanData.{ScanData, IsScan, splits_of}
use Rattle.vortex_scan.specs.Core.Settings.{builder_by}
use Rattle.vortex_scan.specs.Core.Setup.{setup_fault}
use Rattle.vortex_scan.specs.Core.Streaming.{IsStreamOf}
use Rattle.vortex_scan.specs.Core.declared.settings.ScanSettings.{ScanSettings}
use Rattle.vortex_scan.specs.Collect.Laws.{ReadsGiveTheFirstRows}
use Rattle.vortex_scan.specs.Collect.Reads.{IsFresh, IsReadOf, values_given}
use Rattle.vortex_scan.specs.Collect.Rows.{GivesFirst}
use Rattle.vortex_scan.specs.Values.Arrays.{ArrayData}
use Rattle.uses.specs.Matches.{at_rows, first_settings, matches, range_settings}

pub all_pass : (xs : List ℕ) → filter (λ i. true) xs ≡ xs
all_pass [] = refl
all_pass (x ∷ xs) = ap (λ ys. x ∷ ys) (all_pass xs)

-- an idle source has the live requests of a stream of which nothing was read
pub live_as : {M : Type 0} (s : ScanData M) (r : Option (Range ℕ)) (t : StreamData M) (live : ℕ → Bool) → IsStreamOf s r t → live ≡ none_live → LiveAs live (t.feed).live
live_as s r t live is h = λ id. ap (λ (f : ℕ → Bool). f id) h ∙ ap (λ (f : FeedData). is_among f.live id) (sym (is.stream).feed)

-- ---- the rows at which a filter is true
module _ {R M : Type 0} (law : ReadsGiveTheFirstRows R M) (state : R → ReaderState) (old : R) (e : Bound) (o : Option Bound) (most : ℕ) (over : IsOver (state old).dtype e) (passing : IfSome o (IsFilter (state old).dtype)) where
  -- what is read of a stream of the scan of the first of them
  pub first_of_matches : (step : M) (s : ScanData M) (t : StreamData M) (store : Store) (arrays : List ArrayData)
      → IsPrepared (state old) (builder_by old (first_settings e o most step)) s → IsScan s → IsStreamOf s None t → HasRoom (t.feed).seat (reach (t.feed).splits)
      → (IsFresh store t.feed → IsReadOf store t.feed (values_given arrays)) → values_given arrays ≡ take most (matches (state old) e o store)
  first_of_matches step s t store arrays prepared stands is room read =
      let b : BuilderData R M = builder_by old (first_settings e o most step) in
      let value = value_of (numbered_state 0 (state old)) e store in
      let passed = passes (numbered_state 0 (state old)) (conjuncts_in o) store in
      let given = law (state old) b s None t store arrays (record { over = over; passes = passing; splits = tt }) tt prepared stands refl is room read in
      given.values
      ∙ ap (map value) given.first
      ∙ sym (take-map value most (filter passed (filter (λ i. true) (numbers 0 (state old).rows))))
      ∙ ap (λ (is : List ℕ). take most (map value (filter passed is))) (all_pass (numbers 0 (state old).rows))

  -- the same of a call's answer
  pub first_read : {V F : Type 0} (step : M) (s : ScanData M) (t : StreamData M) (holds : Option Store) (arrays : V → List ArrayData) (result : Result V F)
      → IsPrepared (state old) (builder_by old (first_settings e o most step)) s → IsScan s → IsStreamOf s None t → HasRoom (t.feed).seat (reach (t.feed).splits)
      → IfOk result (λ v. (store : Store) → holds ≡ Some store → IsFresh store t.feed → IsReadOf store t.feed (values_given (arrays v)))
      → IfOk result (λ v. (store : Store) → holds ≡ Some store → values_given (arrays v) ≡ take most (matches (state old) e o store))
  first_read step s t holds arrays (Ok v) prepared stands is room h = λ store told. first_of_matches step s t store (arrays v) prepared stands is room (h store told)
  first_read step s t holds arrays (Err f) prepared stands is room h = tt

  -- the same of an iterator over a source of its own
  pub iter_read : {S V F : Type 0} (step : M) (s : ScanData M) (i : IterData M S) (source : S → SourceState) (own : S) (arrays : V → List ArrayData) (result : Result V F)
      → IsPrepared (state old) (builder_by old (first_settings e o most step)) s → IsScan s → IsIterOf s None own i → HasRoom ((i.stream).feed).seat (reach ((i.stream).feed).splits)
      → IfOk result (λ v. (store : Store) → (source i.source).holds ≡ Some store → IsFresh store (i.stream).feed → IsReadOf store (i.stream).feed (values_given (arrays v)))
      → IfOk result (λ v. (store : Store) → (source own).holds ≡ Some store → values_given (arrays v) ≡ take most (matches (state old) e o store))
  iter_read {S} step s i source own arrays result prepared stands is room h =
      let P : S → Type 0 = λ x. IfOk result (λ v. (store : Store) → (source x).holds ≡ Some store → values_given (arrays v) ≡ take most (matches (state old) e o store)) in
      subst P is.1 (first_read step s i.stream (source i.source).holds arrays result prepared stands is.0 room h)

-- the settings' scan
pub scan_prepared : {R M F : Type 0} (state : R → ReaderState) (old lent : R) (e : Bound) (o : Option Bound) (most : ℕ) (step : M) (settings : ScanSettings M) (result : Result (ScanData M) F)
    → lent ≡ old → settings ≡ first_settings e o most step
    → IfOk result (λ s. IsPrepared (state lent) (builder_by lent settings) s) → IfOk result (λ s. (m : M) × IsPrepared (state old) (builder_by old (first_settings e o most m)) s)
scan_prepared {R} {M} state old lent e o most step settings (Ok s) here is h =
    let P : R × ScanSettings M → Type 0 = λ z. IsPrepared (state z.0) (builder_by z.0 z.1) s in
    (step, subst P (λ i. (here i, is i)) h)
scan_prepared state old lent e o most step settings (Err f) here is h = tt

-- ---- the rows of a range
or_left : (a b : Bool) → (a || b) ≡ false → a ≡ false
or_left false b h = refl
or_left true b h = absurd cc

or_right : (a b : Bool) → (a || b) ≡ false → b ≡ false
or_right false b h = h
or_right true b h = absurd cc

-- it is in order, and lies within so many rows
pub range_within : (r : Range ℕ) (n : ℕ) → is_past (Some r) n ≡ false → (r.start ≤ r.end) × (r.end ≤ n)
range_within r n h =
    let low = or_left (nat_lt r.end r.start) (nat_lt n r.end) h in
    let high = or_right (nat_lt r.end r.start) (nat_lt n r.end) h in
    (grind (arith, nat_tests, low), grind (arith, nat_tests, high))

-- nothing is wrong with the settings of a scan of it
pub range_right : {R M : Type 0} (old : R) (e : Bound) (r : Range ℕ) (step : M) (settings : ScanSettings M) (n : ℕ) → settings ≡ range_settings e r step → is_past (Some r) n ≡ false → n < 2 ^ 64
    → setup_fault (builder_by old settings) n ≡ None
range_right {R} {M} old e r step settings n is within small =
    let low : nat_le (2 ^ 64) (0 + n) ≡ false = grind (arith, nat_tests, small) in
    let right : setup_fault (builder_by old (range_settings e r step)) n ≡ None = rw (within, low) refl in
    subst (λ (s : ScanSettings M). setup_fault (builder_by old s) n ≡ None) (sym is) right

module _ {R M : Type 0} (law : SplitsGiveWhatIsAsked R M) (state : R → ReaderState) (old : R) (e : Bound) (r : Range ℕ) (over : IsOver (state old).dtype e) (within : is_past (Some r) (state old).rows ≡ false) where
  -- what a scan of them is asked for
  asked_in_range : (step : M) (store : Store) → asked_values (state old) (builder_by old (range_settings e r step)) None store ≡ at_rows (state old) e store (numbers r.start r.end)
  asked_in_range step store =
      let value = value_of (numbered_state 0 (state old)) e store in
      let high = (range_within r (state old).rows within).1 in
      let end : min r.end (state old).rows ≡ r.end = omega (arith, high) in
      ap (map value) (all_pass (filter (λ i. true) (numbers r.start (min r.end (state old).rows))) ∙ all_pass (numbers r.start (min r.end (state old).rows)))
      ∙ ap (λ (n : ℕ). map value (numbers r.start n)) end

  range_given : (step : M) (s : ScanData M) (store : Store) (values : List Marked) → IsPrepared (state old) (builder_by old (range_settings e r step)) s → IsScan s
      → GivesFirst s.ordered s.limit (values_of (splits_of s None) store) values → IsPermutation (at_rows (state old) e store (numbers r.start r.end)) values
  range_given step s store values prepared stands h =
      let b : BuilderData R M = builder_by old (range_settings e r step) in
      let asked = law (state old) b s None (record { over = over; passes = tt; splits = tt }) tt prepared stands refl store ∙ asked_in_range step store in
      let P : Bool × Option ℕ × List Marked → Type 0 = λ z. GivesFirst z.0 z.1 z.2 values in
      let given : GivesFirst false None (at_rows (state old) e store (numbers r.start r.end)) values = subst P (λ i. (prepared.ordered i, prepared.limit i, asked i)) h in
      subst (IsPermutation (at_rows (state old) e store (numbers r.start r.end))) (sym given.2) given.1

  pub range_read : {V F : Type 0} (step : M) (settings : ScanSettings M) (s : ScanData M) (holds : Option Store) (arrays : V → List ArrayData) (result : Result V F) → settings ≡ range_settings e r step
      → IsPrepared (state old) (builder_by old settings) s → IsScan s
      → IfOk result (λ v. (store : Store) → holds ≡ Some store → GivesFirst s.ordered s.limit (values_of (splits_of s None) store) (values_given (arrays v)))
      → IfOk result (λ v. (store : Store) → holds ≡ Some store → IsPermutation (at_rows (state old) e store (numbers r.start r.end)) (values_given (arrays v)))
  range_read step settings s holds arrays (Ok v) is prepared stands h = λ store told.
      range_given step s store (values_given (arrays v)) (subst (λ (z : ScanSettings M). IsPrepared (state old) (builder_by old z) s) is prepared) stands (h store told)
  range_read step settings s holds arrays (Err f) is prepared stands h = tt

-- of a call's answer
pub within_read : {V F : Type 0} (r : Range ℕ) (n : ℕ) (result : Result V F) → is_past (Some r) n ≡ false → IfOk result (λ v. (r.start ≤ r.end) × (r.end ≤ n))
within_read r n (Ok v) h = range_within r n h
within_read r n (Err f) h = tt
