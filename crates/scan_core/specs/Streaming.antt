-- The streams of a scan.
use Rattle.std.specs.Prelude.{◌≡◌, ◌-◌, ◌==◌, ℕ, nat_le, Bool, true, false, not, List, [], ◌∷◌, length, map, min, take, if◌then◌else◌, Option, Some, None}
use Rattle.std.specs.List.{flat_map}
use Rattle.std.specs.declared.ops.Range.{Range}
use Rattle.scan_values.specs.DataType.{DataType}
use Rattle.scan_values.specs.Marked.{Marked}
use Rattle.scan_values.specs.Selections.{row_count}
use Rattle.scan_values.specs.declared.selection.Selection.{Selection}
use Rattle.scan_segments.specs.Source.{Store}
use Rattle.scan_expr.specs.Infer.{infer}
use Rattle.scan_limit.specs.Budget.{most}
use Rattle.scan_limit.specs.Seats.{SeatState, seat_with}
use Rattle.scan_plans.specs.Futures.{FutureData, items_of}
use Rattle.scan_streams.specs.Feeds.{FeedData, new_feed}
use Rattle.scan_streams.specs.Plans.{has_filter}
use Rattle.scan_streams.specs.Queues.{queued}
use Rattle.scan_streams.specs.Splits.{new_split}
use Rattle.scan_streams.specs.Streams.{StreamData}
use Rattle.scan_streams.specs.declared.queue.SplitRows.{SplitRows}
use Rattle.scan_core.specs.Given.{values_of}
use Rattle.scan_core.specs.RowRanges.{narrowed}
use Rattle.scan_core.specs.ScanData.{ScanData, scan_ranges, splits_of}

-- the rows of a split: all that are selected of a range, or so many of them
abbrev pub split_rows : Range ℕ → Option ℕ → SplitRows
split_rows r n = record { range = r; most = n }

-- a limit on the rows of a split, where it has more
abbrev pub cut_to : ℕ → ℕ → Option ℕ
cut_to n count = if nat_le count n then None else Some n

-- splits of all rows that are selected of ranges
abbrev pub all_rows : List (Range ℕ) → List SplitRows
all_rows rs = map (λ r. split_rows r None) rs

-- splits of the first so many of them: once these are all, there is no further split
abbrev pub first_rows : Selection → ℕ → List (Range ℕ) → List SplitRows
first_rows s n [] = []
first_rows s n (r ∷ rs) = if n == 0 then [] else split_rows r (cut_to n (row_count s r)) ∷ first_rows s (n - row_count s r) rs

abbrev pub rows_within : Selection → Option ℕ → List (Range ℕ) → List SplitRows
rows_within s None rs = all_rows rs
rows_within s (Some n) rs = first_rows s n rs

-- a limit that holds where a test has this answer
abbrev pub limit_if : Bool → Option ℕ → Option ℕ
limit_if true limit = limit
limit_if false limit = None

-- without a filter the limit is taken before anything is read, with one as arrays come
abbrev pub limit_before : {M : Type 0} → ScanData M → Option ℕ
limit_before s = limit_if (not (has_filter s.plans)) s.limit

abbrev pub limit_after : {M : Type 0} → ScanData M → Option ℕ
limit_after s = limit_if (has_filter s.plans) s.limit

-- the splits of a stream within a further range
abbrev pub streamed : {M : Type 0} → ScanData M → Option (Range ℕ) → List FutureData
streamed s r = queued s.plans s.selection (rows_within s.selection (limit_before s) (map (narrowed s.selection) (scan_ranges s r)))

abbrev pub scan_dtype : {M : Type 0} → ScanData M → DataType
scan_dtype s = infer (((s.plans).projection).expr).scope (((s.plans).projection).expr).expr

-- a seat of a limit of its own, of which nothing is claimed; none without a limit
abbrev pub IsOwnSeat : Option ℕ → Option SeatState → Type 0
IsOwnSeat None seat = seat ≡ None
IsOwnSeat (Some n) seat = (t : SeatState) × (seat ≡ Some (seat_with t.budget most)) × (t.budget.limit ≡ n)

-- a stream of a scan, of which nothing has been read, with a seat
pub record IsStreamWith {M : Type 0} (s : ScanData M) (r : Option (Range ℕ)) (seat : Option SeatState) (t : StreamData M) : Type 0 where
  pub feed : t.feed ≡ new_feed (scan_dtype s) s.ordered (min s.concurrency (length (streamed s r))) (map new_split (streamed s r)) seat
  pub step : t.step ≡ s.step

-- the same with the whole of the scan's own limit
pub record IsStreamOf {M : Type 0} (s : ScanData M) (r : Option (Range ℕ)) (t : StreamData M) : Type 0 where
  pub seat : IsOwnSeat (limit_after s) (t.feed).seat
  pub stream : IsStreamWith s r (t.feed).seat t

-- the values that futures give, one after the other
abbrev pub values_in : List FutureData → Store → List Marked
values_in fs store = flat_map (λ f. items_of f store) fs

-- the first so many, or all
abbrev pub first_of : Option ℕ → List Marked → List Marked
first_of None vs = vs
first_of (Some n) vs = take n vs

-- ---- the law
-- the splits of a stream give what all splits of the scan give, or without a filter the first of it, as many as its limit
abbrev pub StreamsGiveTheFirstRows : Type 0 → Type 0
StreamsGiveTheFirstRows M = (s : ScanData M) (r : Option (Range ℕ)) (store : Store)
    → values_in (streamed s r) store ≡ first_of (limit_before s) (values_of (splits_of s r) store)
