-- Scans of one reader in parts.
use Rattle.std.specs.Prelude.{◌≡◌, ◌≢◌, ◌≤◌, ◌<◌, ◌+◌, ◌-◌, ◌==◌, ◌||◌, ℕ, min, nat_le, Bool, true, false, if◌then◌else◌, Option, Some, None, option_map, is_some, Result, Ok, Err, refl}
use Rattle.std.specs.Coded.{Coded, code_by, coded×, coded_option, coded_ℕ}
use Rattle.std.specs.Int.{div_ceil}
use Rattle.std.specs.declared.ops.Range.{Range}
use Rattle.scan_values.specs.Selections.{row_count}
use Rattle.scan_values.specs.declared.memory.NoMemory.{NoMemory}
use Rattle.scan_expr.specs.declared.request.ScanRequest.{ScanRequest}
use Rattle.scan_segments.specs.Source.{Store}
use Rattle.scan_limit.specs.Seats.{SeatState, seat_state_code}
use Rattle.scan_readers.specs.Readers.{ReaderState}
use Rattle.scan_streams.specs.Grants.{HasRoom}
use Rattle.scan_streams.specs.Plans.{has_filter}
use Rattle.scan_core.specs.BuilderData.{IsBuilder, range_or_all}
use Rattle.scan_core.specs.Given.{Rises, asked_values}
use Rattle.scan_core.specs.RowRanges.{is_past}
use Rattle.scan_core.specs.ScanCode.{scan_code}
use Rattle.scan_core.specs.ScanData.{ScanData, IsScan}
use Rattle.scan_core.specs.SplitRanges.{rows}
use Rattle.scan_core.specs.Streaming.{IsOwnSeat, first_of, limit_before, streamed, values_in}
use Rattle.scan_sources.specs.Faults as fault
use Rattle.scan_sources.specs.Requests.{IsScanOfRequest, builder_of, shared_limit}
use Rattle.scan_sources.specs.Splits.{ReaderSplit, reader_split, own_limit, part_of, rest_of}
use Rattle.scan_sources.specs.declared.fault.SourceFault.{SourceFault}
use Rattle.scan_sources.specs.declared.fault.SourceFault.TheVariants as fault_is
use Rattle.scan_sources.specs.declared.precision.Precision.{Precision}
use Rattle.scan_sources.specs.declared.precision.Precision.TheVariants.{Exact, Inexact}
use Rattle.scan_sources.specs.declared.request.BoundScanRequest.{BoundScanRequest}

-- a reader, and how many rows a part of a scan has at most
pub record SourceData (R : Type 0) : Type 0 where
  pub reader : R
  pub size : ℕ

abbrev pub source_data : {R : Type 0} → R → ℕ → SourceData R
source_data r n = record { reader = r; size = n }

abbrev pub source_code : {R : Type 0} → Coded R → Coded (SourceData R)
source_code {R} r = code_by (R × ℕ) (coded× r coded_ℕ) (λ s. (s.reader, s.size)) (λ p. source_data p.0 p.1) (λ _. refl)

-- after a refusal for another cause than want of memory the source is as before
abbrev pub LeavesSame : {R T : Type 0} → SourceData R → SourceData R → Result T SourceFault → Type 0
LeavesSame old new (Ok x) = Unit {0}
LeavesSame old new (Err f) = f ≢ fault_is.NoMemory → new ≡ old

-- the scan of all parts, without a limit; the first row that is in no part yet, the end of the rows, and how many a part
-- has; how many rows may be given beside those of earlier parts; and the seat of a limit that the parts share
pub record ReaderScan (M : Type 0) : Type 0 where
  pub scan : ScanData M
  pub next : ℕ
  pub end : ℕ
  pub size : ℕ
  pub left : Option ℕ
  pub seat : Option SeatState

abbrev pub reader_scan : {M : Type 0} → ScanData M → ℕ → ℕ → ℕ → Option ℕ → Option SeatState → ReaderScan M
reader_scan s n e k l t = record { scan = s; next = n; end = e; size = k; left = l; seat = t }

abbrev pub reader_scan_code : {M : Type 0} → Coded M → Coded (ReaderScan M)
reader_scan_code {M} m =
    code_by (ScanData M × ((ℕ × (ℕ × ℕ)) × (Option ℕ × Option SeatState)))
    (coded× (scan_code m) (coded× (coded× coded_ℕ (coded× coded_ℕ coded_ℕ)) (coded× (coded_option coded_ℕ) (coded_option seat_state_code))))
    (λ s. (s.scan, ((s.next, (s.end, s.size)), (s.left, s.seat))))
    (λ p. reader_scan p.0 p.1.0.0 p.1.0.1.0 p.1.0.1.1 p.1.1.0 p.1.1.1)
    (λ _. refl)

-- the rows end within the scan's, a part has some, and the seat has room for all that are left
pub record IsReaderScan {M : Type 0} (s : ReaderScan M) : Type 0 where
  pub rows : s.end ≤ s.scan.rows
  pub size : 0 < s.size
  pub room : HasRoom s.seat (s.end - s.next)
  pub scan : IsScan s.scan

-- nothing is left of a limit
abbrev pub is_used : Option ℕ → Bool
is_used None = false
is_used (Some n) = n == 0

-- no row is left, or nothing of the limit
abbrev pub is_over : {M : Type 0} → ReaderScan M → Bool
is_over s = nat_le s.end s.next || is_used s.left

-- the rows of the next part: as many as a part has, or all that are left
abbrev pub next_range : {M : Type 0} → ReaderScan M → Range ℕ
next_range s = rows s.next (min (s.next + s.size) s.end)

abbrev pub next_size : {M : Type 0} → ReaderScan M → ℕ
next_size s = (next_range s).end - (next_range s).start

-- without a filter the limit is lessened by the selected rows of each part
abbrev pub lessened : Bool → Option ℕ → ℕ → Option ℕ
lessened true left n = left
lessened false left n = option_map (λ l. l - n) left

abbrev pub left_after : {M : Type 0} → ReaderScan M → Option ℕ
left_after s = lessened (has_filter s.scan.plans) s.left (row_count s.scan.selection (next_range s))

-- the next part: it gets what is left of the limit, or shares it
abbrev pub next_split : {M : Type 0} → ReaderScan M → ReaderSplit M
next_split s = reader_split (record s.scan { limit = own_limit s.seat s.left }) (next_range s) s.left (part_of (next_size s) s.seat)

-- the scan once it was given
abbrev pub after_split : {M : Type 0} → ReaderScan M → ReaderScan M
after_split s = record s { next = (next_range s).end; left = left_after s; seat = rest_of (next_size s) s.seat }

-- the next part is given, unless the scan is over; after want of memory nothing is changed
abbrev pub GivesPart : {M : Type 0} → ReaderScan M → ReaderScan M → Result (Option (ReaderSplit M)) NoMemory → Type 0
GivesPart old new (Ok None) = (is_over old ≡ true) × (new ≡ old)
GivesPart old new (Ok (Some p)) = (is_over old ≡ false) × (p ≡ next_split old) × (new ≡ after_split old)
GivesPart old new (Err f) = new ≡ old

-- how many parts are left: none once it is over, else about as many as the rows that are left make
abbrev pub parts_left : {M : Type 0} → ReaderScan M → Precision ℕ
parts_left s = if is_over s then Exact 0 else Inexact (div_ceil (s.end - s.next) s.size)

-- a scan in parts of a request over a reader's rows, of which no part was given
pub record StartsScan {M : Type 0} (state : ReaderState) (n : ℕ) (q : BoundScanRequest) (s : ReaderScan M) : Type 0 where
  pub scan : IsScanOfRequest state q s.scan
  pub filtered : has_filter s.scan.plans ≡ is_some q.filter
  pub next : s.next ≡ (range_or_all q.row_range state.rows).start
  pub end : s.end ≡ (range_or_all q.row_range state.rows).end
  pub size : s.size ≡ n
  pub left : s.left ≡ q.limit
  pub seat : IsOwnSeat (shared_limit q) s.seat

-- what is wrong with a request, by numbers and then by its expressions
abbrev pub source_refusal : ReaderState → ℕ → ScanRequest → Option SourceFault
source_refusal state size r =
    fault.first_of (fault.number_refusal size r.row_range state.rows) (fault.bind_refusal state.dtype r.projection r.filter)

-- ---- the law
-- a part of a scan gives the values of the request's projection at the selected rows of the request's range and the
-- part's at which the filter is true; without a filter the first of them, as many as the limit
abbrev pub PartsGiveTheirRows : Type 0 → Type 0
PartsGiveTheirRows M =
    (state : ReaderState) (q : BoundScanRequest) (s : ScanData M) (r : Range ℕ) (limit : Option ℕ)
    → IsBuilder state q.projection q.filter None → Rises q.selection → IsScanOfRequest state q s → IsScan s → is_past (Some r) state.rows ≡ false
    → (store : Store) → values_in (streamed (record s { limit = limit }) (Some r)) store ≡ first_of
    (limit_before (record s { limit = limit })) (asked_values state (builder_of q s.step) (Some r) store)
