-- The parts of a scan of one reader.
use Rattle.std.specs.Prelude.{◌≡◌, ◌-◌, ℕ, Bool, true, false, Option, Some, None, option_map, Result, Ok, Err, refl}
use Rattle.std.specs.Coded.{Coded, code_by, coded×, coded_option, coded_ℕ}
use Rattle.std.specs.declared.ops.Range.{Range}
use Rattle.scan_values.specs.Selections.{row_count}
use Rattle.scan_values.specs.declared.memory.NoMemory.{NoMemory}
use Rattle.scan_limit.specs.Seats.{SeatState, seat_state_code, seat_with, after_split}
use Rattle.scan_streams.specs.Grants.{HasRoom}
use Rattle.scan_streams.specs.Plans.{has_filter}
use Rattle.scan_streams.specs.Streams.{StreamData}
use Rattle.scan_core.specs.RowRanges.{IsRange}
use Rattle.scan_core.specs.ScanCode.{range_code, scan_code}
use Rattle.scan_core.specs.ScanData.{ScanData, IsScan}
use Rattle.scan_core.specs.Streaming.{IsStreamOf, IsStreamWith}
use Rattle.scan_sources.specs.Requests.{cut_by}
use Rattle.scan_sources.specs.declared.precision.Precision.{Precision}
use Rattle.scan_sources.specs.declared.precision.Precision.TheVariants.{Exact, Inexact}

-- the scan of a part, its rows, the limit that it got, and its seat of a limit that it shares with others
pub record ReaderSplit (M : Type 0) : Type 0 where
  pub scan : ScanData M
  pub range : Range ℕ
  pub limit : Option ℕ
  pub seat : Option SeatState

abbrev pub reader_split : {M : Type 0} → ScanData M → Range ℕ → Option ℕ → Option SeatState → ReaderSplit M
reader_split s r l t = record { scan = s; range = r; limit = l; seat = t }

abbrev pub split_code : {M : Type 0} → Coded M → Coded (ReaderSplit M)
split_code {M} m =
    code_by (ScanData M × (Range ℕ × (Option ℕ × Option SeatState)))
    (coded× (scan_code m) (coded× range_code (coded× (coded_option coded_ℕ) (coded_option seat_state_code))))
    (λ p. (p.scan, (p.range, (p.limit, p.seat))))
    (λ p. reader_split p.0 p.1.0 p.1.1.0 p.1.1.1)
    (λ _. refl)

-- the limit that a part has for itself: all of it, unless it is shared
abbrev pub own_limit : Option SeatState → Option ℕ → Option ℕ
own_limit None limit = limit
own_limit (Some s) limit = None

-- the rows lie within those of the scan, which has the part's own limit, and the seat has room for them
pub record IsSplit {M : Type 0} (p : ReaderSplit M) : Type 0 where
  pub rows : IsRange p.scan.rows p.range
  pub limit : p.scan.limit ≡ own_limit p.seat p.limit
  pub room : HasRoom p.seat (p.range.end - p.range.start)
  pub scan : IsScan p.scan

-- a number of rows, which a filter may lessen
abbrev pub estimate : Bool → ℕ → Precision ℕ
estimate true n = Inexact n
estimate false n = Exact n

-- of the selected rows of a part as many as its limit
abbrev pub selected_count : {M : Type 0} → ReaderSplit M → ℕ
selected_count p = cut_by p.limit (row_count p.scan.selection p.range)

-- so many; exactly so where there is no filter
abbrev pub split_count : {M : Type 0} → ReaderSplit M → Precision ℕ
split_count p = estimate (has_filter p.scan.plans) (selected_count p)

-- a stream of the rows of a part, of which nothing has been read: with its own limit, or with its seat of a shared one
abbrev pub IsStreamBy : {M : Type 0} → ScanData M → Range ℕ → Option SeatState → StreamData M → Type 0
IsStreamBy s r None t = IsStreamOf s (Some r) t
IsStreamBy s r (Some seat) t = IsStreamWith s (Some r) (Some seat) t

abbrev pub IsStreamOfSplit : {M : Type 0} → ReaderSplit M → StreamData M → Type 0
IsStreamOfSplit p t = IsStreamBy p.scan p.range p.seat t

-- ---- a limit that is shared
-- a seat with so much room of the limit of another seat, and that other seat without it
abbrev pub part_of : ℕ → Option SeatState → Option SeatState
part_of room = option_map (λ s. seat_with s.budget room)

abbrev pub rest_of : ℕ → Option SeatState → Option SeatState
rest_of room = option_map (after_split room)

-- room of a seat goes to a new one, where there is a seat; after want of memory nothing is changed
abbrev pub PartsWith : ℕ → Option SeatState → Option SeatState → Result (Option SeatState) NoMemory → Type 0
PartsWith room old new (Ok part) = (part ≡ part_of room old) × (new ≡ rest_of room old)
PartsWith room old new (Err f) = new ≡ old

-- the same of a seat that is there
abbrev pub Parts : ℕ → SeatState → SeatState → Result SeatState NoMemory → Type 0
Parts room old new (Ok part) = (part ≡ seat_with old.budget room) × (new ≡ after_split room old)
Parts room old new (Err f) = new ≡ old
