-- Partitions of scans of many files.
use Rattle.std.specs.Prelude.{◌≡◌, ◌||◌, ◌-◌, ℕ, [], Option, Some, None, is_some, Result, Ok, Err, refl}
use Rattle.std.specs.Coded.{Coded, code_by, coded×, coded_ℕ, coded_option}
use Rattle.std.specs.declared.ops.Range.{Range}
use Rattle.scan_values.specs.declared.memory.NoMemory.{NoMemory}
use Rattle.scan_limit.specs.Seats.{SeatState}
use Rattle.scan_layout.specs.Layout.{Layout, rows_of}
use Rattle.scan_readers.specs.LeafPlans.{layout_state}
use Rattle.scan_streams.specs.Plans.{has_filter}
use Rattle.scan_core.specs.BuilderData.{range_or_all}
use Rattle.scan_sources.specs.Plain.{Plain, plain_code}
use Rattle.scan_sources.specs.Requests.{IsScanOfRequest}
use Rattle.scan_sources.specs.Splits.{ReaderSplit, estimate, own_limit, part_of, rest_of, selected_count, split_code}
use Rattle.scan_sources.specs.declared.precision.Precision.{Precision}
use Rattle.scan_sources.specs.declared.precision.Precision.TheVariants.{Exact, Absent}
use Rattle.scan_sources.specs.declared.request.BoundScanRequest.{BoundScanRequest}

-- the part of a file that is all of it that is asked for, its number, its place, and the number of bytes that was handed in
pub record PartitionData : Type 0 where
  pub split : ReaderSplit Plain
  pub index : ℕ
  pub child : ℕ
  pub bytes : Option ℕ

-- a partition by its fields
abbrev pub partition_data : ReaderSplit Plain → ℕ → ℕ → Option ℕ → PartitionData
partition_data p n k b = record { split = p; index = n; child = k; bytes = b }

-- partitions can be told from one another by numbers
abbrev pub partition_code : Coded PartitionData
partition_code =
    code_by (ReaderSplit Plain × (ℕ × (ℕ × Option ℕ)))
    (coded× (split_code plain_code) (coded× coded_ℕ (coded× coded_ℕ (coded_option coded_ℕ))))
    (λ p. (p.split, (p.index, (p.child, p.bytes))))
    (λ p. partition_data p.0 p.1.0 p.1.1.0 p.1.1.1)
    (λ _. refl)

-- of its selected rows as many as its limit; exact where there is neither a filter nor a shared limit
abbrev pub partition_rows : PartitionData → Precision ℕ
partition_rows p = estimate (has_filter p.split.scan.plans || is_some p.split.seat) (selected_count p.split)

-- a number of bytes, where it was handed in
abbrev pub bytes_known : Option ℕ → Precision ℕ
bytes_known None = Absent
bytes_known (Some n) = Exact n

-- ---- what is asked of a file
-- the rows of a request's range in a layout
abbrev pub part_rows : BoundScanRequest → Layout → Range ℕ
part_rows q l = range_or_all q.row_range (rows_of l)

-- how many rows these are
abbrev pub part_size : BoundScanRequest → Layout → ℕ
part_size q l = (part_rows q l).end - (part_rows q l).start

-- the part of a file of a layout that a request asks for
pub record IsPart (q : BoundScanRequest) (l : Layout) (shared : Option SeatState) (p : ReaderSplit Plain) : Type 0 where
  -- the request's scan of the layout's rows, but for the limit
  pub scan : IsScanOfRequest (layout_state [] l) q (record p.scan { limit = None })
  pub filtered : has_filter p.scan.plans ≡ is_some q.filter
  -- the request's range, or all
  pub range : p.range ≡ part_rows q l
  -- all of the limit, or a seat of the shared one
  pub limit : p.limit ≡ q.limit
  pub own : p.scan.limit ≡ own_limit p.seat p.limit
  pub seat : p.seat ≡ part_of (part_size q l) shared

-- it is made, and room of the seat goes to it; after want of memory nothing is changed
abbrev pub MakesPart : BoundScanRequest → Layout → Option SeatState → Option SeatState → Result (ReaderSplit Plain) NoMemory → Type 0
MakesPart q l old new (Ok p) = IsPart q l old p × (new ≡ rest_of (part_size q l) old)
MakesPart q l old new (Err f) = new ≡ old
