-- Scans of many files.
use Rattle.std.specs.Prelude.{◌≡◌, ◌≤◌, ◌<◌, ◌+◌, ◌-◌, ◌==◌, ◌&&◌, ◌||◌, not, ℕ, nat_lt, Bool, true, false, if◌then◌else◌, List, [], ◌∷◌, ◌++◌, length, Option, Some, None, Result, Ok, Err, refl}
use Rattle.std.specs.Coded.{Coded, code_by, coded×, coded_bool, coded_list, coded_option, coded_ℕ}
use Rattle.std.specs.List.{list_any, remove, slice_get, slice_set}
use Rattle.std.specs.declared.ops.Range.{Range}
use Rattle.scan_values.specs.declared.memory.NoMemory.{NoMemory}
use Rattle.scan_values.specs.declared.selection.Selection.{Selection}
use Rattle.scan_expr.specs.Bound.{Bound, bound_code}
use Rattle.scan_limit.specs.Seats.{SeatState, seat_state_code}
use Rattle.scan_layout.specs.Layout.{Layout, rows_of}
use Rattle.scan_opener.specs.Opener.{OpenerState}
use Rattle.scan_opener.specs.declared.opener.Opening.{Opening}
use Rattle.scan_streams.specs.Grants.{HasRoom}
use Rattle.scan_core.specs.ScanCode.{range_code, selection_code}
use Rattle.scan_sources.specs.Requests.{IsBoundOver}
use Rattle.scan_sources.specs.Splits.{rest_of}
use Rattle.scan_sources.specs.declared.precision.Precision.{Precision}
use Rattle.scan_sources.specs.declared.precision.Precision.TheVariants.{Exact, Inexact}
use Rattle.scan_sources.specs.declared.request.BoundScanRequest.{BoundScanRequest}
use Rattle.scan_multi_sources.specs.Children.{bytes_in}
use Rattle.scan_multi_sources.specs.FileFaults.{file_fault, is_reversed, is_too_many, many_fault, rows_after}
use Rattle.scan_multi_sources.specs.Files.{SlotData, StageData, is_failed, keeps_failure, slot_code, slot_data}
use Rattle.scan_multi_sources.specs.Files as file
use Rattle.scan_multi_sources.specs.Numbers.{is_given}
use Rattle.scan_multi_sources.specs.Opens as asks
use Rattle.scan_multi_sources.specs.Opens.{Found, found_of}
use Rattle.scan_multi_sources.specs.Partitions.{IsPart, PartitionData, part_size}
use Rattle.scan_multi_sources.specs.Sources.{AsksSource, MultiData, multi_code}
use Rattle.scan_multi_sources.specs.declared.fault.MultiFault.{MultiFault}
use Rattle.scan_multi_sources.specs.declared.fault.MultiFault.TheVariants as fault
use Rattle.scan_multi_sources.specs.declared.numbers.PartitionNumbers.{PartitionNumbers}

-- A scan of many files, as contracts see it.
pub record MultiScan (O : Type 0) : Type 0 where
  -- the source with its files
  pub source : MultiData O
  -- what is asked of each, and which of them are given by their numbers
  pub request : BoundScanRequest
  pub numbers : PartitionNumbers
  -- the files that were begun, and the places of those that were not, each in the order in which they are to come
  pub window : List SlotData
  pub waiting : List ℕ
  -- the seat of a limit that partitions share, and the rows of the layouts of those given, which it counts
  pub seat : Option SeatState
  pub given_rows : ℕ
  -- how many files and faults were delivered
  pub delivered : ℕ

-- what is asked, as a tuple
abbrev pub Asked : Type 0
Asked = (Bound × (Option Bound × Option (Range ℕ))) × (Selection × (Bool × Option ℕ))

-- requests can be told from one another by numbers
abbrev pub request_code : Coded BoundScanRequest
request_code =
    code_by Asked
    (coded× (coded× bound_code (coded× (coded_option bound_code) (coded_option range_code))) (coded× selection_code (coded× coded_bool (coded_option coded_ℕ))))
    (λ q. ((q.projection, (q.filter, q.row_range)), (q.selection, (q.ordered, q.limit))))
    (λ p. record { projection = p.0.0; filter = p.0.1.0; row_range = p.0.1.1; selection = p.1.0; ordered = p.1.1.0; limit = p.1.1.1 })
    (λ _. refl)

-- restrictions likewise
abbrev pub numbers_code : Coded PartitionNumbers
numbers_code = code_by (Option (Range ℕ) × Selection) (coded× (coded_option range_code) selection_code)
    (λ n. (n.range, n.selection)) (λ p. record { range = p.0; selection = p.1 }) (λ _. refl)

-- a scan by its fields
abbrev pub multi_scan : {O : Type 0} → MultiData O → BoundScanRequest → PartitionNumbers → List SlotData → List ℕ → Option SeatState → ℕ → ℕ → MultiScan O
multi_scan s q n w ps t g d = record { source = s; request = q; numbers = n; window = w; waiting = ps; seat = t; given_rows = g; delivered = d }

-- scans can be told from one another by numbers
abbrev pub multi_scan_code : {O : Type 0} → Coded O → Coded (MultiScan O)
multi_scan_code {O} o =
    code_by ((MultiData O × (BoundScanRequest × PartitionNumbers)) × ((List SlotData × List ℕ) × (Option SeatState × (ℕ × ℕ))))
    (coded× (coded× (multi_code o) (coded× request_code numbers_code))
    (coded× (coded× (coded_list slot_code) (coded_list coded_ℕ))
    (coded× (coded_option seat_state_code) (coded× coded_ℕ coded_ℕ))))
    (λ s. ((s.source, (s.request, s.numbers)), ((s.window, s.waiting), (s.seat, (s.given_rows, s.delivered)))))
    (λ p. multi_scan p.0.0 p.0.1.0 p.0.1.1 p.1.0.0 p.1.0.1 p.1.1.0 p.1.1.1.0 p.1.1.1.1)
    (λ _. refl)

-- a failure is kept in an ordered scan alone
abbrev pub KeepsInOrder : Bool → List SlotData → Type 0
KeepsInOrder true ws = Unit {0}
KeepsInOrder false ws = (k : ℕ) → list_any (keeps_failure k) ws ≡ false

-- What holds of every scan.
pub record IsMultiScan {O : Type 0} (s : MultiScan O) : Type 0 where
  -- some file is being opened at a time
  pub some : 0 < s.source.concurrency
  -- the expressions are over the dtype of the source, and the range is not reversed
  pub over : IsBoundOver s.source.dtype s.request
  pub forward : is_reversed s.request.row_range ≡ false
  -- the seat has room for the rows of all layouts that may be given
  pub room : HasRoom s.seat (18446744073709551615 - s.given_rows)
  pub failures : KeepsInOrder s.request.ordered s.window
  -- each file may get a number
  pub count : s.delivered + (length s.window + length s.waiting) ≤ 18446744073709551615

-- ---- a file that is looked at
-- whether a file that was begun may be delivered: in an ordered scan the first alone
abbrev pub is_turn : {O : Type 0} → MultiScan O → ℕ → Bool
is_turn s i = not s.request.ordered || i == 0

-- the scan with a file at this stage, without a file, and once that was delivered
abbrev pub kept_at : {O : Type 0} → MultiScan O → ℕ → ℕ → StageData → MultiScan O
kept_at s i k stage = record s { window = slice_set s.window i (slot_data k stage) }

-- without the file
abbrev pub left_out : {O : Type 0} → MultiScan O → ℕ → MultiScan O
left_out s i = record s { window = remove s.window i }

-- once it was delivered
abbrev pub delivered_at : {O : Type 0} → MultiScan O → ℕ → MultiScan O
delivered_at s i = record s { window = remove s.window i; delivered = s.delivered + 1 }

-- the first of two faults
abbrev pub first_of : Option MultiFault → Option MultiFault → Option MultiFault
first_of None g = g
first_of (Some f) g = Some f

-- why the file at a place is not given, of this layout: what is wrong with it, or that its rows are too many
abbrev pub refusal : {O : Type 0} → MultiScan O → ℕ → Layout → Option MultiFault
refusal s k l =
    first_of (file_fault s.source.dtype s.request.row_range k l)
    (many_fault k (is_given s.numbers s.delivered && is_too_many s.seat s.given_rows (rows_of l)))

-- the partition of a file of a layout
pub record IsPartition {O : Type 0} (s : MultiScan O) (k : ℕ) (l : Layout) (p : PartitionData) : Type 0 where
  -- all of it that is asked for
  pub part : IsPart s.request l s.seat p.split
  -- its number by delivery, its place, and the bytes that were handed in for it
  pub index : p.index ≡ s.delivered
  pub child : p.child ≡ k
  pub bytes : p.bytes ≡ bytes_in (slice_get s.source.children k)

-- the scan once it was given
abbrev pub given_at : {O : Type 0} → MultiScan O → ℕ → Layout → MultiScan O
given_at s i l = record (delivered_at s i) { seat = rest_of (part_size s.request l) s.seat; given_rows = rows_after s.seat s.given_rows (rows_of l) }

-- ---- steps
-- the opener of the file at a place is polled
abbrev pub PollsFile : {O : Type 0} → (O → OpenerState) → MultiScan O → MultiScan O → ℕ → Opening → Type 0
PollsFile {O} opener s new k r = (d : MultiData O) × AsksSource opener s.source d k r × (new ≡ record s { source = d })

module _ {O : Type 0} (opener : O → OpenerState) where
  -- what a file comes to: its opener is polled, or it is as it was kept
  abbrev pub FindsAt : StageData → MultiScan O → MultiScan O → ℕ → Found → Type 0
  FindsAt file.opening s new k f = (r : Opening) × PollsFile opener s new k r × (f ≡ found_of r)
  FindsAt (file.opened l) s new k f = (f ≡ asks.found l) × (new ≡ s)
  FindsAt file.failed s new k f = (f ≡ asks.fails) × (new ≡ s)

  -- a file that was begun is looked at: which it is, and what it comes to
  pub record Finds (s new : MultiScan O) (i k : ℕ) (f : Found) : Type 0 where
    pub stage : StageData
    pub slot : slice_get s.window i ≡ Some (slot_data k stage)
    pub finds : FindsAt stage s new k f

-- a file whose layout is there is passed over in its turn, where its number is not to be given; else it is kept
abbrev pub PassesOpened : {O : Type 0} → Bool → MultiScan O → MultiScan O → ℕ → ℕ → Layout → Type 0
PassesOpened true s new i k l = (refusal s k l ≡ None) × (is_given s.numbers s.delivered ≡ false) × (new ≡ delivered_at s i)
PassesOpened false s new i k l = new ≡ kept_at s i k (file.opened l)

-- what a file comes to is not answered: it waits, is skipped, passed over or kept until its turn
abbrev pub Passes : {O : Type 0} → MultiScan O → MultiScan O → ℕ → ℕ → Found → Type 0
Passes s new i k asks.waits = new ≡ s
Passes s new i k asks.short = ⊥
Passes s new i k asks.skipped = new ≡ left_out s i
Passes s new i k (asks.found l) = PassesOpened (is_turn s i) s new i k l
Passes s new i k asks.fails = (is_turn s i ≡ false) × (new ≡ kept_at s i k file.failed)

-- ---- parts of steps
-- no file is left, or about so many
abbrev pub files_left : {O : Type 0} → MultiScan O → Precision ℕ
files_left s = if length s.window + length s.waiting == 0 then Exact 0 else Inexact (length s.window + length s.waiting)

-- fewer files than so many are begun
abbrev pub has_room : {O : Type 0} → MultiScan O → Bool
has_room s = nat_lt (length s.window) s.source.concurrency

-- a failure may be kept in an ordered scan alone
abbrev pub MayKeep : {O : Type 0} → MultiScan O → StageData → Type 0
MayKeep s stage = is_failed stage ≡ true → s.request.ordered ≡ true

-- the next file is begun
abbrev pub begun : {O : Type 0} → MultiScan O → ℕ → List ℕ → MultiScan O
begun s k ks = record s { window = s.window ++ slot_data k file.opening ∷ []; waiting = ks }

-- the next file is begun, where there is one; after want of memory nothing is changed
abbrev pub BeginsNext : {O : Type 0} → MultiScan O → MultiScan O → Result Bool NoMemory → Type 0
BeginsNext s new (Ok true) = (k : ℕ) × (ks : List ℕ) × (s.waiting ≡ k ∷ ks) × (new ≡ begun s k ks)
BeginsNext s new (Ok false) = (s.waiting ≡ []) × (new ≡ s)
BeginsNext s new (Err f) = new ≡ s

-- the scan whose seat and rows count a layout
abbrev pub counted : {O : Type 0} → MultiScan O → Layout → MultiScan O
counted s l = record s { seat = rest_of (part_size s.request l) s.seat; given_rows = rows_after s.seat s.given_rows (rows_of l) }

-- the partition of a file is made; after want of memory nothing is changed
abbrev pub Makes : {O : Type 0} → MultiScan O → MultiScan O → ℕ → Layout → Result PartitionData NoMemory → Type 0
Makes s new k l (Ok p) = IsPartition s k l p × (new ≡ counted s l)
Makes s new k l (Err f) = new ≡ s

-- the partition of a file is made; none where its number is not to be given; a fault changes nothing
abbrev pub MakesPartition : {O : Type 0} → MultiScan O → MultiScan O → ℕ → Layout → Result (Option PartitionData) MultiFault → Type 0
MakesPartition s new k l (Ok (Some p)) = (refusal s k l ≡ None) × (is_given s.numbers s.delivered ≡ true) × IsPartition s k l p × (new ≡ counted s l)
MakesPartition s new k l (Ok None) = (refusal s k l ≡ None) × (is_given s.numbers s.delivered ≡ false) × (new ≡ s)
MakesPartition s new k l (Err fault.NoMemory) = new ≡ s
MakesPartition s new k l (Err f) = (refusal s k l ≡ Some f) × (new ≡ s)
