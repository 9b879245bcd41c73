-- Scans of many files of which nothing was delivered.
use Rattle.std.specs.Prelude.{◌≡◌, ◌++◌, ◌==◌, ℕ, suc, Bool, true, false, List, [], ◌∷◌, Option, Some, None, if◌then◌else◌}
use Rattle.std.specs.declared.ops.Range.{Range}
use Rattle.scan_expr.specs.declared.request.ScanRequest.{ScanRequest}
use Rattle.scan_core.specs.Streaming.{IsOwnSeat}
use Rattle.scan_sources.specs.Faults as source
use Rattle.scan_sources.specs.declared.fault.SourceFault.{SourceFault}
use Rattle.scan_sources.specs.declared.fault.SourceFault.TheVariants as fault
use Rattle.scan_sources.specs.declared.request.BoundScanRequest.{BoundScanRequest}
use Rattle.scan_multi_sources.specs.Children.{ChildData, is_opened}
use Rattle.scan_multi_sources.specs.FileFaults.{is_reversed}
use Rattle.scan_multi_sources.specs.MultiScans.{MultiScan, multi_scan}
use Rattle.scan_multi_sources.specs.Sources.{MultiData}
use Rattle.scan_multi_sources.specs.declared.numbers.PartitionNumbers.{PartitionNumbers}

-- the places of files from a number on that are opened, or of those that are not
abbrev pub places_of : {O : Type 0} → Bool → List (ChildData O) → ℕ → List ℕ
places_of want [] k = []
places_of want (c ∷ cs) k = if is_opened want c then k ∷ places_of want cs (suc k) else places_of want cs (suc k)

-- the order in which files come: first those that are opened
abbrev pub first_places : {O : Type 0} → List (ChildData O) → List ℕ
first_places cs = places_of true cs 0 ++ places_of false cs 0

-- the limit that partitions share: in any order
abbrev pub limit_shared : BoundScanRequest → Option ℕ
limit_shared q = if q.ordered then None else q.limit

-- what a request restricts of partitions
abbrev pub numbers_of : ScanRequest → PartitionNumbers
numbers_of r = record { range = r.partition_range; selection = r.partition_selection }

-- a scan of these files, of which nothing was begun
pub record StartsMulti {O : Type 0} (source : MultiData O) (q : BoundScanRequest) (n : PartitionNumbers) (s : MultiScan O) : Type 0 where
  pub seat : IsOwnSeat (limit_shared q) s.seat
  pub scan : s ≡ multi_scan source q n [] (first_places source.children) s.seat 0 0

-- what is wrong with a number of files at once, then with a range
abbrev pub number_refusal : ℕ → Option (Range ℕ) → Option SourceFault
number_refusal n r = if n == 0 then Some fault.Concurrency else if is_reversed r then Some fault.RowRange else None

-- what is wrong with a request, by numbers and then by its expressions
abbrev pub multi_refusal : {O : Type 0} → MultiData O → ScanRequest → Option SourceFault
multi_refusal s r = source.first_of (number_refusal s.concurrency r.row_range) (source.bind_refusal s.dtype r.projection r.filter)
