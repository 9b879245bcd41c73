-- What a scan of a source of one reader answers.
use Rattle.std.specs.Prelude.{◌≡◌, ℕ, true, false}
use Rattle.scan_readers.specs.Readers.{ReaderState}
use Rattle.scan_sources.specs.Empties.{empty_data}
use Rattle.scan_sources.specs.Requests.{asked_count, reads_nothing, request_dtype}
use Rattle.scan_sources.specs.Scans.{StartsScan}
use Rattle.scan_sources.specs.declared.request.BoundScanRequest.{BoundScanRequest}
use Rattle.scan_sources.specs.declared.scan.LayoutScan.{LayoutScan}
use Rattle.scan_sources.specs.declared.scan.LayoutScan.TheVariants.{Empty, Splits}

-- the scan of a request over a reader's rows: so many empty rows where nothing is read, else one in parts
abbrev pub Starts : ReaderState → ℕ → BoundScanRequest → LayoutScan → Type 0
Starts state size q (Empty e) = (reads_nothing q ≡ true) × (e ≡ empty_data (request_dtype q) (asked_count q state.rows) 0)
Starts state size q (Splits s) = (reads_nothing q ≡ false) × StartsScan state size q s
