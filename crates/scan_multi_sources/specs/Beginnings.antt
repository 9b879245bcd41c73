-- What scans of many files begin with.
use Rattle.std.specs.Prelude.{◌≡◌, ◌≤◌, ◌<◌, false, length}
use Rattle.scan_core.specs.Streaming.{IsOwnSeat}
use Rattle.scan_sources.specs.Requests.{IsBoundOver}
use Rattle.scan_multi_sources.specs.FileFaults.{is_reversed}
use Rattle.scan_multi_sources.specs.Sources.{MultiData}
use Rattle.scan_multi_sources.specs.Starts.{first_places, limit_shared}
use Rattle.scan_multi_sources.specs.declared.start.ScanStart.{ScanStart}

-- a scan of a source may begin so
pub record MayBegin {O : Type 0} (source : MultiData O) (s : ScanStart) : Type 0 where
  -- some file is being opened at a time
  pub some : 0 < source.concurrency
  -- the expressions are over the dtype of the source, and the range is not reversed
  pub over : IsBoundOver source.dtype s.request
  pub forward : is_reversed s.request.row_range ≡ false
  -- all files wait, those first that were handed in opened
  pub waiting : s.waiting.items ≡ first_places source.children
  pub count : length s.waiting.items ≤ 18446744073709551615
  -- nothing is claimed of the limit that partitions share
  pub seat : IsOwnSeat (limit_shared s.request) s.row_limit
