-- The scan that a request's builder sets up.
use Rattle.std.proofs.Common.{◌≡◌, ℕ, ◌+◌, ◌<◌, ◌^◌, false, None, Result, Ok, Err, IfOk, refl, arith}
use Rattle.std.proofs.lemmas.Bool.Decides.{nat_tests}
use Rattle.std.specs.Prelude.{nat_le}
use Rattle.scan_readers.specs.Readers.{ReaderState}
use Rattle.scan_core.specs.BuilderData.{BuilderData}
use Rattle.scan_core.specs.Prepared.{IsPrepared}
use Rattle.scan_core.specs.RowRanges.{is_past}
use Rattle.scan_core.specs.ScanData.{ScanData}
use Rattle.scan_core.specs.Setup.{setup_fault}
use Rattle.scan_core.specs.declared.split_by.SplitBy.TheVariants.{Layout}
use Rattle.scan_sources.specs.Requests.{IsScanOfRequest}
use Rattle.scan_sources.specs.declared.request.BoundScanRequest.{BoundScanRequest}

-- a request's builder over a reader
abbrev pub over_reader : {R M : Type 0} → R → BoundScanRequest → M → BuilderData R M
over_reader r q step = record {
  reader = r;
  projection = q.projection;
  filter = q.filter;
  ordered = q.ordered;
  range = q.row_range;
  selection = q.selection;
  offset = 0;
  split_by = Layout;
  natural = None;
  limit = None;
  concurrency = 4;
  step = step;
}

same_scan : {R M : Type 0} (state : ReaderState) (r : R) (q : BoundScanRequest) (m : M) (s : ScanData M) → IsPrepared state (over_reader r q m) s → IsScanOfRequest state q s
same_scan state r q m s h = record {
  plans = h.plans;
  rows = h.rows;
  boundaries = h.boundaries;
  range = h.range;
  selection = h.selection;
  limit = h.limit;
  ordered = h.ordered;
  concurrency = h.concurrency;
  step = refl;
}

pub prepared_scan : {R M E : Type 0} (state : ReaderState) (r : R) (q : BoundScanRequest) (m : M) (x : Result (ScanData M) E) → IfOk x (λ s. IsPrepared state (over_reader r q m) s) → IfOk x (λ s. IsScanOfRequest state q s)
prepared_scan state r q m (Ok s) h = same_scan state r q m s h
prepared_scan state r q m (Err f) h = tt

-- nothing is wrong with the settings of a request over so many rows
pub nothing_wrong : {R M : Type 0} (r : R) (q : BoundScanRequest) (m : M) (n : ℕ) → is_past q.row_range n ≡ false → n < 2 ^ 64 → setup_fault (over_reader r q m) n ≡ None
nothing_wrong r q m n within small = let low : nat_le (2 ^ 64) (0 + n) ≡ false = grind (arith, nat_tests) in rw (within, low) refl

-- without a limit it is the same
pub without_limit : {M : Type 0} (state : ReaderState) (q : BoundScanRequest) (s : ScanData M) → IsScanOfRequest state q s → IsScanOfRequest state q (record s { limit = None })
without_limit state q s h = record {
  plans = h.plans;
  rows = h.rows;
  boundaries = h.boundaries;
  range = h.range;
  selection = h.selection;
  limit = refl;
  ordered = h.ordered;
  concurrency = h.concurrency;
  step = h.step;
}
