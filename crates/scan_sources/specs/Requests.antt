-- What is asked of a source.
use Rattle.std.specs.Prelude.{◌&&◌, not, ℕ, min, Bool, true, false, if◌then◌else◌, Option, Some, None, IfSome, option_map, is_some, is_none}
use Rattle.scan_values.specs.DataType.{DataType, bool_type, int_type, utf8_type, list_type, struct_type, no_fields, field}
use Rattle.scan_values.specs.declared.ptype.Nullability.TheVariants.{NonNullable, Nullable}
use Rattle.scan_values.specs.Selections.{row_count}
use Rattle.scan_expr.specs.Bound.{bound_of}
use Rattle.scan_expr.specs.Infer.{infer}
use Rattle.scan_expr.specs.declared.request.ScanRequest.{ScanRequest}
use Rattle.scan_readers.specs.Readers.{ReaderState}
use Rattle.scan_core.specs.BuilderData.{BuilderData, IsOver, IsFilter, range_or_all}
use Rattle.scan_core.specs.Prepared.{IsPrepared}
use Rattle.scan_core.specs.ScanData.{ScanData}
use Rattle.scan_core.specs.declared.split_by.SplitBy.TheVariants.{Layout}
use Rattle.scan_sources.specs.declared.request.BoundScanRequest.{BoundScanRequest}

-- a request whose expressions are over a dtype. Partitions play no part
abbrev pub bound_request : DataType → ScanRequest → BoundScanRequest
bound_request d r = record {
  projection = bound_of d r.projection;
  filter = option_map (bound_of d) r.filter;
  row_range = r.row_range;
  selection = r.selection;
  ordered = r.ordered;
  limit = r.limit;
}

-- its expressions are over a dtype, and the filter is Bool
pub record IsBoundOver (d : DataType) (q : BoundScanRequest) : Type 0 where
  pub projection : IsOver d q.projection
  pub filter : IfSome q.filter (IsFilter d)

-- the builder of its scan, but for the limit, which the parts of the scan have
abbrev pub builder_of : {M : Type 0} → BoundScanRequest → M → BuilderData (Unit {0}) M
builder_of q step = record {
  reader = tt;
  projection = q.projection;
  filter = q.filter;
  ordered = q.ordered;
  range = q.row_range;
  selection = q.selection;
  offset = 0;
  split_by = Layout;
  natural = None;
  limit = None;
  concurrency = 4;
  step = step;
}

-- the scan of it over a reader's rows
abbrev pub IsScanOfRequest : {M : Type 0} → ReaderState → BoundScanRequest → ScanData M → Type 0
IsScanOfRequest state q s = IsPrepared state (builder_of q s.step) s

-- the dtype of the projection
abbrev pub request_dtype : BoundScanRequest → DataType
request_dtype q = infer (q.projection).scope (q.projection).expr

-- a number, or a limit where that is less
abbrev pub cut_by : Option ℕ → ℕ → ℕ
cut_by None n = n
cut_by (Some l) n = min n l

-- a struct without fields that is not nullable
abbrev pub is_bare_struct : DataType → Bool
is_bare_struct (struct_type no_fields NonNullable) = true
is_bare_struct (struct_type no_fields Nullable) = false
is_bare_struct (struct_type (field n d fs) m) = false
is_bare_struct (bool_type n) = false
is_bare_struct (int_type p n) = false
is_bare_struct (utf8_type n) = false
is_bare_struct (list_type d n) = false

-- nothing is read: such a struct is given of each row, and there is no filter
abbrev pub reads_nothing : BoundScanRequest → Bool
reads_nothing q = is_bare_struct (request_dtype q) && is_none q.filter

-- of so many rows the selected ones of the range, up to the limit
abbrev pub asked_count : BoundScanRequest → ℕ → ℕ
asked_count q rows = cut_by q.limit (row_count q.selection (range_or_all q.row_range rows))

-- the limit that the parts of a scan share: where a filter decides what each gives, and in any order
abbrev pub shared_limit : BoundScanRequest → Option ℕ
shared_limit q = if is_some q.filter && not q.ordered then q.limit else None
