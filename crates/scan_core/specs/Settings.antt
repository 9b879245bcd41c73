-- What a scan is set up by beside its reader.
use Rattle.scan_core.specs.BuilderData.{BuilderData, boundaries_in}
use Rattle.scan_core.specs.declared.settings.ScanSettings.{ScanSettings}

-- the builder of these settings over a reader
abbrev pub builder_by : {R M : Type 0} → R → ScanSettings M → BuilderData R M
builder_by r s = record {
  reader = r;
  projection = s.projection;
  filter = s.filter;
  ordered = s.ordered;
  range = s.row_range;
  selection = s.selection;
  offset = s.row_offset;
  split_by = s.split_by;
  natural = boundaries_in s.natural_splits;
  limit = s.limit;
  concurrency = s.concurrency;
  step = s.step;
}

-- with another step
abbrev pub with_map : {M N : Type 0} → ScanSettings M → N → ScanSettings N
with_map s n = record {
  projection = s.projection;
  filter = s.filter;
  ordered = s.ordered;
  row_range = s.row_range;
  selection = s.selection;
  row_offset = s.row_offset;
  split_by = s.split_by;
  natural_splits = s.natural_splits;
  limit = s.limit;
  concurrency = s.concurrency;
  step = n;
}
