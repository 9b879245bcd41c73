-- What callers of one reader conclude, in their own words.
use Rattle.std.specs.Prelude.{ℕ, Bool, true, false, List, map, filter, Option, None, Some}
use Rattle.std.specs.declared.ops.Range.{Range}
use Rattle.vortex_scan.specs.Values.Marked.{Marked}
use Rattle.vortex_scan.specs.Values.Selections.{numbers}
use Rattle.vortex_scan.specs.Values.declared.selection.Selection.TheVariants.{All}
use Rattle.vortex_scan.specs.Expr.Bound.{Bound}
use Rattle.vortex_scan.specs.Segments.Source.{Store}
use Rattle.vortex_scan.specs.Readers.Readers.{ReaderState, value_of}
use Rattle.vortex_scan.specs.Readers.RowIdxData.{numbered_state}
use Rattle.vortex_scan.specs.Core.BuilderData.{conjuncts_in}
use Rattle.vortex_scan.specs.Core.Given.{passes}
use Rattle.vortex_scan.specs.Core.declared.settings.ScanSettings.{ScanSettings}
use Rattle.vortex_scan.specs.Core.declared.split_by.SplitBy.TheVariants.{Layout}

-- the values of an expression at rows of a reader, which are numbered from 0
abbrev pub at_rows : ReaderState → Bound → Store → List ℕ → List Marked
at_rows s e store rows = map (value_of (numbered_state 0 s) e store) rows

-- at all its rows at which each conjunct of a filter is true
abbrev pub matches : ReaderState → Bound → Option Bound → Store → List Marked
matches s e o store = at_rows s e store (filter (passes (numbered_state 0 s) (conjuncts_in o) store) (numbers 0 s.rows))

-- the settings of a scan, as the layout splits the rows, four splits at once
abbrev pub settings_of : {M : Type 0} → Bound → Option Bound → Bool → Option (Range ℕ) → Option ℕ → M → ScanSettings M
settings_of e o ordered range limit step = record {
  projection = e;
  filter = o;
  ordered = ordered;
  row_range = range;
  selection = All;
  row_offset = 0;
  split_by = Layout;
  natural_splits = None;
  limit = limit;
  concurrency = 4;
  step = step;
}

-- of the first rows in order
abbrev pub first_settings : {M : Type 0} → Bound → Option Bound → ℕ → M → ScanSettings M
first_settings e o most step = settings_of e o true None (Some most) step

-- of the rows of a range in any order
abbrev pub range_settings : {M : Type 0} → Bound → Range ℕ → M → ScanSettings M
range_settings e r step = settings_of e None false (Some r) None step
