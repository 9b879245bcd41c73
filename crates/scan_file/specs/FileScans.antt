-- The scan of one file.
use Rattle.std.specs.Prelude.{◌≡◌, ℕ, Bool, not, List, filter, map, None}
use Rattle.std.specs.List.{list_all}
use Rattle.std.specs.declared.ops.Range.{Range}
use Rattle.scan_values.specs.Selections.{row_mask}
use Rattle.scan_layout.specs.Layout.{Layout}
use Rattle.scan_plans.specs.Futures.{FutureData}
use Rattle.scan_streams.specs.Plans.{PlansData, split_data}
use Rattle.scan_core.specs.BuilderData.{BuilderData}
use Rattle.scan_core.specs.RowRanges.{narrowed}
use Rattle.scan_core.specs.SplitData.{SplitData}
use Rattle.scan_core.specs.SplitMeaning.{IsScanOf}
use Rattle.scan_core.specs.declared.split_by.SplitBy.TheVariants.{Layout as by_layout}
use Rattle.scan_file.specs.FileAsks.{FileAsk}
use Rattle.scan_file.specs.Parts.{ask_turn, file_ranges, file_rows}
use Rattle.scan_file.specs.declared.split.FileSplit.{FileSplit}

-- the array future of a split: of the rows that are selected of a range
abbrev pub range_future : FileAsk → PlansData → Range ℕ → FutureData
range_future a p r =
    let picked = narrowed a.selection r in
    split_data p picked.start (row_mask a.selection picked)

-- the array futures of the splits of a file, as it is asked for
pub record IsFileScan (a : FileAsk) (l : Layout) (fs : List FutureData) : Type 0 where
  pub plans : PlansData
  pub means : IsScanOf (file_rows l) (ask_turn a l) a.projection plans
  pub arrays : fs ≡ map (range_future a plans) (file_ranges a l)

-- the array futures of splits
abbrev pub arrays_of : {M : Type 0} → List (SplitData M) → List FutureData
arrays_of = map (λ f. f.future)

-- a future may give a row
abbrev pub may_give : FutureData → Bool
may_give f = not (list_all not (f.mask).known)

-- the futures of splits
abbrev pub futures_in : List FileSplit → List FutureData
futures_in = map (λ w. w.future)

-- the splits of a file, as it is asked for: of its array futures those that may give a row
pub record AreFileSplits (a : FileAsk) (l : Layout) (ws : List FileSplit) : Type 0 where
  pub plans : PlansData
  pub means : IsScanOf (file_rows l) (ask_turn a l) a.projection plans
  pub futures : futures_in ws ≡ filter may_give (map (range_future a plans) (file_ranges a l))

-- a builder of the scan of all rows of a reader, as they are
pub record IsNewBuilder {R M : Type 0} (b : BuilderData R M) : Type 0 where
  pub offset : b.offset ≡ 0
  pub split_by : b.split_by ≡ by_layout
  pub natural : b.natural ≡ None
  pub limit : b.limit ≡ None
  pub concurrency : b.concurrency ≡ 4

-- a builder of the scan of a reader's rows, as it is asked for
pub record IsAskedOf {R M : Type 0} (a : FileAsk) (reader : R) (b : BuilderData R M) : Type 0 where
  pub reader_is : b.reader ≡ reader
  pub projection : b.projection ≡ a.projection
  pub filter_is : b.filter ≡ a.filter
  pub range : b.range ≡ a.range
  pub selection : b.selection ≡ a.selection
  pub settings : IsNewBuilder b
