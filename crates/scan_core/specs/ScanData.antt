-- What a scan is that is set up.
use Rattle.std.specs.Prelude.{◌≡◌, ◌<◌, ℕ, Bool, false, true, List, map, Option}
use Rattle.std.specs.declared.ops.Range.{Range}
use Rattle.scan_values.specs.Selections.{row_mask}
use Rattle.scan_values.specs.StrictSorted.{is_rising}
use Rattle.scan_values.specs.declared.selection.Selection.{Selection}
use Rattle.scan_expr.specs.Infer.{infer}
use Rattle.scan_plans.specs.Futures.{FutureData}
use Rattle.scan_plans.specs.Meaning.{plan_dtype}
use Rattle.scan_plans.specs.PlanData.{PlanData}
use Rattle.scan_core.specs.RowRanges.{is_past, narrowed, UpTo}
use Rattle.scan_core.specs.SplitData.{SplitData, with_step}
use Rattle.scan_streams.specs.Plans.{PlansData, ReachTo, split_data}
use Rattle.scan_core.specs.SplitRanges.{common, span_of, split_ranges}

-- its plans; its rows, and where they are split; the range and the selection of those that it reads; how many it gives
-- at most, in which order, and how many splits are in progress at once; and what is made of each array
pub record ScanData (M : Type 0) : Type 0 where
  pub plans : PlansData
  pub rows : ℕ
  pub boundaries : List ℕ
  pub range : Option (Range ℕ)
  pub selection : Selection
  pub limit : Option ℕ
  pub ordered : Bool
  pub concurrency : ℕ
  pub step : M

abbrev pub scan_data : {M : Type 0} → PlansData → ℕ → List ℕ → Option (Range ℕ) → Selection → Option ℕ → Bool → ℕ → M → ScanData M
scan_data p n bs r s l o c m = record { plans = p; rows = n; boundaries = bs; range = r; selection = s; limit = l; ordered = o; concurrency = c; step = m }

-- a plan gives values of the dtype of its expression
abbrev pub IsTyped : PlanData → Type 0
IsTyped p = plan_dtype p.tree ≡ infer (p.expr).scope (p.expr).expr

-- each plan has all rows, the boundaries rise up to a row or the end, the range lies within the rows, and some split may
-- be in progress
pub record IsScan {M : Type 0} (s : ScanData M) : Type 0 where
  pub plans : ReachTo s.rows s.plans
  pub typed : IsTyped (s.plans).projection
  pub rising : is_rising s.boundaries ≡ true
  pub within : UpTo s.rows s.boundaries
  pub range : is_past s.range s.rows ≡ false
  pub busy : 0 < s.concurrency

-- the rows that it reads of a further range: up to all of its range, and from the first to the last that it selects
abbrev pub reach : {M : Type 0} → ScanData M → Option (Range ℕ) → Option (Range ℕ)
reach s r = common (common s.range r) (span_of s.selection s.rows)

-- the ranges of its splits within a further range
abbrev pub scan_ranges : {M : Type 0} → ScanData M → Option (Range ℕ) → List (Range ℕ)
scan_ranges s r = split_ranges s.boundaries (reach s r)

-- the array future of a split: of the rows that it selects of a range
abbrev pub array_of : {M : Type 0} → ScanData M → Range ℕ → FutureData
array_of s r =
    let picked = narrowed s.selection r in
    split_data s.plans picked.start (row_mask s.selection picked)

-- the future of a split
abbrev pub split_of : {M : Type 0} → ScanData M → Range ℕ → SplitData M
split_of s r = with_step (array_of s r) s.step

-- the futures of its splits within a further range, in order
abbrev pub splits_of : {M : Type 0} → ScanData M → Option (Range ℕ) → List (SplitData M)
splits_of s r = map (split_of s) (scan_ranges s r)
