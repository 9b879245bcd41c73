-- What a scan is that a builder sets up.
use Rattle.std.specs.Prelude.{◌≡◌, ◌++◌, not, List, filter}
use Rattle.scan_plans.specs.PlanData.{PlanData}
use Rattle.scan_plans.specs.Pruning.{is_numbered}
use Rattle.scan_readers.specs.Readers.{ReaderState}
use Rattle.scan_readers.specs.RowIdxData.{numbered_state}
use Rattle.scan_core.specs.BuilderData.{BuilderData, asked_masks, conjuncts_in, chosen_points}
use Rattle.scan_core.specs.ScanData.{ScanData}
use Rattle.scan_core.specs.SplitMeaning.{IsScanOf, in_turn}

-- plans, those over row numbers alone first
abbrev pub numbered_first : List PlanData → List PlanData
numbered_first ps = filter (λ (p : PlanData). is_numbered p.tree) ps ++ filter (λ (p : PlanData). not (is_numbered p.tree)) ps

-- the scan of a builder over a reader's rows
pub record IsPrepared {R M : Type 0} (state : ReaderState) (b : BuilderData R M) (s : ScanData M) : Type 0 where
  -- the conjuncts of the filter, those over row numbers alone first, and the projection, over the numbered rows
  pub plans : IsScanOf (numbered_state b.offset state) (in_turn (numbered_state b.offset state) (conjuncts_in b.filter)) b.projection s.plans
  -- all of the reader's
  pub rows : s.rows ≡ state.rows
  -- the natural ones, or those that it is split by
  pub boundaries : s.boundaries ≡ chosen_points state b.split_by (asked_masks b.projection b.filter) b.range b.natural
  -- all else as the builder has it
  pub range : s.range ≡ b.range
  pub selection : s.selection ≡ b.selection
  pub limit : s.limit ≡ b.limit
  pub ordered : s.ordered ≡ b.ordered
  pub concurrency : s.concurrency ≡ b.concurrency
  pub step : s.step ≡ b.step
