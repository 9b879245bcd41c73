-- What a future is made of.
use Rattle.std.specs.Prelude.{ℕ, List, length}
use Rattle.scan_plans.specs.Futures.{FutureData, full}
use Rattle.scan_plans.specs.Masks.{MaskData}
use Rattle.scan_plans.specs.PlanTree.{PlanTree, rows}
use Rattle.scan_plans.specs.declared.future.Source.{Source}
use Rattle.scan_plans.specs.declared.future.Source.TheVariants.{Plan, Array}

abbrev pub source_tree : Source → PlanTree
source_tree (Plan p k m) = (p.value).tree
source_tree (Array a) = rows a.dtype a.items

abbrev pub source_first : Source → ℕ
source_first (Plan p k m) = k
source_first (Array a) = 0

abbrev pub source_mask : Source → MaskData
source_mask (Plan p k m) = m
source_mask (Array a) = full (length a.items)

abbrev pub future_of : Source → List MaskData → FutureData
future_of s ms = record { tree = source_tree s; first = source_first s; mask = source_mask s; outer = ms }
