-- The splits of a scan that are not started yet.
use Rattle.std.specs.Prelude.{◌≡◌, ◌≤◌, ℕ, Bool, List, [], ◌∷◌, map, Option, Some, None}
use Rattle.scan_values.specs.Masks.{limited}
use Rattle.scan_values.specs.Selections.{row_mask}
use Rattle.scan_values.specs.declared.selection.Selection.{Selection}
use Rattle.scan_plans.specs.Futures.{FutureData}
use Rattle.scan_streams.specs.Plans.{PlansData, ReachTo, split_data}
use Rattle.scan_streams.specs.declared.queue.SplitRows.{SplitRows}

-- of the true rows of a mask the first so many, or all
abbrev pub at_most : Option ℕ → List Bool → List Bool
at_most None bits = bits
at_most (Some n) bits = limited n bits

-- for each row of a split's range, whether the split is about it: it is selected, and among the first so many
abbrev pub picked_mask : Selection → SplitRows → List Bool
picked_mask s rows = at_most rows.most (row_mask s rows.range)

-- the future of a split
abbrev pub split_of_rows : PlansData → Selection → SplitRows → FutureData
split_of_rows p s rows = split_data p rows.range.start (picked_mask s rows)

-- the futures of several, in order
abbrev pub queued : PlansData → Selection → List SplitRows → List FutureData
queued p s rows = map (split_of_rows p s) rows

-- each range is one that the plans reach
abbrev pub AreWithin : PlansData → List SplitRows → Type 0
AreWithin p [] = Unit {0}
AreWithin p (r ∷ rs) = ((r.range.start ≤ r.range.end) × ReachTo r.range.end p) × AreWithin p rs

-- the first of futures, and those behind it; none where there is none
abbrev pub IsNext : Option FutureData → List FutureData → List FutureData → Type 0
IsNext None old new = (old ≡ []) × (new ≡ [])
IsNext (Some f) old new = old ≡ f ∷ new
