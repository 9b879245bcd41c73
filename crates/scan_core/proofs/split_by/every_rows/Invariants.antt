use Rattle.std.proofs.Common.{◌≡◌, ◌≤◌, ◌+◌, ◌-◌, ◌++◌, filter}
use Rattle.scan_values.specs.Selections.{numbers}
use Rattle.scan_core.specs.Boundaries.{cut_rows, is_nth}
use Rattle.scan_core.proofs.Cutting.{is_row, AtCut}
use Rattle.scan_core.proofs.split_by.every_rows.Given as goal

abbrev pub invariant-loop-row : goal.invariant-loop-row
invariant-loop-row l =
    record {
      low : l.range.start ≤ l.row;
      high : l.row ≤ l.range.end;
      at : AtCut l.n l.range l.row;
      made : l.splits.items ++ filter (is_row l.n l.range) (numbers (l.row + 1) (l.range.end + 1)) ≡ cut_rows (is_nth l.n l.range.start) l.range;
    }

abbrev pub decreases-loop-row : goal.decreases-loop-row
decreases-loop-row l = l.range.end - l.row
