use Rattle.std.proofs.Common.{◌≡◌, ◌++◌, ◌∷◌, [], drop}
use Rattle.scan_core.specs.SplitRanges.{neighbours, inside}
use Rattle.scan_core.proofs.splits.cut_at.Given as goal

abbrev pub invariant-loop-row : goal.invariant-loop-row
invariant-loop-row l =
    l.ranges.items ++ neighbours (l.start ∷ drop l.row-index l.row-items ++ l.fn.range.end ∷ [])
    ≡ neighbours (l.fn.range.start ∷ inside l.fn.range l.fn.boundaries ++ l.fn.range.end ∷ [])
