use Rattle.std.proofs.Common.{◌≡◌, drop, filter}
use Rattle.scan_layout.specs.Edges.{is_inside}
use Rattle.scan_splits.proofs.Pushing.{Completes}
use Rattle.scan_splits.proofs.push.push_ends.Given as goal

abbrev pub invariant-loop-end : goal.invariant-loop-end
invariant-loop-end l = (l.limit ≡ l.range.end) × Completes l.range.offset (filter (is_inside l.range.start l.range.end) (drop l.end-index l.ends)) (filter (is_inside l.range.start l.range.end) l.ends) l.initial.splits l.splits
