use Rattle.std.proofs.Common.{◌≡◌, replicate, None}
use Rattle.scan_layout.proofs.children.unmade.Given as goal

abbrev pub invariant-loop-place : goal.invariant-loop-place
invariant-loop-place g l = l.made.items ≡ replicate l._place None
