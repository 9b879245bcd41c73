use Rattle.std.proofs.Common.{◌≡◌, map, drop, ◌++◌}
use Rattle.scan_expr.proofs.Evals.{mark}
use Rattle.scan_expr.proofs.Placing.{marks_there}
use Rattle.scan_expr.proofs.evaluate.left_fields.Given as goal

abbrev pub invariant-loop-place : goal.invariant-loop-place
invariant-loop-place l = map mark l.left.items ++ marks_there l.items (drop l.place-index l.places) ≡ marks_there l.items l.places
