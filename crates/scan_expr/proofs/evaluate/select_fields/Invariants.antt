use Rattle.std.proofs.Common.{◌≡◌, map, take}
use Rattle.scan_values.specs.Val.{vals_of, marked_all}
use Rattle.scan_expr.specs.Places.{nth}
use Rattle.scan_expr.proofs.Evals.{mark}
use Rattle.scan_expr.proofs.evaluate.select_fields.Given as goal

abbrev pub invariant-loop-place : goal.invariant-loop-place
invariant-loop-place l = map mark l.picked.items ≡ map (nth (marked_all (vals_of l.values))) (take l.place-index l.places)
