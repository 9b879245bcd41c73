use Rattle.std.proofs.Common.{◌≡◌, map, take}
use Rattle.scan_expr.proofs.Placing.{type_at}
use Rattle.scan_expr.proofs.typing.chosen.Given as goal

abbrev pub invariant-loop-place : goal.invariant-loop-place
invariant-loop-place l = l.dtypes.items ≡ map (type_at l.fields) (take l.place-index l.places)
