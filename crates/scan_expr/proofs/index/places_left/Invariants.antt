use Rattle.std.proofs.Common.{◌≡◌, ◌++◌, drop}
use Rattle.scan_values.specs.FieldLists.{names_of}
use Rattle.scan_expr.specs.Places.{left_places}
use Rattle.scan_expr.proofs.index.places_left.Given as goal

abbrev pub invariant-loop-i : goal.invariant-loop-i
invariant-loop-i l = l.places.items ++ left_places l.names l.i (drop l.i (names_of l.fields)) ≡ left_places l.names 0 (names_of l.fields)
