use Rattle.std.proofs.Common.{◌≡◌, map, take, drop}
use Rattle.scan_values.specs.DataType.{fields_of}
use Rattle.scan_expr.specs.Places.{place_of}
use Rattle.scan_expr.specs.Typing.{have_fields}
use Rattle.scan_expr.proofs.index.places_found.Given as goal

abbrev pub invariant-loop-name : goal.invariant-loop-name
invariant-loop-name l = record { places : l.places.items ≡ map (place_of (fields_of l.fields)) (take l.name-index l.name-items); found : have_fields l.name-items (fields_of l.fields) ≡ have_fields (drop l.name-index l.name-items) (fields_of l.fields) }
