use Rattle.std.proofs.Common.{◌≡◌, ◌++◌, map, drop}
use Rattle.serde_json.specs.View.{view}
use Rattle.scan_disk_writer.specs.Json.{json_of_places}
use Rattle.scan_disk_writer.proofs.footer.places_json.Given as goal

abbrev pub invariant-loop-i : goal.invariant-loop-i
invariant-loop-i l = map view l.made.items ++ json_of_places l.i (drop l.i l.places) ≡ json_of_places 0 l.places
