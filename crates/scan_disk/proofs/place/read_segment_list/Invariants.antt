use Rattle.std.proofs.Common.{◌≡◌, [], drop}
use Rattle.serde_json.specs.View.{items_view}
use Rattle.scan_disk.specs.Places.{segments_from}
use Rattle.scan_disk.proofs.place.read_segment_list.Given as goal

abbrev pub invariant-loop-json : goal.invariant-loop-json
invariant-loop-json l = segments_from [] (items_view l.list) ≡ segments_from l.map.entries (items_view (drop l.json-index l.list))
