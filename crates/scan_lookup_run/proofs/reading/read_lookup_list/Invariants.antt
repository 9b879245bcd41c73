use Rattle.std.proofs.Common.{◌≡◌, ◌++◌, drop, option_map}
use Rattle.serde_json.specs.View.{items_view}
use Rattle.scan_manifest.specs.Json.{each, each_from}
use Rattle.scan_lookup_run.specs.Jobs.{places_in}
use Rattle.scan_lookup_run.proofs.reading.read_lookup_list.Given as goal

abbrev pub invariant-loop-json : goal.invariant-loop-json
invariant-loop-json l = each places_in (items_view l.list) ≡ option_map (λ xs. l.lookups.items ++ xs) (each_from (λ _. places_in) l.json-index (items_view (drop l.json-index l.list)))
