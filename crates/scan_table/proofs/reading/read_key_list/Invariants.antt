use Rattle.std.proofs.Common.{◌≡◌, ◌++◌, drop, option_map}
use Rattle.serde_json.specs.View.{items_view}
use Rattle.scan_manifest.specs.Json.{each, each_from}
use Rattle.scan_table.specs.Jobs.{key_in}
use Rattle.scan_table.proofs.reading.read_key_list.Given as goal

abbrev pub invariant-loop-json : goal.invariant-loop-json
invariant-loop-json l = each key_in (items_view l.list) ≡ option_map (λ xs. l.keys.items ++ xs) (each_from (λ _. key_in) l.json-index (items_view (drop l.json-index l.list)))
