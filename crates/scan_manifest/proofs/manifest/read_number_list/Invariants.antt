use Rattle.std.proofs.Common.{◌≡◌, ◌++◌, drop, option_map}
use Rattle.serde_json.specs.View.{items_view}
use Rattle.scan_manifest.specs.Json.{number_of, each, each_from}
use Rattle.scan_manifest.proofs.manifest.read_number_list.Given as goal

abbrev pub invariant-loop-json : goal.invariant-loop-json
invariant-loop-json l = each number_of (items_view l.list) ≡ option_map (λ xs. l.numbers.items ++ xs) (each_from (λ _. number_of) l.json-index (items_view (drop l.json-index l.list)))
