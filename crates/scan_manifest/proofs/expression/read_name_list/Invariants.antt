use Rattle.std.proofs.Common.{◌≡◌, ◌++◌, drop, option_map}
use Rattle.serde_json.specs.View.{items_view}
use Rattle.serde_json.specs.Find.{as_str}
use Rattle.scan_manifest.specs.Json.{each, each_from}
use Rattle.scan_manifest.proofs.expression.read_name_list.Given as goal

abbrev pub invariant-loop-json : goal.invariant-loop-json
invariant-loop-json l = each as_str (items_view l.list) ≡ option_map (λ xs. l.names.items ++ xs) (each_from (λ _. as_str) l.json-index (items_view (drop l.json-index l.list)))
