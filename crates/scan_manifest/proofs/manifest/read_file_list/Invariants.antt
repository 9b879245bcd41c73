use Rattle.std.proofs.Common.{◌≡◌, ◌++◌, drop, option_map}
use Rattle.serde_json.specs.View.{items_view}
use Rattle.scan_manifest.specs.Json.{each, each_from}
use Rattle.scan_manifest.specs.Manifest.{file_in}
use Rattle.scan_manifest.proofs.manifest.read_file_list.Given as goal

abbrev pub invariant-loop-json : goal.invariant-loop-json
invariant-loop-json l = each (file_in l.dtype) (items_view l.list) ≡ option_map (λ xs. l.files.items ++ xs) (each_from (λ _. file_in l.dtype) l.json-index (items_view (drop l.json-index l.list)))
