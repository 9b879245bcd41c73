use Rattle.std.proofs.Common.{◌≡◌, ◌++◌, ◌+◌, ◌*◌, drop, option_map, length, zip}
use Rattle.serde_json.specs.View.{items_view}
use Rattle.scan_manifest.specs.Json.{each, each_from}
use Rattle.scan_manifest.specs.Exprs.{part_in, expr_within}
use Rattle.scan_manifest.proofs.expression.+exprs.Given as goal

abbrev pub decreases-read_expr_within : goal.decreases-read_expr_within
decreases-read_expr_within l = 8 * l.levels

abbrev pub decreases-read_node : goal.decreases-read_node
decreases-read_node l = 8 * l.levels + 6

abbrev pub decreases-read_pack_or : goal.decreases-read_pack_or
decreases-read_pack_or l = 8 * l.levels + 5

abbrev pub decreases-read_pack : goal.decreases-read_pack
decreases-read_pack l = 8 * l.levels + 4

abbrev pub decreases-read_parts : goal.decreases-read_parts
decreases-read_parts l = 8 * l.levels + 3

abbrev pub decreases-read_part : goal.decreases-read_part
decreases-read_part l = 8 * l.levels + 2

abbrev pub decreases-read_operation : goal.decreases-read_operation
decreases-read_operation l = 8 * l.levels + 4

abbrev pub decreases-read_binary_or : goal.decreases-read_binary_or
decreases-read_binary_or l = 8 * l.levels + 3

abbrev pub decreases-read_applied : goal.decreases-read_applied
decreases-read_applied l = 8 * l.levels + 2

abbrev pub invariant-read_parts-loop-json : goal.invariant-read_parts-loop-json
invariant-read_parts-loop-json l = record {
  lengths : length l.names.items ≡ length l.parts.items;
  found : each (part_in (expr_within l.levels)) (items_view l.list) ≡ option_map (λ xs. zip l.names.items l.parts.items ++ xs) (each_from (λ _. part_in (expr_within l.levels)) l.json-index (items_view (drop l.json-index l.list)));
}
