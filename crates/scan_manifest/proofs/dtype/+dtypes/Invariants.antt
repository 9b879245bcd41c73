use Rattle.std.proofs.Common.{◌≡◌, ◌++◌, ◌+◌, ◌*◌, drop, option_map, length, zip}
use Rattle.serde_json.specs.View.{items_view}
use Rattle.scan_manifest.specs.Json.{each, each_from}
use Rattle.scan_manifest.specs.DTypes.{field_in, dtype_within}
use Rattle.scan_manifest.proofs.dtype.+dtypes.Given as goal

abbrev pub decreases-read_dtype_within : goal.decreases-read_dtype_within
decreases-read_dtype_within l = 8 * l.levels

abbrev pub decreases-read_nested : goal.decreases-read_nested
decreases-read_nested l = 8 * l.levels + 5

abbrev pub decreases-read_list : goal.decreases-read_list
decreases-read_list l = 8 * l.levels + 4

abbrev pub decreases-read_struct : goal.decreases-read_struct
decreases-read_struct l = 8 * l.levels + 4

abbrev pub decreases-read_fields : goal.decreases-read_fields
decreases-read_fields l = 8 * l.levels + 3

abbrev pub decreases-read_field : goal.decreases-read_field
decreases-read_field l = 8 * l.levels + 2

abbrev pub invariant-read_fields-loop-json : goal.invariant-read_fields-loop-json
invariant-read_fields-loop-json l = record {
  lengths : length l.names.items ≡ length l.dtypes.items;
  found : each (field_in (dtype_within l.levels)) (items_view l.list) ≡ option_map (λ xs. zip l.names.items l.dtypes.items ++ xs) (each_from (λ _. field_in (dtype_within l.levels)) l.json-index (items_view (drop l.json-index l.list)));
}
