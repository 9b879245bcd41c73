use Rattle.std.proofs.Common.{◌≡◌, ◌+◌, ◌*◌, ◌++◌, map, drop}
use Rattle.serde_json.specs.View.{view}
use Rattle.scan_values.specs.DataType.{size_of, fields_size, fields_of}
use Rattle.scan_disk_writer.proofs.Jsons.{field_json}
use Rattle.scan_disk_writer.proofs.footer.+dtype_json.Given as goal

abbrev pub decreases-dtype_json : goal.decreases-dtype_json
decreases-dtype_json l = 4 * size_of l.dtype.now + 2

abbrev pub decreases-fields_json : goal.decreases-fields_json
decreases-fields_json l = 4 * fields_size (fields_of l.fields.now) + 4

abbrev pub decreases-items_json : goal.decreases-items_json
decreases-items_json l = 4 * size_of l.dtype.now + 1

abbrev pub invariant-fields_json-loop-i : goal.invariant-fields_json-loop-i
invariant-fields_json-loop-i l = map view l.made.items ++ map field_json (drop l.i l.fields) ≡ map field_json l.fields
