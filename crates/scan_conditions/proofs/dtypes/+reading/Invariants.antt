use Rattle.std.proofs.Common.{◌+◌, ◌*◌}
use Rattle.scan_conditions.proofs.dtypes.+reading.Given as goal

abbrev pub decreases-type_at : goal.decreases-type_at
decreases-type_at l = 8 * l.levels

abbrev pub decreases-list_at : goal.decreases-list_at
decreases-list_at l = 8 * l.levels + 1

abbrev pub decreases-struct_at : goal.decreases-struct_at
decreases-struct_at l = 8 * l.levels + 3

abbrev pub decreases-fields_at : goal.decreases-fields_at
decreases-fields_at l = 8 * l.levels + 2

abbrev pub decreases-field_at : goal.decreases-field_at
decreases-field_at l = 8 * l.levels + 1
