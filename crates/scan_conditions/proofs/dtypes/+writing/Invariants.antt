use Rattle.std.proofs.Common.{◌+◌, ◌*◌}
use Rattle.scan_conditions.proofs.dtypes.+writing.Given as goal

abbrev pub decreases-push_type : goal.decreases-push_type
decreases-push_type l = 8 * l.levels

abbrev pub decreases-push_list : goal.decreases-push_list
decreases-push_list l = 8 * l.levels + 1

abbrev pub decreases-push_struct : goal.decreases-push_struct
decreases-push_struct l = 8 * l.levels + 2

abbrev pub decreases-push_fields : goal.decreases-push_fields
decreases-push_fields l = 8 * l.levels + 1
