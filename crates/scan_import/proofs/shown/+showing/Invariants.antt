use Rattle.std.proofs.Common.{◌≡◌, ◌+◌, ◌*◌, length}
use Rattle.scan_import.proofs.shown.+showing.Given as goal

abbrev pub decreases-dtype_of_values : goal.decreases-dtype_of_values
decreases-dtype_of_values l = 3 * l.levels + 2

abbrev pub decreases-list_of_values : goal.decreases-list_of_values
decreases-list_of_values l = 3 * l.levels + 1

abbrev pub decreases-struct_of_values : goal.decreases-struct_of_values
decreases-struct_of_values l = 3 * l.levels + 1

abbrev pub decreases-dtypes_of_members : goal.decreases-dtypes_of_members
decreases-dtypes_of_members l = 3 * l.levels + 3

abbrev pub invariant-dtypes_of_members-loop-name : goal.invariant-dtypes_of_members-loop-name
invariant-dtypes_of_members-loop-name l = length l.dtypes.items ≡ l.name-index
