use Rattle.std.proofs.Common.{◌≡◌, length}
use Rattle.scan_conditions.proofs.dtypes.struct_of.Given as goal

abbrev pub invariant-loop-name : goal.invariant-loop-name
invariant-loop-name l = length l.names.items ≡ length l.dtypes.items
