use Rattle.std.proofs.Common.{subst}
use Rattle.scan_partition.specs.Conditions.{IsStruct}
use Rattle.scan_expr_tests.proofs.Scopes.{is_struct_by}
use Rattle.scan_expr_tests.proofs.parts.parted.Goals as goal

pub partition_struct-requires-clause-structure : goal.partition_struct-requires-clause-structure
partition_struct-requires-clause-structure g c = subst IsStruct c.scope.ensures (is_struct_by _ _ c.in-Some.ensures)
