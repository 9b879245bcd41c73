use Rattle.std.proofs.Common.{subst}
use Rattle.scan_partition.specs.Partable.{PartsPartable}
use Rattle.scan_partition.proofs.Partable.{one_partable}
use Rattle.scan_expr_tests.proofs.parts.first_part.Goals as goal

pub returns-else-is_empty : goal.returns-else-is_empty
returns-else-is_empty c = one_partable c.in-Multi.parts.parts 0 c.part.result.now (subst PartsPartable c.in-Multi.is c.requires) c.part.ensures
