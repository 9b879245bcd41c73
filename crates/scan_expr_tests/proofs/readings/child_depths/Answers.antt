use Rattle.std.proofs.Common.{subst}
use Rattle.scan_partition.specs.Partable.{RowPartsPartable}
use Rattle.scan_partition.proofs.Partable.{one_partable}
use Rattle.scan_expr_tests.proofs.readings.child_depths.Goals as goal

pub push_depths-requires : goal.push_depths-requires
push_depths-requires g c = one_partable c.in-Both.parts.parts 0 c.part-child.result.now (subst RowPartsPartable c.in-Both.is c.requires) c.part-child.ensures
