use Rattle.scan_partition.proofs.Partable.{bound_partable}
use Rattle.scan_core_tests.proofs.rows.over.Goals as goal

pub returns-clause-partable : goal.returns-clause-partable
returns-clause-partable c = bound_partable c.args.dtype.now c.args.e.now c.in_ok-bound.bound (c.in_ok-bound.ensures (λ h. cc))
