use Rattle.scan_partition.proofs.Binding.{bound_is}
use Rattle.scan_partition.proofs.Partable.{bound_partable}
use Rattle.scan_expr_tests.proofs.expressions.over.Goals as goal

pub returns-clause-is : goal.returns-clause-is
returns-clause-is c = bound_is c.args.dtype.now c.args.expr.now c.in_ok-bound.bound (c.in_ok-bound.ensures (λ h. cc))

pub returns-clause-partable : goal.returns-clause-partable
returns-clause-partable c = bound_partable c.args.dtype.now c.args.expr.now c.in_ok-bound.bound (c.in_ok-bound.ensures (λ h. cc))
