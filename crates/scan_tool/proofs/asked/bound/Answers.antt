use Rattle.scan_partition.proofs.Partable.{bound_partable}
use Rattle.scan_tool.proofs.asked.bound.Goals as goal

pub returns : goal.returns
returns c = bound_partable c.args.dtype.now c.args.expr.now c.in_ok-bound.bound (c.in_ok-bound.ensures (λ h. cc))
