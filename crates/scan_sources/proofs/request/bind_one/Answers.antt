use Rattle.scan_sources.proofs.Binding.{over_bound}
use Rattle.scan_sources.proofs.request.bind_one.Goals as goal

pub returns-in-Ok-clause-over : goal.returns-in-Ok-clause-over
returns-in-Ok-clause-over c = over_bound c.args.dtype.now c.args.expr.now c.in-Ok.bound (c.in-Ok.ensures (λ h. cc))
