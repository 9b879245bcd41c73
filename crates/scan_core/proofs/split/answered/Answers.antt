use Rattle.std.proofs.Common.{subst}
use Rattle.scan_splits.specs.declared.poll.Poll.{Poll}
use Rattle.scan_values.specs.Arrays.{ArrayData}
use Rattle.scan_plans.specs.Polled.{Polls}
use Rattle.scan_core.proofs.split.answered.Goals as goal

pub returns-in-Ready : goal.returns-in-Ready
returns-in-Ready g c = λ here f h. c.mapped.ensures here f (subst (λ (p : Poll ArrayData). Polls here f p) c.in-Ready.is h)
