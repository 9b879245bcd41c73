use Rattle.std.proofs.Common.{ap}
use Rattle.scan_partition.proofs.Through.{step_into-seen}
use Rattle.scan_partition.proofs.laws.stepping_in_keeps_values.Goals as goal

pub returns : goal.returns
returns c = λ s i e v k p h. ap (λ x. x.1) (step_into-seen s i e v k p h)
