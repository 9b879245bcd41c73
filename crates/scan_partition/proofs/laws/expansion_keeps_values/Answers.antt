use Rattle.scan_partition.proofs.Pushed.{expand_like}
use Rattle.scan_partition.proofs.laws.expansion_keeps_values.Goals as goal

pub returns : goal.returns
returns c = λ fs n e v k d a. (expand_like fs n v k d a e).value
