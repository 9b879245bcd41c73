use Rattle.scan_partition.proofs.Faultless.{stepped_faultless}
use Rattle.scan_partition.proofs.laws.stepping_in_keeps_the_typing.Goals as goal

pub returns : goal.returns
returns c = λ s i e p a t. stepped_faultless s i e p a t
