use Rattle.std.proofs.Common.{ap}
use Rattle.scan_partition.proofs.Directly.{direct_is}
use Rattle.scan_partition.proofs.laws.chosen_fields_are_the_whole.Goals as goal

pub returns : goal.returns
returns c = λ fs e ms k o d a h. let p = direct_is fs ms k e o d a h in (ap (λ x. x.0) p, ap (λ x. x.1) p)
