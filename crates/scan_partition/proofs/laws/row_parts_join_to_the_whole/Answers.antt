use Rattle.std.proofs.Common.{ap}
use Rattle.scan_partition.proofs.Lifted.{row_partition}
use Rattle.scan_partition.proofs.laws.row_parts_join_to_the_whole.Goals as goal

pub returns : goal.returns
returns c = λ s e v k plain few. let h = row_partition s v k e plain few in (ap (λ x. x.0) h, ap (λ x. x.1) h)
