use Rattle.std.proofs.Common.{ap}
use Rattle.scan_partition.proofs.Classes.{rewrite_validity_seen, rewrite_offsets_seen}
use Rattle.scan_partition.proofs.laws.rewriting_over_lists_keeps_values.Goals as goal

pub returns-clause-validity : goal.returns-clause-validity
returns-clause-validity c = λ s e v k h. let p = rewrite_validity_seen s v k e h in (ap (λ x. x.0) p, ap (λ x. x.1) p)

pub returns-clause-offsets : goal.returns-clause-offsets
returns-clause-offsets c = λ s e v k r h. let p = rewrite_offsets_seen s v k r e h in (ap (λ x. x.0) p, ap (λ x. x.1) p)
