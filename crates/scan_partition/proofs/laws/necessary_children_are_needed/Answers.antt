use Rattle.std.proofs.Common.{refl}
use Rattle.scan_expr.specs.Needs.{whole}
use Rattle.scan_partition.proofs.ListNeeds.{needed_is}
use Rattle.scan_partition.proofs.ListUses.{uses_plain}
use Rattle.scan_partition.proofs.laws.necessary_children_are_needed.Goals as goal

pub returns-clause-needed : goal.returns-clause-needed
returns-clause-needed c = λ d n e p. needed_is d n p e

pub returns-clause-plain : goal.returns-clause-plain
returns-clause-plain c = λ d n e h. uses_plain d n e whole (λ _. refl) h
