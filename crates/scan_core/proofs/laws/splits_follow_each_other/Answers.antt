use Rattle.scan_core.proofs.Following.{splits_of_a_range, splits_of_all}
use Rattle.scan_core.proofs.laws.splits_follow_each_other.Goals as goal

pub returns-clause-range : goal.returns-clause-range
returns-clause-range c = splits_of_a_range

pub returns-clause-all : goal.returns-clause-all
returns-clause-all c = splits_of_all
