use Rattle.scan_polls.specs.Due.{numbers_given}
use Rattle.scan_polls.proofs.Ordering.{rise_from}
use Rattle.scan_polls.proofs.Polling.{polls_move}
use Rattle.scan_polls.proofs.laws.numbers_of_partitions_rise.Goals as goal

pub returns : goal.returns
returns g c = λ opener rs old new h. rise_from old.delivered new.delivered (numbers_given rs) (polls_move opener rs old new h).rise
