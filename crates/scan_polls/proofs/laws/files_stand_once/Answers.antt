use Rattle.scan_polls.proofs.Counting.{stand_once}
use Rattle.scan_polls.proofs.laws.files_stand_once.Goals as goal

pub returns : goal.returns
returns g c = λ cs k. stand_once cs k
