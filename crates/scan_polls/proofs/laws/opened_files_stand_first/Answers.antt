use Rattle.scan_polls.proofs.Firsts.{places_first}
use Rattle.scan_polls.proofs.laws.opened_files_stand_first.Goals as goal

pub returns : goal.returns
returns g c = λ cs. places_first cs
