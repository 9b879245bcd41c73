use Rattle.scan_polls.proofs.Polling.{opened_come}
use Rattle.scan_polls.proofs.laws.opened_files_come_first.Goals as goal

pub returns : goal.returns
returns g c = λ opener r old new h first. opened_come opener r old new h first
