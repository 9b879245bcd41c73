use Rattle.scan_polls.proofs.Polling.{polls_move}
use Rattle.scan_polls.proofs.laws.no_more_files_are_begun.Goals as goal

pub returns : goal.returns
returns g c = λ opener rs old new h. (polls_move opener rs old new h).few
