use Rattle.scan_polls.proofs.Polling.{polls_move}
use Rattle.scan_polls.proofs.laws.files_come_in_their_order.Goals as goal

pub returns : goal.returns
returns g c = λ opener rs old new h. (polls_move opener rs old new h).order
