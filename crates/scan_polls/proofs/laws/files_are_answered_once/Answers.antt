use Rattle.scan_polls.proofs.Polling.{polls_move}
use Rattle.scan_polls.proofs.laws.files_are_answered_once.Goals as goal

pub returns : goal.returns
returns g c = λ opener rs old new h. let m = polls_move opener rs old new h in record { passed = m.passed; skipped = m.skipped; each = m.each; count = m.count }
