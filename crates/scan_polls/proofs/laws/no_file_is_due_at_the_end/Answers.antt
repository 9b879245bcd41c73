use Rattle.scan_polls.proofs.Ending.{ends_with_all, none_due}
use Rattle.scan_polls.proofs.laws.no_file_is_due_at_the_end.Goals as goal

pub returns-clause-none : goal.returns-clause-none
returns-clause-none g c = λ opener old new h. none_due opener old new h

pub returns-clause-all : goal.returns-clause-all
returns-clause-all g c = λ opener rs source q r old mid new starts polls end. ends_with_all opener rs source q r old mid new starts polls end
