use Rattle.scan_polls.proofs.Numbering.{numbered, numbered_first}
use Rattle.scan_polls.proofs.laws.partitions_are_numbered_by_delivery.Goals as goal

pub returns-clause-number : goal.returns-clause-number
returns-clause-number g c = λ opener rs old mid new p polls last. numbered opener rs old mid new p polls last

pub returns-clause-start : goal.returns-clause-start
returns-clause-start g c = λ opener rs source q r old mid new p starts all polls last. numbered_first opener rs source q r old mid new p starts all polls last
