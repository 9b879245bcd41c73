use Rattle.scan_multi_sources.specs.Polls.{weight}
use Rattle.scan_multi_sources.proofs.Going.{InCall}
use Rattle.scan_multi_sources.proofs.file_scan.FileScan.poll_partition.Given as goal

abbrev pub invariant-steps : goal.invariant-steps
invariant-steps g l = InCall g.O.LayoutReaderFactory.opener l.fn.self l.self l.at

abbrev pub decreases-steps : goal.decreases-steps
decreases-steps g l = weight l.self l.at
