use Rattle.scan_streams.specs.Measures.{steps_left}
use Rattle.scan_streams.proofs.Continuing.{Continues}
use Rattle.scan_streams.proofs.reading.Reading.next.Given as goal

abbrev pub invariant-steps : goal.invariant-steps
invariant-steps g l = Continues l.fn.self l.self (g.S.SegmentSource.state l.fn.source) (g.S.SegmentSource.state l.source)

abbrev pub decreases-steps : goal.decreases-steps
decreases-steps g l = steps_left l.self
