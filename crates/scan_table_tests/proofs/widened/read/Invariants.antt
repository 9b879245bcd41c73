use Rattle.std.proofs.Common.{◌≡◌, true}
use Rattle.scan_table_tests.proofs.widened.read.Given as goal

abbrev pub invariant-wait : goal.invariant-wait
invariant-wait g l = (g.S.SegmentSource.state l.source).live l.id ≡ true

abbrev pub decreases-wait : goal.decreases-wait
decreases-wait g l = (g.S.SegmentSource.state l.source).turns
