use Rattle.scan_widened.proofs.Checking.{PutOff}
use Rattle.scan_widened.proofs.opening.open.Given as goal

abbrev pub invariant-wait : goal.invariant-wait
invariant-wait g l = PutOff (g.O.LayoutReaderFactory.opener l.fn.opener) (g.O.LayoutReaderFactory.opener l.opener)

abbrev pub decreases-wait : goal.decreases-wait
decreases-wait g l = (g.O.LayoutReaderFactory.opener l.opener).turns
