use Rattle.std.proofs.Common.{subst}
use Rattle.scan_widened.specs.Sources.{Follow}
use Rattle.scan_widened.proofs.Inner.{follows}
use Rattle.scan_widened.proofs.source.UnionSource.into_inner.Goals as goal

pub returns-clause-follows : goal.returns-clause-follows
returns-clause-follows g c = subst (λ u. Follow g.S.SegmentSource.state u) c.self.view_is (follows g.S.SegmentSource.state _ c.self.invariant)
