use Rattle.scan_sharing.proofs.Numbers.{below_polled}
use Rattle.scan_sharing.proofs.shared.SharedTable.poll.Goals as goal

pub returns-clause-step : goal.returns-clause-step
returns-clause-step g c = rw (← c.self.view_is, ← c.id.ensures) c.poll_entry.ensures.step

pub invariant_of-self : goal.invariant_of-self
invariant_of-self g c =
    below_polled g.S.Fits.fits (g.S.SegmentSource.state c.args.source.now) (g.S.SegmentSource.state c.poll_entry.new.source) c.self.inside.next c.id.result
    c.self.inside.entries.entries c.poll_entry.new.entries.entries c.self.invariant c.poll_entry.ensures.step
