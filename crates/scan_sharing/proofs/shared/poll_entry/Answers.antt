use Rattle.std.proofs.Common.{ap, sym}
use Rattle.std.specs.Prelude.{is_some}
use Rattle.scan_sharing.proofs.TableSteps.{polls, polls_agree}
use Rattle.scan_sharing.proofs.shared.poll_entry.Goals as goal

pub returns-clause-step : goal.returns-clause-step
returns-clause-step g c =
    polls g.S.Fits.fits (g.S.SegmentSource.state c.args.source.now) (g.S.SegmentSource.state c.poll.new.source) c.args.id c.in-Some.entry.now c.poll.new.self c.args.entries.now.entries _ (sym c.in-Some.ensures.value) c.poll.ensures.step
    ((c.get_mut.follows.holds c.poll.new.self).3 (sym (ap is_some c.in-Some.ensures.value))).0 (c.get_mut.follows.holds c.poll.new.self).0

pub returns-clause-agree : goal.returns-clause-agree
returns-clause-agree g c =
    polls_agree g.S.Fits.fits (g.S.SegmentSource.state c.args.source.now) (g.S.SegmentSource.state c.poll.new.source) c.args.id c.args.entries.now.entries _ c.requires.agree
    (polls g.S.Fits.fits (g.S.SegmentSource.state c.args.source.now) (g.S.SegmentSource.state c.poll.new.source) c.args.id c.in-Some.entry.now c.poll.new.self c.args.entries.now.entries _ (sym c.in-Some.ensures.value) c.poll.ensures.step
    ((c.get_mut.follows.holds c.poll.new.self).3 (sym (ap is_some c.in-Some.ensures.value))).0 (c.get_mut.follows.holds c.poll.new.self).0)
