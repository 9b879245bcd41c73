use Rattle.std.proofs.Common.{inr, subst, sym}
use Rattle.scan_drive.specs.Openers.{PhaseKeeps}
use Rattle.scan_drive.specs.declared.phase.Phase.{Phase}
use Rattle.scan_drive.specs.declared.phase.Phase.TheVariants as phases
use Rattle.scan_drive.proofs.Admitting.{open_same, opens_now}
use Rattle.scan_drive.proofs.Moving.{polled_opens}
use Rattle.scan_drive.proofs.Opened.{opened_keeps}
use Rattle.scan_drive.proofs.opening.open_file.Goals as goal

pub returns-in-Opened-clause-keeps : goal.returns-in-Opened-clause-keeps
returns-in-Opened-clause-keeps g c =
    let gives = (g.X.SplitOpener.state c.args.context.now c.args.opener.now).gives in
    subst (λ (p : Phase g.row.W.Denot g.row.F.Denot). PhaseKeeps g.W.SplitWork.split g.W.SplitWork.comes gives p (phases.Queued c.in-Opened.splits c.in-Opened.rows)) (sym c.in-Unopened.is)
    (opened_keeps g.W.SplitWork.split g.W.SplitWork.comes gives c.in-Opened.rows c.in-Opened.splits c.in-Opened.ensures.answer.1)

pub returns-in-Pending-clause-opens : goal.returns-in-Pending-clause-opens
returns-in-Pending-clause-opens g c = polled_opens (g.X.SplitOpener.state c.args.context.now) g.X.SplitOpener.polls c.args.opener.now c.poll_open.new.opener c.in-Pending.ensures.answer.0 c.poll_open.ensures.polled

pub returns-in-NoMemory-clause-opens : goal.returns-in-NoMemory-clause-opens
returns-in-NoMemory-clause-opens g c = polled_opens (g.X.SplitOpener.state c.args.context.now) g.X.SplitOpener.polls c.args.opener.now c.poll_open.new.opener c.in-NoMemory.ensures.answer c.poll_open.ensures.polled

pub returns-in-Opened-clause-opens : goal.returns-in-Opened-clause-opens
returns-in-Opened-clause-opens g c = polled_opens (g.X.SplitOpener.state c.args.context.now) g.X.SplitOpener.polls c.args.opener.now c.poll_open.new.opener c.in-Opened.ensures.answer.0 c.poll_open.ensures.polled

pub returns-in-Refused-clause-opens : goal.returns-in-Refused-clause-opens
returns-in-Refused-clause-opens g c = polled_opens (g.X.SplitOpener.state c.args.context.now) g.X.SplitOpener.polls c.args.opener.now c.poll_open.new.opener c.in-Refused.ensures.answer.0 c.poll_open.ensures.polled

pub returns-in-Opened-clause-splits : goal.returns-in-Opened-clause-splits
returns-in-Opened-clause-splits g c =
    opens_now (g.X.SplitOpener.admits c.args.context.now c.args.opener.now c.poll_open.new.opener) c.args.phase.now (phases.Queued c.in-Opened.splits c.in-Opened.rows) c.in-Unopened.is (inr c.in-Opened.ensures.answer.2)

pub returns-in-Refused-clause-splits : goal.returns-in-Refused-clause-splits
returns-in-Refused-clause-splits g c = opens_now (g.X.SplitOpener.admits c.args.context.now c.args.opener.now c.poll_open.new.opener) c.args.phase.now (phases.Held c.in-Refused.fault) c.in-Unopened.is tt

pub returns-in-Pending-clause-splits : goal.returns-in-Pending-clause-splits
returns-in-Pending-clause-splits g c = open_same (g.X.SplitOpener.admits c.args.context.now c.args.opener.now c.poll_open.new.opener) c.args.phase.now

pub returns-in-Queued-clause-splits : goal.returns-in-Queued-clause-splits
returns-in-Queued-clause-splits g c = open_same (g.X.SplitOpener.admits c.args.context.now c.args.opener.now c.args.opener.now) c.args.phase.now

pub returns-in-Held-clause-splits : goal.returns-in-Held-clause-splits
returns-in-Held-clause-splits g c = open_same (g.X.SplitOpener.admits c.args.context.now c.args.opener.now c.args.opener.now) c.args.phase.now
