use Rattle.std.proofs.Common.{ap, ◌∙◌, length, subst}
use Rattle.scan_drive.proofs.Running.{left_pending}
use Rattle.scan_drive.specs.Runs.{RunData, PollsRun}
use Rattle.scan_drive.specs.declared.run.RunPoll.TheVariants as poll
use Rattle.scan_drive.proofs.run.Run.poll.Goals as goal

pub invariant_of-self-in-Pending : goal.invariant_of-self-in-Pending
invariant_of-self-in-Pending g c = record {
  distinct = c.as_slice.ensures.distinct;
  left = ap length c.as_slice.ensures.ids ∙ left_pending c.self.inside.inbox c.in-Pending.ids c.in-Pending.ensures.answer.lacking;
}

pub returns-in-Ready-clause-answer : goal.returns-in-Ready-clause-answer
returns-in-Ready-clause-answer g c = subst (λ (r : RunData g.row.W.Denot). PollsRun g.W.SplitWork.split g.W.SplitWork.comes g.W.SplitWork.items r r (poll.Ready c.in-Ready.rows)) c.self.view_is c.in-Ready.ensures.answer

pub returns-in-Pending-clause-answer : goal.returns-in-Pending-clause-answer
returns-in-Pending-clause-answer g c =
    let new : RunData g.row.W.Denot = record { work = c.poll.new.self; inbox = c.self.inside.inbox; wanted = c.in-Pending.ids } in
    subst (λ (r : RunData g.row.W.Denot). PollsRun g.W.SplitWork.split g.W.SplitWork.comes g.W.SplitWork.items r new poll.Waits) c.self.view_is c.in-Pending.ensures.answer

pub returns-in-Corrupt-clause-answer : goal.returns-in-Corrupt-clause-answer
returns-in-Corrupt-clause-answer g c = subst (λ (r : RunData g.row.W.Denot). PollsRun g.W.SplitWork.split g.W.SplitWork.comes g.W.SplitWork.items r r (poll.Corrupt c.in-Corrupt.id)) c.self.view_is c.in-Corrupt.ensures.answer

pub returns-in-Overflow-clause-answer : goal.returns-in-Overflow-clause-answer
returns-in-Overflow-clause-answer g c = subst (λ (r : RunData g.row.W.Denot). PollsRun g.W.SplitWork.split g.W.SplitWork.comes g.W.SplitWork.items r r poll.Overflow) c.self.view_is c.in-Overflow.ensures.answer

pub returns-in-NoMemory-clause-answer : goal.returns-in-NoMemory-clause-answer
returns-in-NoMemory-clause-answer g c = tt
