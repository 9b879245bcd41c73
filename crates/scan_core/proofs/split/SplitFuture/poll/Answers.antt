use Rattle.std.proofs.Common.{subst}
use Rattle.scan_plans.specs.Came.{came}
use Rattle.scan_plans.specs.Futures.{SameFuture}
use Rattle.scan_core.specs.SplitData.{SplitData}
use Rattle.scan_core.specs.SplitPolls.{PollsSplit}
use Rattle.scan_core.proofs.split.SplitFuture.poll.Goals as goal

pub returns-clause-answer : goal.returns-clause-answer
returns-clause-answer g c =
    let here = came c.args.inbox.now in
    let answers = g.M.MapStep.answers in
    let lent = subst (λ (m : g.row.M.Denot). PollsSplit (answers m) here c.self.inside.array c.answered.result) c.deref.ensures (c.answered.ensures here c.self.inside.array c.poll-poll.ensures.answer) in
    subst (λ (x : SplitData g.row.M.Denot). PollsSplit (answers x.step) here x.future c.answered.result) c.self.view_is lent

pub returns-clause-same : goal.returns-clause-same
returns-clause-same g c = subst (λ (x : SplitData g.row.M.Denot). SameFuture (came c.args.inbox.now) c.poll-poll.new.self x.future) c.self.view_is c.poll-poll.ensures.same
