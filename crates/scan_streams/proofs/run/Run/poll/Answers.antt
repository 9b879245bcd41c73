use Rattle.scan_plans.specs.Futures.{future_wanted}
use Rattle.scan_plans.specs.Came.{came}
use Rattle.std.proofs.Common.{ap, ◌∙◌, length}
use Rattle.scan_streams.proofs.Running.{left_pending}
use Rattle.scan_streams.proofs.run.Run.poll.Goals as goal

pub invariant_of-self-in-Pending : goal.invariant_of-self-in-Pending
invariant_of-self-in-Pending c = record {
  distinct = c.as_slice.ensures.distinct;
  left = ap length c.as_slice.ensures.ids ∙ left_pending (future_wanted c.self.inside.future (came c.self.inside.inbox)) c.self.inside.inbox c.in-Pending.ids c.in-Pending.ensures.answer;
}
