use Rattle.std.proofs.Common.{arith, ap, ◌∙◌, ◌≡◌, true, length, nat_eq, ◌-◌}
use Rattle.std.specs.Prelude.{filter}
use Rattle.scan_drive.specs.Runs.{RunData, run_waits, listed}
use Rattle.scan_drive.specs.Splits.{lacks}
use Rattle.scan_drive.proofs.Running.{left_delivered, nil_length}
use Rattle.scan_drive.proofs.run.Run.deliver.Goals as goal

pub overflow_sub-self : goal.overflow_sub-self
overflow_sub-self g c =
    let w : run_waits (record { work = c.self.inside.work; inbox = c.self.inside.inbox; wanted = listed c.self.inside.wanted }) c.args.id ≡ true = ap (λ (r : RunData g.row.W.Denot). run_waits r c.args.id) c.self.view_is ∙ c.requires in
    let l = left_delivered c.self.inside.inbox c.deliver.new.self c.args.id c.args.arrival (listed c.self.inside.wanted) c.in_ok-deliver.ensures.ok c.self.invariant.distinct w in
    let e = c.self.invariant.left in
    omega arith

pub invariant_of-self-2 : goal.invariant_of-self-2
invariant_of-self-2 g c =
    let w : run_waits (record { work = c.self.inside.work; inbox = c.self.inside.inbox; wanted = listed c.self.inside.wanted }) c.args.id ≡ true = ap (λ (r : RunData g.row.W.Denot). run_waits r c.args.id) c.self.view_is ∙ c.requires in
    let l = left_delivered c.self.inside.inbox c.deliver.new.self c.args.id c.args.arrival (listed c.self.inside.wanted) c.in_ok-deliver.ensures.ok c.self.invariant.distinct w in
    let e = c.self.invariant.left in
    record { distinct = c.self.invariant.distinct; left = omega arith }
