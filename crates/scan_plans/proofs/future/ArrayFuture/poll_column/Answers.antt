use Rattle.scan_plans.specs.Came.{came}
use Rattle.scan_plans.specs.Futures.{masks_in}
use Rattle.scan_plans.proofs.future.ArrayFuture.poll_column.Goals as goal

pub returns-in-Ok-clause-answer : goal.returns-in-Ok-clause-answer
returns-in-Ok-clause-answer c = c.answered.ensures.answer (came c.args.inbox.now) c.args.self.now c.in-Ok.ensures.answer

pub returns-in-Err-clause-answer : goal.returns-in-Err-clause-answer
returns-in-Err-clause-answer c = c.refused.ensures.answer (came c.args.inbox.now) c.args.self.now c.in-Err.ensures.answer

pub returns-in-Ok-clause-rows : goal.returns-in-Ok-clause-rows
returns-in-Ok-clause-rows c = c.answered.ensures.rows (came c.args.inbox.now) c.args.self.now c.read.new.self c.in-Ok.ensures.rows

pub returns-in-Err-clause-rows : goal.returns-in-Err-clause-rows
returns-in-Err-clause-rows c = c.refused.ensures.rows (came c.args.inbox.now) c.args.self.now c.read.new.self

pub returns-in-Ok-clause-run : goal.returns-in-Ok-clause-run
returns-in-Ok-clause-run c = c.answered.ensures.run (came c.args.inbox.now) (masks_in c.read.new.self) c.in-Ok.ensures.run

pub returns-in-Err-clause-run : goal.returns-in-Err-clause-run
returns-in-Err-clause-run c = c.refused.ensures.run (came c.args.inbox.now) (masks_in c.read.new.self)
