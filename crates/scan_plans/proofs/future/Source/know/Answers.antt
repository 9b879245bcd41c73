use Rattle.scan_plans.specs.Came.{came}
use Rattle.scan_plans.specs.FutureView.{source_mask}
use Rattle.scan_plans.proofs.Progressing.{stays_same}
use Rattle.scan_plans.proofs.future.Source.know.Goals as goal

pub returns-in-Array-clause-same : goal.returns-in-Array-clause-same
returns-in-Array-clause-same c = stays_same (came c.args.inbox.now) (source_mask c.args.self.now)
