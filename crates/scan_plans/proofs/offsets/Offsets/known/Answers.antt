use Rattle.scan_plans.specs.Came.{came}
use Rattle.scan_plans.specs.Meaning.{true_rows}
use Rattle.scan_plans.proofs.Checked.{known_of}
use Rattle.scan_plans.proofs.offsets.Offsets.known.Goals as goal

pub returns : goal.returns
returns c = known_of c.new-lacking.result c.next.new.wants c.args.self.now (came c.args.inbox.now) (true_rows c.args.first c.args.mask.now) c.next.result c.next.ensures
