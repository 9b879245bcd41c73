use Rattle.std.proofs.Common.{sym}
use Rattle.scan_run.proofs.Making.{before_is}
use Rattle.scan_run.proofs.generate.columns.elements_before.Goals as goal

pub returns : goal.returns
returns c = sym (before_is c.args.g)
