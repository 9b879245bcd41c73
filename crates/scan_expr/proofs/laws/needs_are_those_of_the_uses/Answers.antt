use Rattle.scan_expr.proofs.Reading.{needs-uses}
use Rattle.scan_expr.proofs.laws.needs_are_those_of_the_uses.Goals as goal

pub returns : goal.returns
returns c = needs-uses
