use Rattle.scan_expr.proofs.Clean.{conjuncts_true}
use Rattle.scan_expr.proofs.laws.conjuncts_are_all_true.Goals as goal

pub returns : goal.returns
returns c = conjuncts_true
