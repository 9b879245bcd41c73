use Rattle.scan_expr.proofs.Overflowing.{conjuncts_overflow}
use Rattle.scan_expr.proofs.laws.a_filter_overflows_where_a_conjunct_does.Goals as goal

pub returns : goal.returns
returns c = conjuncts_overflow
