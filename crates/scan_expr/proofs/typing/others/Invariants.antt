use Rattle.scan_expr.proofs.Choices.{AreLeft}
use Rattle.scan_expr.proofs.typing.others.Given as goal

abbrev pub invariant-loop-i : goal.invariant-loop-i
invariant-loop-i l = AreLeft l.names l.fields l.i l.left.items l.dtypes.items
