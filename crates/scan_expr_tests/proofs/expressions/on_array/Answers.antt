use Rattle.std.proofs.Common.{sym, ◌∙◌}
use Rattle.scan_expr_tests.proofs.Scopes.{scope_is}
use Rattle.scan_expr_tests.proofs.expressions.on_array.Goals as goal

pub apply-requires-clause-scope : goal.apply-requires-clause-scope
apply-requires-clause-scope g c = sym c.dtype.ensures ∙ scope_is c.in_ok-bound.bound c.dtype.result.now c.args.e.now c.in_ok-bound.ensures.is
