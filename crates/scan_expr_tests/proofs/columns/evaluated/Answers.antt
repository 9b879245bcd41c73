use Rattle.std.proofs.Common.{sym, ◌∙◌}
use Rattle.scan_expr_tests.proofs.Typing.{of_type}
use Rattle.scan_expr_tests.proofs.columns.evaluated.Goals as goal

pub evaluate-requires-clause-scope : goal.evaluate-requires-clause-scope
evaluate-requires-clause-scope g c =
    sym c.dtype-2.ensures ∙ of_type c.dtype-2.result.now c.scope.result.now (sym c.if-ne.false ∙ c.ne.ensures) ∙ c.scope.ensures

pub evaluate_owned-requires-clause-scope : goal.evaluate_owned-requires-clause-scope
evaluate_owned-requires-clause-scope g c =
    sym c.dtype-2.ensures ∙ of_type c.dtype-2.result.now c.scope.result.now (sym c.if-ne.false ∙ c.ne.ensures) ∙ c.scope.ensures

pub evaluate_mask-requires-clause-scope : goal.evaluate_mask-requires-clause-scope
evaluate_mask-requires-clause-scope g c =
    sym c.dtype-2.ensures ∙ of_type c.dtype-2.result.now c.scope.result.now (sym c.if-ne.false ∙ c.ne.ensures) ∙ c.scope.ensures
