use Rattle.std.proofs.Common.{◌≡◌, sym, ◌∙◌}
use Rattle.scan_expr_tests.proofs.Typing.{of_type}
use Rattle.scan_expr_tests.proofs.columns.appended.Goals as goal

pub append-requires : goal.append-requires
append-requires g c = sym c.dtype-2.ensures ∙ sym (of_type c.dtype.result.now c.dtype-2.result.now (sym c.if-ne.false ∙ c.ne.ensures)) ∙ c.dtype.ensures
