use borrow.Author.Rules.{rules}
use Rattle.std.proofs.Common.{◌≡◌, ap, sym, ◌∙◌}
use Rattle.scan_values.specs.Arrays.{ArrayData}
use Rattle.scan_expr_tests.proofs.Typing.{of_type}
use Rattle.scan_expr_tests.proofs.leaves.rows_of.Goals as goal

pub from_leaf-requires-clause-dtype : goal.from_leaf-requires-clause-dtype
from_leaf-requires-clause-dtype g c =
    let shared : c.deref.result.now ≡ c.args.dtype.value = search (rules, c.deref.ensures) in
    sym c.dtype.ensures ∙ of_type c.dtype.result.now c.deref.result.now (sym c.if-ne.false ∙ c.ne.ensures) ∙ shared

pub extend_from_leaf-requires-clause-dtype : goal.extend_from_leaf-requires-clause-dtype
extend_from_leaf-requires-clause-dtype g c =
    let shared : c.deref.result.now ≡ c.args.dtype.value = search (rules, c.deref.ensures) in
    sym c.dtype.ensures ∙ of_type c.dtype.result.now c.deref.result.now (sym c.if-ne.false ∙ c.ne.ensures) ∙ shared ∙ sym (ap (λ (x : ArrayData). x.dtype) c.in_ok-column.ensures)
