use borrow.Author.Rules.{rules}
use Rattle.std.proofs.Common.{◌≡◌, Some, ap, sym, ◌∙◌}
use Rattle.scan_values.specs.Kinds.{element_of}
use Rattle.scan_expr_tests.proofs.Typing.{of_type}
use Rattle.scan_expr_tests.proofs.leaves.cut.Goals as goal

pub lists-requires-clause-element : goal.lists-requires-clause-element
lists-requires-clause-element g c =
    let shared : c.deref.result.now ≡ c.args.dtype.value = search (rules, c.deref.ensures) in
    let element : Some c.in-Some.element.now ≡ element_of c.deref.result.now = search (rules, c.in-Some.ensures) in
    ap Some (sym c.dtype.ensures ∙ of_type c.dtype.result.now c.in-Some.element.now (sym c.if-ne.false ∙ c.ne.ensures)) ∙ element ∙ ap element_of shared
