use borrow.Author.Rules.{rules}
use Rattle.std.proofs.Common.{◌≡◌, true, false, map, IfOk, subst, ap, sym, ◌∙◌}
use Rattle.scan_expr.specs.Bound.{Bound, bound_of}
use Rattle.scan_expr.specs.Expr.{unary, root}
use Rattle.scan_expr.specs.Overflow.{overflows_on}
use Rattle.scan_columns.specs.Cells.{vals_in}
use Rattle.scan_columns.specs.Evaluated.{value_on}
use Rattle.scan_columns.proofs.RowLemmas.{unary_safe}
use Rattle.scan_columns.proofs.unary.changed.Goals as goal

pub returns-in_ok-flat-in-None-clause-never : goal.returns-in_ok-flat-in-None-clause-never
returns-in_ok-flat-in-None-clause-never c = λ h.
    let vs = vals_in c.as_cells.result.now in
    let is : c.in_ok-node-in-None.node ≡ bound_of c.args.dtype.now (unary c.args.op.now root) = search (rules, c.in_ok-node-in-None.ensures) in
    let none : overflows_on c.in_ok-node-in-None.node.scope c.in_ok-node-in-None.node.expr vs ≡ false = ap (λ (b : Bound). overflows_on b.scope b.expr vs) is ∙ unary_safe c.args.dtype.now c.args.op.now vs in
    let contrary : true ≡ false = sym (c.row_by_row.ensures.overflow h) ∙ none in
    cc

pub returns-in_ok-flat-in-None-clause-items : goal.returns-in_ok-flat-in-None-clause-items
returns-in_ok-flat-in-None-clause-items c =
    let is : c.in_ok-node-in-None.node ≡ bound_of c.args.dtype.now (unary c.args.op.now root) = search (rules, c.in_ok-node-in-None.ensures) in
    let flat : vals_in c.as_cells.result.now ≡ vals_in c.args.cells.now = search (rules, c.as_cells.ensures, c.in_ok-flat-in-None.ensures) in
    let same = ap (λ (b : Bound). map (value_on b.scope b.expr) (vals_in c.as_cells.result.now)) is ∙ ap (map (value_on c.args.dtype.now (unary c.args.op.now root))) flat in
    subst (λ vs. IfOk c.row_by_row.result (λ d. vals_in d ≡ vs)) same c.row_by_row.ensures.items
