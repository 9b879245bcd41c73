use borrow.Author.Rules.{rules}
use Rattle.std.proofs.Common.{◌≡◌, false}
use Rattle.scan_expr.specs.Expr.{uses_row_index}
use Rattle.scan_readers.proofs.RowWalk.{unnumbered_result}
use Rattle.scan_readers.proofs.row_idx.plan_with_numbers.Goals as goal

pub returns-then-not-uses_row_idx-clause-plan : goal.returns-then-not-uses_row_idx-clause-plan
returns-then-not-uses_row_idx-clause-plan g c =
    let free : uses_row_index c.args.expr.now.expr ≡ false = search (rules, c.if-not-uses_row_idx.true, c.uses_row_idx.ensures) in
    unnumbered_result (g.R.LayoutReader.state c.args.child.now) c.args.first c.args.expr.now c.plan.result free c.plan.ensures.plan
