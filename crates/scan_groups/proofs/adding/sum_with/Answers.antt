use Rattle.std.proofs.Common.{◌≡◌, [], ◌∷◌, ◌++◌, sym, ◌∙◌, subst, rules}
use mir.Val.{to_z, of_z}
use mir.Syntax.{w128}
use Rattle.std.specs.Prelude.{IfOk}
use Rattle.scan_values.specs.Val.{int_val}
use Rattle.scan_groups.specs.Cells.{cell_val}
use Rattle.scan_groups.specs.Totals.{IsSum}
use Rattle.scan_groups.proofs.Added.{sum_same, sum_push_ok}
use Rattle.scan_groups.proofs.adding.sum_with.Goals as goal

pub returns-then-is_null-clause-more : goal.returns-then-is_null-clause-more
returns-then-is_null-clause-more c = sum_same c.args.sum (cell_val c.args.cell) (sym c.is_null.ensures ∙ c.if-is_null.true)

pub returns-clause-more : goal.returns-clause-more
returns-clause-more c =
    let n = c.number_of.result in
    let back : to_z w128 (of_z w128 n) ≡ n = search rules in
    sum_push_ok c.with.result c.args.sum (cell_val c.args.cell) (sym c.is_null.ensures ∙ c.if-is_null.false)
    (λ us h. subst (λ z. IfOk c.with.result (λ t. IsSum t (us ++ int_val z ∷ []))) (back ∙ c.number_of.ensures) (c.with.ensures.more us h))
