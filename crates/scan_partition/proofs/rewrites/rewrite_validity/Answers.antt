use Rattle.std.proofs.Common.{ap, sym, subst, ◌∙◌}
use Rattle.scan_values.specs.DataType.{DataType}
use Rattle.scan_expr.specs.Bound.{Bound, bound_of}
use Rattle.scan_partition.specs.Partable.{IsPartable}
use Rattle.scan_expr.specs.Expr.{uses_row_index}
use Rattle.scan_partition.specs.declared.item.Item.TheVariants.{Validity as TheValidity}
use Rattle.scan_partition.specs.Rewrite.{rewritten, NodesHold}
use Rattle.scan_partition.specs.Rewritings.{rules_of}
use Rattle.scan_partition.specs.declared.rewrite.Rewriting.TheVariants.{Validity}
use Rattle.scan_partition.specs.Stepped.{IsOverItem}
use Rattle.scan_partition.proofs.ExpandOverflows.{validity_overflows}
use Rattle.scan_partition.proofs.Loops.{if_ok}
use Rattle.scan_partition.proofs.Unnumbered.{validity_numbers}
use Rattle.scan_partition.proofs.Ruled.{validities}
use Rattle.scan_partition.proofs.Classes.{rewrite_validity_seen}
use Rattle.scan_partition.proofs.Calls.{validity_fits, any_value}
use Rattle.scan_partition.proofs.Partable.{validity_partable}
use Rattle.scan_partition.proofs.rewrites.rewrite_validity.Goals as goal

pub rewritten-requires : goal.rewritten-requires
rewritten-requires c =
    subst (λ (s : DataType). NodesHold s (rewritten (rules_of Validity s) c.args.expr.now.expr)) (sym (c.in_ok-scope.ensures.ok ∙ c.bool-here.ensures)) (validity_fits c.args.expr.now.scope c.args.expr.now.expr c.requires c.know_depths.ensures c.dtype-typed.ensures.faultless)

pub returns-clause-exact : goal.returns-clause-exact
returns-clause-exact c =
    if_ok _ _ c.rewritten.result (λ b h. h ∙ (λ i. bound_of ((c.in_ok-scope.ensures.ok ∙ c.bool-here.ensures) i) (validities c.in_ok-scope.scope.value c.args.expr.now.expr i))) c.rewritten.ensures

pub returns-clause-own : goal.returns-clause-own
returns-clause-own c =
    let s = c.args.expr.now.scope in
    let e = c.args.expr.now.expr in
    if_ok _ _ c.rewritten.result
    (λ b h. subst (IsOverItem c.args.expr.now TheValidity) (sym h) (record {
      dtype = ap (λ x. x.0) (rewrite_validity_seen s any_value 0 e c.requires);
      values = λ v k. ap (λ x. x.1) (rewrite_validity_seen s v k e c.requires);
      overflow = λ v k. validity_overflows s v k e c.requires;
    }))
    (returns-clause-exact c)

pub returns-clause-again : goal.returns-clause-again
returns-clause-again c = if_ok _ _ c.rewritten.result (λ b h p. subst IsPartable (sym h) (validity_partable c.args.expr.now p c.requires)) (returns-clause-exact c)

pub returns-clause-numbers : goal.returns-clause-numbers
returns-clause-numbers c = if_ok _ _ c.rewritten.result (λ b h. ap (λ (x : Bound). uses_row_index x.expr) h ∙ validity_numbers c.args.expr.now.expr) (returns-clause-exact c)
