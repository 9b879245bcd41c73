use Rattle.std.proofs.Common.{◌≡◌, sym, subst, ◌∙◌}
use Rattle.scan_values.specs.DataType.{DataType}
use Rattle.scan_expr.specs.Bound.{bound_of}
use Rattle.scan_partition.specs.Rewrite.{rewritten, NodesHold}
use Rattle.scan_partition.specs.Rewritings.{rules_of}
use Rattle.scan_partition.specs.RowDivided.{number_type}
use Rattle.scan_partition.specs.declared.rewrite.Rewriting.TheVariants.{Number}
use Rattle.scan_partition.proofs.Loops.{if_ok}
use Rattle.scan_partition.proofs.RowParts.{numbers}
use Rattle.scan_partition.proofs.row_idx.over_number.Goals as goal

pub rewritten-requires : goal.rewritten-requires
rewritten-requires c =
    let s : c.in_ok-scope.scope.value ≡ number_type = c.in_ok-scope.ensures.ok ∙ c.primitive-number.ensures in
    subst (λ (d : DataType). NodesHold d (rewritten (rules_of Number d) c.args.expr.now.expr)) (sym s) (subst (NodesHold number_type) (sym (numbers number_type c.args.expr.now.expr)) c.requires)

pub returns : goal.returns
returns c =
    let s : c.in_ok-scope.scope.value ≡ number_type = c.in_ok-scope.ensures.ok ∙ c.primitive-number.ensures in
    if_ok _ _ c.rewritten.result (λ b h. h ∙ (λ i. bound_of (s i) (numbers c.in_ok-scope.scope.value c.args.expr.now.expr i))) c.rewritten.ensures
