use Rattle.std.proofs.Common.{◌≡◌, ◌<◌, ◌^◌, [], length, map, ap, sym, subst, ◌∙◌}
use Rattle.scan_values.specs.DataType.{DataType}
use Rattle.scan_expr.specs.Bound.{Bound, bound_of}
use Rattle.scan_partition.specs.Partition.{cuts, groups_of, root_of, joined_type}
use Rattle.scan_partition.specs.Divided.{stepped, type_of_part}
use Rattle.scan_partition.specs.Dividing.{GroupsFit}
use Rattle.scan_partition.specs.Rewrite.{rewritten, NodesHold}
use Rattle.scan_partition.specs.Rewritings.{rules_of}
use Rattle.scan_partition.specs.RowDivided.{numbered_scope, partition_of}
use Rattle.scan_partition.specs.declared.rewrite.Rewriting.TheVariants.{Lift}
use Rattle.scan_partition.proofs.RowParts.{lifts, lift_fits, row_parts_fit, row_root_fits, rows_are}
use Rattle.scan_partition.proofs.row_idx.by_both.Goals as goal

pub rewritten-requires : goal.rewritten-requires
rewritten-requires c =
    let s : c.in_ok-scope.scope.value ≡ numbered_scope c.args.expr.now.scope = c.in_ok-scope.ensures.ok ∙ c.in_ok-numbered_scope.ensures ∙ ap numbered_scope c.scope.ensures in
    subst (λ (d : DataType). NodesHold d (rewritten (rules_of Lift d) c.args.expr.now.expr)) (sym s)
    (subst (NodesHold (numbered_scope c.args.expr.now.scope)) (sym (lifts (numbered_scope c.args.expr.now.scope) c.args.expr.now.expr)) (lift_fits c.args.expr.now c.requires c.dtype-typed.ensures.faultless))

pub divide-requires-clause-parts : goal.divide-requires-clause-parts
divide-requires-clause-parts c =
    let s : c.in_ok-scope.scope.value ≡ numbered_scope c.args.expr.now.scope = c.in_ok-scope.ensures.ok ∙ c.in_ok-numbered_scope.ensures ∙ ap numbered_scope c.scope.ensures in
    subst (λ (y : Bound). GroupsFit (stepped y.scope) (groups_of (cuts y.expr))) (sym (c.in_ok-lifted.ensures ∙ (λ i. bound_of (s i) (lifts c.in_ok-scope.scope.value c.args.expr.now.expr i))))
    (row_parts_fit c.args.expr.now c.requires c.dtype-typed.ensures.faultless)

pub divide-requires-clause-root : goal.divide-requires-clause-root
divide-requires-clause-root c =
    let s : c.in_ok-scope.scope.value ≡ numbered_scope c.args.expr.now.scope = c.in_ok-scope.ensures.ok ∙ c.in_ok-numbered_scope.ensures ∙ ap numbered_scope c.scope.ensures in
    subst (λ (y : Bound). length (cuts y.expr) < 2 ^ 64 → NodesHold (joined_type (type_of_part (stepped y.scope)) (cuts y.expr)) (root_of (cuts y.expr) [] y.expr)) (sym (c.in_ok-lifted.ensures ∙ (λ i. bound_of (s i) (lifts c.in_ok-scope.scope.value c.args.expr.now.expr i))))
    (row_root_fits c.args.expr.now c.requires c.dtype-typed.ensures.faultless)

pub returns-clause-exact : goal.returns-clause-exact
returns-clause-exact c =
    let s : c.in_ok-scope.scope.value ≡ numbered_scope c.args.expr.now.scope = c.in_ok-scope.ensures.ok ∙ c.in_ok-numbered_scope.ensures ∙ ap numbered_scope c.scope.ensures in
    rows_are c.in_ok-items.items.items c.in_ok-whole.whole c.in_ok-lifted.lifted c.args.expr.now.scope c.args.expr.now.expr (c.in_ok-items.ensures ∙ ap (map partition_of) c.items.ensures.items) c.in_ok-whole.ensures.exact
    (c.in_ok-lifted.ensures ∙ (λ i. bound_of (s i) (lifts c.in_ok-scope.scope.value c.args.expr.now.expr i)))

pub returns-clause-few : goal.returns-clause-few
returns-clause-few c =
    let s : c.in_ok-scope.scope.value ≡ numbered_scope c.args.expr.now.scope = c.in_ok-scope.ensures.ok ∙ c.in_ok-numbered_scope.ensures ∙ ap numbered_scope c.scope.ensures in
    subst (λ (y : Bound). length (cuts y.expr) < 2 ^ 64) (c.in_ok-lifted.ensures ∙ (λ i. bound_of (s i) (lifts c.in_ok-scope.scope.value c.args.expr.now.expr i))) c.in_ok-whole.ensures.few
