use Rattle.std.proofs.Common.{◌≡◌, ap, sym, subst, ◌∙◌}
use Rattle.scan_values.specs.DataType.{DataType}
use Rattle.scan_expr.specs.Bound.{bound_of}
use Rattle.scan_expr.specs.Infer.{struct_fields}
use Rattle.scan_partition.specs.Rows.{item_type}
use Rattle.scan_partition.specs.Soles.{item_seen}
use Rattle.scan_partition.specs.Rewrite.{rewritten, NodesHold}
use Rattle.scan_partition.specs.Rewritings.{rules_of}
use Rattle.scan_partition.specs.declared.rewrite.Rewriting.TheVariants.{StepIn}
use Rattle.scan_partition.specs.declared.struct_.Partitioned.TheVariants.{Single}
use Rattle.scan_partition.proofs.Kept.{steps}
use Rattle.scan_partition.proofs.struct_.single.Goals as goal

pub rewritten-requires : goal.rewritten-requires
rewritten-requires c =
    let q : c.in_ok-over.over.value ≡ item_type (struct_fields c.args.expanded.now.scope) (item_seen c.args.item) =
    c.in_ok-over.ensures.ok ∙ c.in_ok-dtype.ensures ∙ ap (λ (d : DataType). item_type (struct_fields d) (item_seen c.args.item)) c.scope.ensures in
    subst (λ (t : DataType). NodesHold t (rewritten (rules_of StepIn t) c.args.expanded.now.expr)) (sym q)
    (subst (NodesHold (item_type (struct_fields c.args.expanded.now.scope) (item_seen c.args.item))) (sym (steps (item_type (struct_fields c.args.expanded.now.scope) (item_seen c.args.item)) c.args.expanded.now.expr)) c.requires)

pub returns : goal.returns
returns c =
    let q : c.in_ok-over.over.value ≡ item_type (struct_fields c.args.expanded.now.scope) (item_seen c.args.item) =
    c.in_ok-over.ensures.ok ∙ c.in_ok-dtype.ensures ∙ ap (λ (d : DataType). item_type (struct_fields d) (item_seen c.args.item)) c.scope.ensures in
    λ i. Single (c.in_ok-own.ensures i) ((c.in_ok-part.ensures ∙ (λ j. bound_of (q j) (steps c.in_ok-over.over.value c.args.expanded.now.expr j))) i)
