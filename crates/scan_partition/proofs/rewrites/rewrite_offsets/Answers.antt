use Rattle.std.proofs.Common.{ap, sym, subst, ◌∙◌}
use Rattle.scan_values.specs.DataType.{DataType}
use Rattle.scan_partition.specs.Lists.{rewrite_offsets}
use Rattle.scan_expr.specs.Bound.{Bound, bound_of}
use Rattle.scan_partition.specs.Partable.{IsPartable}
use Rattle.scan_expr.specs.Infer.{infer}
use Rattle.scan_expr.specs.Expr.{uses_row_index}
use Rattle.scan_partition.specs.Rewrite.{rewritten, NodesHold}
use Rattle.scan_partition.specs.Rewritings.{rules_of}
use Rattle.scan_partition.specs.Tighter.{IsTighter}
use Rattle.scan_partition.specs.declared.rewrite.Rewriting.TheVariants.{Lengths}
use Rattle.scan_partition.specs.Stepped.{IsOverLengths}
use Rattle.scan_partition.proofs.ExpandOverflows.{offsets_overflows}
use Rattle.scan_partition.proofs.OffsetOverflows.{offsets_overflow_only}
use Rattle.scan_partition.proofs.Typed.{typed_nodes}
use Rattle.scan_partition.proofs.Loops.{if_ok}
use Rattle.scan_partition.proofs.Ruled.{lengths}
use Rattle.scan_partition.proofs.Classes.{rewrite_offsets_seen}
use Rattle.scan_partition.proofs.Calls.{length_fits, length_tighter, any_list}
use Rattle.scan_partition.proofs.Partable.{lengths_partable}
use Rattle.scan_partition.proofs.Unnumbered.{length_numbers}
use Rattle.scan_partition.proofs.rewrites.rewrite_offsets.Goals as goal

pub rewritten-requires : goal.rewritten-requires
rewritten-requires c =
    subst (λ (d : DataType). NodesHold d (rewritten (rules_of Lengths d) c.args.expr.now.expr)) (sym (c.in_ok-scope.ensures.ok ∙ c.in_ok-copy.ensures))
    (length_fits c.args.expr.now.scope c.args.lengths.now c.requires.lengths c.args.expr.now.expr c.requires.class c.know_depths.ensures c.dtype-typed.ensures.faultless)

pub returns-clause-exact : goal.returns-clause-exact
returns-clause-exact c =
    if_ok _ _ c.rewritten.result (λ b h. h ∙ (λ i. bound_of ((c.in_ok-scope.ensures.ok ∙ c.in_ok-copy.ensures) i) (lengths c.in_ok-scope.scope.value c.args.expr.now.expr i))) c.rewritten.ensures

pub returns-clause-tighter : goal.returns-clause-tighter
returns-clause-tighter c =
    if_ok _ _ c.rewritten.result (λ b h. subst (λ (x : Bound). IsTighter (infer x.scope x.expr) (infer c.args.expr.now.scope c.args.expr.now.expr)) (sym h) (length_tighter c.args.expr.now.scope c.args.lengths.now c.requires.lengths c.args.expr.now.expr c.requires.class)) (returns-clause-exact c)

pub returns-clause-own : goal.returns-clause-own
returns-clause-own c same =
    let s = c.args.expr.now.scope in
    let e = c.args.expr.now.expr in
    if_ok _ _ c.rewritten.result
    (λ b h. subst (IsOverLengths c.args.expr.now) (sym (h ∙ ap (λ (d : DataType). bound_of d (rewrite_offsets c.args.expr.now.expr)) same)) (record {
      dtype = ap (λ x. x.0) (rewrite_offsets_seen s any_list 0 tt e c.requires.class);
      values = λ v k r. ap (λ x. x.1) (rewrite_offsets_seen s v k r e c.requires.class);
      overflow = λ v k r. offsets_overflows s v k r e c.requires.class;
      damaged = λ el n v k is fit small. offsets_overflow_only s e el n v k is fit small (typed_nodes s e c.dtype-typed.ensures.faultless) c.requires.class;
    }))
    (returns-clause-exact c)

pub returns-clause-again : goal.returns-clause-again
returns-clause-again c = if_ok _ _ c.rewritten.result (λ b h p. subst IsPartable (sym h) (lengths_partable c.args.expr.now c.args.lengths.now p c.requires.class c.requires.lengths)) (returns-clause-exact c)

pub returns-clause-numbers : goal.returns-clause-numbers
returns-clause-numbers c = if_ok _ _ c.rewritten.result (λ b h. ap (λ (x : Bound). uses_row_index x.expr) h ∙ length_numbers c.args.expr.now.expr) (returns-clause-exact c)
