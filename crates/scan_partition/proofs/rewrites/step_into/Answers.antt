use Rattle.std.proofs.Common.{◌≡◌, ap, sym, subst, ◌∙◌}
use Rattle.scan_values.specs.DataType.{DataType}
use Rattle.scan_expr.specs.Bound.{Bound, bound_of}
use Rattle.scan_partition.specs.Partable.{IsPartable}
use Rattle.scan_expr.specs.Infer.{infer}
use Rattle.scan_expr.specs.Eval.{eval}
use Rattle.scan_expr.specs.Expr.{uses_row_index}
use Rattle.scan_partition.specs.Items.{spelled}
use Rattle.scan_partition.specs.Partition.{step_into}
use Rattle.scan_partition.specs.Rewrite.{rewritten, NodesHold}
use Rattle.scan_partition.specs.Rewritings.{rules_of}
use Rattle.scan_partition.specs.declared.rewrite.Rewriting.TheVariants.{StepIn}
use Rattle.scan_expr.specs.Overflow.{overflows}
use Rattle.scan_partition.specs.Stepped.{IsOverTighter}
use Rattle.scan_partition.proofs.PartOverflows.{step_into-overflows, through-overflows}
use Rattle.scan_partition.proofs.Through.{own_reads}
use Rattle.scan_partition.proofs.Loops.{if_ok}
use Rattle.scan_partition.proofs.Unnumbered.{step_numbers}
use Rattle.scan_partition.proofs.Kept.{steps}
use Rattle.scan_partition.proofs.Calls.{stepped_seen, any_value}
use Rattle.scan_partition.proofs.Stepping.{step_fits, step_tighter, step_known, step_known_overflows}
use Rattle.scan_partition.proofs.Partable.{stepped_partable}
use Rattle.scan_partition.proofs.rewrites.step_into.Goals as goal

pub rewritten-requires : goal.rewritten-requires
rewritten-requires c =
    subst (λ (d : DataType). NodesHold d (rewritten (rules_of StepIn d) c.args.expr.now.expr)) (sym (c.in_ok-scope.ensures.ok ∙ c.in_ok-copy.ensures))
    (step_fits c.args.expr.now.scope c.args.field_dtype.now c.args.item.now c.args.expr.now.expr c.requires.expanded c.requires.alone c.requires.dtype c.dtype-typed.ensures.faultless c.requires.partable.nodes)

pub returns-clause-exact : goal.returns-clause-exact
returns-clause-exact c =
    if_ok _ _ c.rewritten.result (λ b h. h ∙ (λ i. bound_of ((c.in_ok-scope.ensures.ok ∙ c.in_ok-copy.ensures) i) (steps c.in_ok-scope.scope.value c.args.expr.now.expr i))) c.rewritten.ensures

pub returns-clause-own : goal.returns-clause-own
returns-clause-own c same =
    if_ok _ _ c.rewritten.result
    (λ b h.
    let is : b ≡ bound_of (infer c.args.expr.now.scope (spelled c.args.item.now)) (step_into c.args.expr.now.expr) = h ∙ ap (λ (d : DataType). bound_of d (step_into c.args.expr.now.expr)) same in
    record {
      dtype = ap (λ (x : Bound). infer x.scope x.expr) is ∙ ap (λ x. x.0) (stepped_seen c.args.expr.now.scope c.args.item.now c.args.expr.now.expr any_value 0 c.requires.expanded c.requires.alone);
      values = λ v k. ap (λ (x : Bound). eval x.scope x.expr (eval c.args.expr.now.scope (spelled c.args.item.now) v k) k) is ∙ ap (λ x. x.1) (stepped_seen c.args.expr.now.scope c.args.item.now c.args.expr.now.expr v k c.requires.expanded c.requires.alone);
      overflow = λ v k.
          ap (λ (x : Bound). overflows x.scope x.expr (eval c.args.expr.now.scope (spelled c.args.item.now) v k) k) is
          ∙ step_into-overflows (own_reads c.args.expr.now.scope v k) k c.args.item.now c.args.expr.now.expr c.requires.expanded c.requires.alone ∙ through-overflows c.args.expr.now.scope v k c.args.expr.now.expr c.requires.expanded;
    })
    (returns-clause-exact c)

pub returns-clause-tighter : goal.returns-clause-tighter
returns-clause-tighter c =
    let s = c.args.expr.now.scope in
    let d = c.args.field_dtype.now in
    let i = c.args.item.now in
    let e = c.args.expr.now.expr in
    if_ok _ _ c.rewritten.result
    (λ b h. subst (IsOverTighter c.args.expr.now c.args.item.now) (sym h) (record {
      dtype = step_tighter s d i e c.requires.expanded c.requires.alone c.requires.dtype c.dtype-typed.ensures.faultless;
      values = λ v k r. step_known s d i e c.requires.expanded c.requires.alone c.requires.dtype c.dtype-typed.ensures.faultless v k r.small r.fit r.known;
      overflow = λ v k r. step_known_overflows s d i e c.requires.expanded c.requires.alone c.requires.dtype c.dtype-typed.ensures.faultless v k r.small r.fit r.known;
    }))
    (returns-clause-exact c)

pub returns-clause-again : goal.returns-clause-again
returns-clause-again c = if_ok _ _ c.rewritten.result (λ b h. subst IsPartable (sym h) (stepped_partable c.args.expr.now c.args.item.now c.args.field_dtype.now c.requires.partable c.requires.expanded c.requires.alone c.requires.dtype)) (returns-clause-exact c)

pub returns-clause-numbers : goal.returns-clause-numbers
returns-clause-numbers c = if_ok (λ b. b ≡ bound_of c.args.field_dtype.now (step_into c.args.expr.now.expr)) _ c.rewritten.result (λ b h. ap (λ (x : Bound). uses_row_index x.expr) h ∙ step_numbers c.args.expr.now.expr) (returns-clause-exact c)
