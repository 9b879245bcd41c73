use Rattle.std.proofs.Common.{◌≡◌, ap, sym, subst, ◌∙◌}
use Rattle.scan_values.specs.DataType.{DataType}
use Rattle.scan_expr.specs.Bound.{Bound, bound_of}
use Rattle.scan_expr.specs.Expr.{uses_row_index}
use Rattle.scan_partition.specs.Expand.{expand}
use Rattle.scan_partition.specs.Partable.{CanPart}
use Rattle.scan_partition.specs.Rewrite.{rewritten}
use Rattle.scan_partition.specs.Rewritings.{rules_of}
use Rattle.scan_partition.specs.declared.rewrite.Rewriting.TheVariants.{Expand}
use Rattle.scan_partition.specs.Split.{IsWhole}
use Rattle.scan_partition.proofs.Wholes.{expand_whole}
use Rattle.scan_partition.proofs.Loops.{if_ok}
use Rattle.scan_partition.proofs.Ruled.{expands}
use Rattle.scan_partition.proofs.Calls.{expand_fits}
use Rattle.scan_partition.proofs.Again.{can_part}
use Rattle.scan_partition.proofs.Unnumbered.{expand_numbers}
use Rattle.scan_partition.proofs.Partable.{partable_over}
use Rattle.scan_partition.proofs.rewrites.expand_struct_root.Goals as goal

pub rewritten-requires : goal.rewritten-requires
rewritten-requires c = expand_fits c.args.expr.now c.shared_scope.result.now.value c.shared_scope.ensures (partable_over c.args.expr.now c.requires.partable c.requires.structure) c.dtype-typed.ensures.faultless

pub returns-clause-exact : goal.returns-clause-exact
returns-clause-exact c =
    if_ok _ _ c.rewritten.result
    (λ b h. h ∙ ap (λ (s : DataType). bound_of s (rewritten (rules_of Expand s) c.args.expr.now.expr)) c.shared_scope.ensures ∙ ap (bound_of c.args.expr.now.scope) (expands c.args.expr.now.scope c.args.expr.now.expr)) c.rewritten.ensures

pub returns-clause-values : goal.returns-clause-values
returns-clause-values c =
    if_ok (λ b. b ≡ bound_of c.args.expr.now.scope (expand c.args.expr.now.scope c.args.expr.now.expr)) _ c.rewritten.result
    (λ b h. subst (IsWhole c.args.expr.now) (sym h) (expand_whole c.args.expr.now (partable_over c.args.expr.now c.requires.partable c.requires.structure)))
    (returns-clause-exact c)

pub returns-clause-again : goal.returns-clause-again
returns-clause-again c = if_ok (λ b. b ≡ bound_of c.args.expr.now.scope (expand c.args.expr.now.scope c.args.expr.now.expr)) CanPart c.rewritten.result (λ b h. subst CanPart (sym h) (can_part c.args.expr.now c.requires.partable c.requires.structure)) (returns-clause-exact c)

pub returns-clause-numbers : goal.returns-clause-numbers
returns-clause-numbers c = if_ok (λ b. b ≡ bound_of c.args.expr.now.scope (expand c.args.expr.now.scope c.args.expr.now.expr)) _ c.rewritten.result (λ b h. ap (λ (x : Bound). uses_row_index x.expr) h ∙ expand_numbers c.args.expr.now.scope c.args.expr.now.expr) (returns-clause-exact c)
