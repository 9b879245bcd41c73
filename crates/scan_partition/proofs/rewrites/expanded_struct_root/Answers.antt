use Rattle.std.proofs.Common.{◌≡◌, ◌≤◌, ap, sym, subst, ◌∙◌, arith}
use Rattle.scan_values.specs.DataType.{DataType, depth_of}
use Rattle.scan_expr.specs.Bound.{bound_of}
use Rattle.scan_partition.specs.Expand.{expanded_struct_root}
use Rattle.scan_partition.specs.Partable.{CanPart}
use Rattle.scan_partition.specs.Rewrite.{NodesHold}
use Rattle.scan_expr.specs.Expr.{root}
use Rattle.scan_partition.specs.Split.{IsWhole}
use Rattle.scan_partition.proofs.Wholes.{root_whole}
use Rattle.scan_partition.proofs.Loops.{if_ok}
use Rattle.scan_partition.proofs.Calls.{struct_root_fits}
use Rattle.scan_partition.proofs.Again.{root_can_part}
use Rattle.scan_partition.proofs.rewrites.expanded_struct_root.Goals as goal

pub expanded_root-requires : goal.expanded_root-requires
expanded_root-requires c =
    let deep : depth_of c.args.dtype.now ≤ 66 = omega arith in
    subst (λ (s : DataType). NodesHold s (expanded_struct_root s)) (sym (c.in_ok-scope.ensures.ok ∙ c.in_ok-copy.ensures)) (struct_root_fits c.args.dtype.now c.requires deep)

pub returns-clause-exact : goal.returns-clause-exact
returns-clause-exact c = if_ok _ _ c.expanded_root.result (λ b h. h ∙ ap (λ (s : DataType). bound_of s (expanded_struct_root s)) (c.in_ok-scope.ensures.ok ∙ c.in_ok-copy.ensures)) c.expanded_root.ensures

pub returns-clause-values : goal.returns-clause-values
returns-clause-values c d =
    if_ok (λ b. b ≡ bound_of c.args.dtype.now (expanded_struct_root c.args.dtype.now)) _ c.expanded_root.result (λ b h. subst (IsWhole (bound_of c.args.dtype.now root)) (sym h) (root_whole c.args.dtype.now c.requires d)) (returns-clause-exact c)

pub returns-clause-again : goal.returns-clause-again
returns-clause-again c s = if_ok (λ b. b ≡ bound_of c.args.dtype.now (expanded_struct_root c.args.dtype.now)) CanPart c.expanded_root.result (λ b h. subst CanPart (sym h) (root_can_part c.args.dtype.now c.requires s)) (returns-clause-exact c)
