use Rattle.std.proofs.Common.{◌≡◌, map, take, drop}
use Rattle.scan_expr.specs.Eval.{eval}
use Rattle.scan_expr.proofs.Evals.{mark, part_overflows}
use Rattle.scan_expr.proofs.bound.BoundExpression.+evaluate.Given as goal

abbrev pub invariant-loop-child : goal.invariant-loop-child
invariant-loop-child l = record {
  values : map mark l.items.items ≡ map (λ b. eval b.scope b.expr (mark l.row) l.index) (take l.child-index l.child-items);
  within : part_overflows (mark l.row) l.index l.child-items ≡ part_overflows (mark l.row) l.index (drop l.child-index l.child-items);
}
