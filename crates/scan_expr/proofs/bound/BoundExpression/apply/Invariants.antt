use Rattle.std.proofs.Common.{◌≡◌, map, take, drop}
use Rattle.scan_expr.specs.Eval.{eval}
use Rattle.scan_expr.proofs.Evals.{mark, row_overflows}
use Rattle.scan_expr.proofs.bound.BoundExpression.apply.Given as goal

abbrev pub invariant-loop-row : goal.invariant-loop-row
invariant-loop-row l = record {
  values : map mark l.items.items ≡ map (λ v. eval l.self.scope l.self.expr (mark v) 0) (take l.row-index l.rows);
  within : row_overflows l.self.scope l.self.expr l.rows ≡ row_overflows l.self.scope l.self.expr (drop l.row-index l.rows);
}
