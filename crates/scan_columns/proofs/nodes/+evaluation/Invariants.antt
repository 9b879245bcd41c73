use Rattle.std.proofs.Common.{◌≡◌, ◌+◌, ◌*◌, map, take, drop}
use Rattle.std.specs.List.{list_any}
use Rattle.scan_expr.specs.Expr.{expr_size}
use Rattle.scan_expr.specs.Bound.{exprs_of}
use Rattle.scan_columns.specs.Cells.{vals_in}
use Rattle.scan_columns.specs.Rows.{rows_of, bound_in, bound_overflows_in}
use Rattle.scan_columns.proofs.Sizes.{total_size}
use Rattle.scan_columns.proofs.nodes.+evaluation.Given as goal

abbrev pub decreases-evaluated : goal.decreases-evaluated
decreases-evaluated l = 2 * expr_size l.expr.now.expr

abbrev pub decreases-one_changed : goal.decreases-one_changed
decreases-one_changed l = 2 * expr_size l.x.now.expr + 1

abbrev pub decreases-two_combined : goal.decreases-two_combined
decreases-two_combined l = 2 * (expr_size l.x.now.expr + expr_size l.y.now.expr) + 1

abbrev pub decreases-each_evaluated : goal.decreases-each_evaluated
decreases-each_evaluated l = 2 * total_size (exprs_of l.parts.now) + 1

abbrev pub invariant-each_evaluated-loop-part : goal.invariant-each_evaluated-loop-part
invariant-each_evaluated-loop-part l = record {
  values : map vals_in l.columns.items ≡ map (bound_in (rows_of l.rows)) (take l.part-index l.parts);
  within : list_any (bound_overflows_in (rows_of l.rows)) l.parts ≡ list_any (bound_overflows_in (rows_of l.rows)) (drop l.part-index l.parts);
}
