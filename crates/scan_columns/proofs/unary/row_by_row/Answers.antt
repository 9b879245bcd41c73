use borrow.Author.Rules.{rules}
use Rattle.std.proofs.Common.{◌≡◌, true, false, map}
use Rattle.scan_values.specs.Val.{marked}
use Rattle.scan_values.specs.Values.{val_of}
use Rattle.scan_expr.specs.Lending.{lent_val}
use Rattle.scan_expr.specs.Eval.{eval}
use Rattle.scan_expr.specs.Overflow.{overflows, overflows_on}
use Rattle.scan_columns.specs.Cells.{vals_in}
use Rattle.scan_columns.proofs.ListLemmas.{map_pushed}
use Rattle.scan_columns.proofs.Evaluation.{value_step, within_step, over_step}
use Rattle.scan_columns.proofs.unary.row_by_row.Goals as goal

pub returns-in_err-value-clause-overflow : goal.returns-in_err-value-clause-overflow
returns-in_err-value-clause-overflow c = λ h.
    let s = c.args.expr.now.scope in
    let e = c.args.expr.now.expr in
    let vs = vals_in c.args.cells.now in
    let here : overflows s e (marked (lent_val c.in_ok-row.row)) 0 ≡ true = search (rules, h) in
    over_step (λ v. overflows s e (marked v) 0) vs c.loop-i.i (lent_val c.in_ok-row.row) (overflows_on s e vs) c.in_ok-row.ensures here c.loop-i.invariant.within

pub loop-i-preserved : goal.loop-i-preserved
loop-i-preserved c =
    let s = c.args.expr.now.scope in
    let e = c.args.expr.now.expr in
    let vs = vals_in c.args.cells.now in
    let row = lent_val c.in_ok-row.row in
    let value : marked (val_of c.in_ok-value.value) ≡ eval s e (marked row) 0 = search (rules, c.in_ok-value.ensures.value) in
    let here : overflows s e (marked row) 0 ≡ false = search (rules, c.in_ok-value.ensures.within) in
    record {
      values = value_step s e vs c.loop-i.i row (val_of c.in_ok-value.value) (map val_of c.loop-i.items.items) (map val_of c.push.new.self.items) (rw (c.in_ok-push.ensures.items) (map_pushed val_of c.loop-i.items.items c.in_ok-value.value)) value c.in_ok-row.ensures c.loop-i.invariant.values;
      within = within_step (λ v. overflows s e (marked v) 0) vs c.loop-i.i row (overflows_on s e vs) c.in_ok-row.ensures here c.loop-i.invariant.within;
    }
