use borrow.Author.Rules.{rules}
use Rattle.std.proofs.Common.{◌≡◌, true, false, map, ap, sym, ◌∙◌}
use Rattle.scan_values.specs.Val.{marked, read_marked, read-marked}
use Rattle.scan_values.specs.Values.{val_of}
use Rattle.scan_expr.specs.Lending.{lent_val}
use Rattle.scan_expr.specs.Eval.{binary_value}
use Rattle.scan_expr.specs.Overflow.{spills}
use Rattle.scan_columns.specs.Cells.{vals_in}
use Rattle.scan_columns.specs.Evaluated.{binary_val, spills_in}
use Rattle.scan_columns.proofs.ListLemmas.{map_pushed}
use Rattle.scan_columns.proofs.Pairing.{pair_step, spill_within, spill_over}
use Rattle.scan_columns.proofs.binary.by_values.Goals as goal

pub returns-in_err-value-clause-overflow : goal.returns-in_err-value-clause-overflow
returns-in_err-value-clause-overflow c = λ h.
    let vs = vals_in c.args.x.now in
    let ws = vals_in c.args.y.now in
    let here : spills c.args.op c.args.dtype.now (marked (lent_val c.in_ok-first.first)) (marked (lent_val c.in_ok-second.second)) ≡ true = search (rules, h) in
    spill_over vs ws c.loop-i.i (lent_val c.in_ok-first.first) (lent_val c.in_ok-second.second) c.in_ok-first.ensures c.in_ok-second.ensures c.args.op c.args.dtype.now (spills_in c.args.op c.args.dtype.now vs ws) here c.loop-i.invariant.within

pub loop-i-preserved : goal.loop-i-preserved
loop-i-preserved c =
    let vs = vals_in c.args.x.now in
    let ws = vals_in c.args.y.now in
    let v = lent_val c.in_ok-first.first in
    let w = lent_val c.in_ok-second.second in
    let u = val_of c.in_ok-value.value in
    let value : marked u ≡ binary_value c.args.op c.args.dtype.now (marked v) (marked w) = search (rules, c.in_ok-value.ensures.value) in
    let here : spills c.args.op c.args.dtype.now (marked v) (marked w) ≡ false = search (rules, c.in_ok-value.ensures.within) in
    record {
      values = pair_step vs ws c.loop-i.i v w c.in_ok-first.ensures c.in_ok-second.ensures (binary_val c.args.op c.args.dtype.now) u (map val_of c.loop-i.items.items) (map val_of c.push.new.self.items)
          (rw (c.in_ok-push.ensures.items) (map_pushed val_of c.loop-i.items.items c.in_ok-value.value)) (sym (read-marked u) ∙ ap read_marked value) c.loop-i.invariant.values;
      within = spill_within vs ws c.loop-i.i v w c.in_ok-first.ensures c.in_ok-second.ensures c.args.op c.args.dtype.now (spills_in c.args.op c.args.dtype.now vs ws) here c.loop-i.invariant.within;
    }
