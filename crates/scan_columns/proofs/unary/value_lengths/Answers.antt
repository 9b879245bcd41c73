use borrow.Author.Rules.{rules}
use Rattle.std.proofs.Common.{◌≡◌, [], ◌∷◌, ◌++◌, ap, ◌∙◌}
use Rattle.scan_values.specs.Val.{int_val}
use Rattle.scan_expr.specs.Lending.{lent_val}
use Rattle.scan_columns.specs.Cells.{vals_in}
use Rattle.scan_columns.specs.Operands.{length_val}
use Rattle.scan_columns.proofs.KernelLemmas.{slot_step}
use Rattle.scan_columns.proofs.unary.value_lengths.Goals as goal

pub loop-i-preserved : goal.loop-i-preserved
loop-i-preserved c =
    let made = c.length_slot-length.result in
    let values : c.push.new.self.items ≡ c.loop-i.values.items ++ (made.0 ∷ []) = search (rules, c.in_ok-push.ensures.items) in
    let valid : c.push-in-loop-i.new.self.items ≡ c.loop-i.valid.items ++ (made.1 ∷ []) = search (rules, c.in_ok-push-2.ensures.items) in
    let step = slot_step int_val length_val (vals_in c.args.cells.now) c.loop-i.i (lent_val c.in_ok-row.row)
    c.loop-i.values.items c.push.new.self.items c.loop-i.valid.items c.push-in-loop-i.new.self.items made.0 made.1 c.in_ok-row.ensures values valid (c.length_slot-length.ensures ∙ ap length_val c.as_value.ensures) c.loop-i.invariant.even c.loop-i.invariant.same in
    record { even = step.0; same = step.1 }
