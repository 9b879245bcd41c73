use borrow.Author.Rules.{rules}
use Rattle.std.proofs.Common.{◌≡◌, [], ◌∷◌, ◌++◌, cond}
use Rattle.scan_values.specs.Val.{bool_val, null_val, text_val}
use Rattle.scan_columns.specs.Operands.{pair_val}
use Rattle.scan_columns.specs.Texts.{texts_in}
use Rattle.scan_columns.proofs.KernelLemmas.{slots_step}
use Rattle.scan_columns.proofs.strings.texts_compared.Goals as goal

pub loop-i-preserved : goal.loop-i-preserved
loop-i-preserved c =
    let made = c.compared_slots-bit.result in
    let values : c.push.new.self.items ≡ c.loop-i.values.items ++ (made.0 ∷ []) = search (rules, c.in_ok-push.ensures.items) in
    let valid : c.push-in-loop-i.new.self.items ≡ c.loop-i.valid.items ++ (made.1 ∷ []) = search (rules, c.in_ok-push-2.ensures.items) in
    let step = slots_step bool_val (pair_val c.args.op) (texts_in c.args.x.now) (texts_in c.args.y.now) c.loop-i.i (cond c.slot.result.1 (text_val c.slot.result.0.now) null_val) (cond c.slot-in-loop-i.result.1 (text_val c.slot-in-loop-i.result.0.now) null_val)
    c.loop-i.values.items c.push.new.self.items c.loop-i.valid.items c.push-in-loop-i.new.self.items made.0 made.1 c.slot.ensures c.slot-in-loop-i.ensures values valid c.compared_slots-bit.ensures c.loop-i.invariant.even c.loop-i.invariant.same in
    record { even = step.0; same = step.1 }
