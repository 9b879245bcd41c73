use borrow.Author.Rules.{rules}
use Rattle.std.proofs.Common.{◌≡◌, Some, [], ◌∷◌, ◌++◌, cond, slice_get, sym}
use Rattle.scan_values.specs.Val.{bool_val, null_val, text_val}
use Rattle.scan_columns.specs.Operands.{pair_val}
use Rattle.scan_columns.specs.Texts.{texts_in}
use Rattle.scan_columns.proofs.KernelLemmas.{slots_step, repeated_beside}
use Rattle.scan_columns.proofs.strings.text_compared_with.Goals as goal

pub loop-i-preserved : goal.loop-i-preserved
loop-i-preserved c =
    let made = c.compared_slots-bit.result in
    let values : c.push.new.self.items ≡ c.loop-i.values.items ++ (made.0 ∷ []) = search (rules, c.in_ok-push.ensures.items) in
    let valid : c.push-in-loop-i.new.self.items ≡ c.loop-i.valid.items ++ (made.1 ∷ []) = search (rules, c.in_ok-push-2.ensures.items) in
    let there = cond c.slot.result.1 (text_val c.slot.result.0.now) null_val in
    let beside : Some (text_val c.args.text.now) ≡ slice_get c.args.other.now c.loop-i.i = repeated_beside (text_val c.args.text.now) there (texts_in c.args.y.now) c.args.other.now c.loop-i.i c.slot.ensures (sym c.requires.even) c.requires.same in
    let step = slots_step bool_val (pair_val c.args.op) (c.args.other.now) (texts_in c.args.y.now) c.loop-i.i (text_val c.args.text.now) (cond c.slot.result.1 (text_val c.slot.result.0.now) null_val)
    c.loop-i.values.items c.push.new.self.items c.loop-i.valid.items c.push-in-loop-i.new.self.items made.0 made.1 beside c.slot.ensures values valid c.compared_slots-bit.ensures c.loop-i.invariant.even c.loop-i.invariant.same in
    record { even = step.0; same = step.1 }
