use borrow.Author.Rules.{rules}
use Rattle.std.proofs.Common.{◌≡◌, [], ◌∷◌, ◌++◌}
use Rattle.scan_values.specs.Val.{bool_val, int_val}
use Rattle.scan_columns.specs.Typed.{cell}
use Rattle.scan_columns.specs.Operands.{numbers_in, pair_val}
use Rattle.scan_columns.proofs.KernelLemmas.{slots_step}
use Rattle.scan_columns.proofs.integers.slots_compared.Goals as goal

pub loop-i-preserved : goal.loop-i-preserved
loop-i-preserved c =
    let made = c.compared_slots-bit.result in
    let values : c.push.new.self.items ≡ c.loop-i.values.items ++ (made.0 ∷ []) = search (rules, c.in_ok-push.ensures.items) in
    let valid : c.push-in-loop-i.new.self.items ≡ c.loop-i.valid.items ++ (made.1 ∷ []) = search (rules, c.in_ok-push-2.ensures.items) in
    let step = slots_step bool_val (pair_val c.args.op) (numbers_in c.args.x) (numbers_in c.args.y) c.loop-i.i (cell int_val c.slot.result) (cell int_val c.slot-in-loop-i.result)
    c.loop-i.values.items c.push.new.self.items c.loop-i.valid.items c.push-in-loop-i.new.self.items made.0 made.1 c.slot.ensures c.slot-in-loop-i.ensures values valid c.compared_slots-bit.ensures c.loop-i.invariant.even c.loop-i.invariant.same in
    record { even = step.0; same = step.1 }
