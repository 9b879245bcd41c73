use borrow.Author.Rules.{rules}
use Rattle.std.proofs.Common.{◌≡◌, true, false, cond, [], ◌∷◌, ◌++◌}
use Rattle.scan_values.specs.Val.{int_val, null_val, marked}
use Rattle.scan_expr.specs.Overflow.{spills}
use Rattle.scan_columns.specs.Typed.{cell}
use Rattle.scan_columns.specs.Evaluated.{binary_val, spills_in}
use Rattle.scan_columns.specs.Operands.{numbers_in}
use Rattle.scan_columns.proofs.KernelLemmas.{slots_step}
use Rattle.scan_columns.proofs.Pairing.{spill_within, spill_over}
use Rattle.scan_columns.proofs.integers.numbers_summed.Goals as goal

pub returns-in_err-sum-clause-overflow : goal.returns-in_err-sum-clause-overflow
returns-in_err-sum-clause-overflow c = λ h.
    let op = c.args.op in
    let d = c.args.dtype.now in
    let v = cell int_val c.slot.result in
    let w = cell int_val c.slot-in-loop-i.result in
    let here : spills op d (marked v) (marked w) ≡ true = search (rules, h) in
    spill_over (numbers_in c.args.x) (numbers_in c.args.y) c.loop-i.i v w c.slot.ensures c.slot-in-loop-i.ensures op d (spills_in op d (numbers_in c.args.x) (numbers_in c.args.y)) here c.loop-i.invariant.within

pub loop-i-preserved : goal.loop-i-preserved
loop-i-preserved c =
    let op = c.args.op in
    let d = c.args.dtype.now in
    let v = cell int_val c.slot.result in
    let w = cell int_val c.slot-in-loop-i.result in
    let sum = c.in_ok-sum.sum in
    let there = c.in_ok-sum.there in
    let value : cond there (int_val sum) null_val ≡ binary_val op d v w = search (rules, c.in_ok-sum.ensures.value) in
    let here : spills op d (marked v) (marked w) ≡ false = search (rules, c.in_ok-sum.ensures.within) in
    let values : c.push.new.self.items ≡ c.loop-i.values.items ++ (sum ∷ []) = search (rules, c.in_ok-push.ensures.items) in
    let valid : c.push-in-loop-i.new.self.items ≡ c.loop-i.valid.items ++ (there ∷ []) = search (rules, c.in_ok-push-2.ensures.items) in
    let step = slots_step int_val (binary_val op d) (numbers_in c.args.x) (numbers_in c.args.y) c.loop-i.i v w
    c.loop-i.values.items c.push.new.self.items c.loop-i.valid.items c.push-in-loop-i.new.self.items sum there c.slot.ensures c.slot-in-loop-i.ensures values valid value c.loop-i.invariant.even c.loop-i.invariant.same in
    record {
      even = step.0;
      same = step.1;
      within = spill_within (numbers_in c.args.x) (numbers_in c.args.y) c.loop-i.i v w c.slot.ensures c.slot-in-loop-i.ensures op d (spills_in op d (numbers_in c.args.x) (numbers_in c.args.y)) here c.loop-i.invariant.within;
    }
