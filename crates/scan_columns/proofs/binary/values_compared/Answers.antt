use borrow.Author.Rules.{rules}
use Rattle.std.proofs.Common.{◌≡◌, [], ◌∷◌, ◌++◌, ◌∙◌}
use Rattle.scan_values.specs.Val.{bool_val}
use Rattle.scan_expr.specs.Lending.{lent_val}
use Rattle.scan_columns.specs.Cells.{vals_in}
use Rattle.scan_columns.specs.Typed.{cell}
use Rattle.scan_columns.specs.Operands.{pair_val}
use Rattle.scan_columns.proofs.KernelLemmas.{slots_step}
use Rattle.scan_columns.proofs.binary.values_compared.Goals as goal

pub loop-i-preserved : goal.loop-i-preserved
loop-i-preserved c =
    let op = c.args.op in
    let v = lent_val c.in_ok-first.first in
    let w = lent_val c.in_ok-second.second in
    let made = c.compared_pair-bit.result in
    let values : c.push.new.self.items ≡ c.loop-i.values.items ++ (made.0 ∷ []) = search (rules, c.in_ok-push.ensures.items) in
    let valid : c.push-in-loop-i.new.self.items ≡ c.loop-i.valid.items ++ (made.1 ∷ []) = search (rules, c.in_ok-push-2.ensures.items) in
    let is : cell bool_val made ≡ pair_val op v w = c.compared_pair-bit.ensures ∙ (λ i. pair_val op (c.as_value.ensures i) (c.as_value-in-loop-i.ensures i)) in
    let step = slots_step bool_val (pair_val op) (vals_in c.args.x.now) (vals_in c.args.y.now) c.loop-i.i v w
    c.loop-i.values.items c.push.new.self.items c.loop-i.valid.items c.push-in-loop-i.new.self.items made.0 made.1 c.in_ok-first.ensures c.in_ok-second.ensures values valid is c.loop-i.invariant.even c.loop-i.invariant.same in
    record { even = step.0; same = step.1 }
