use Rattle.std.proofs.Common.{◌≡◌, [], ◌∷◌, ◌++◌, cond, refl, sym, ◌∙◌, subst, arith, rules}
use Rattle.std.proofs.lemmas.List.{take_all}
use Rattle.scan_values.specs.Val.{bool_val, null_val}
use Rattle.scan_groups.specs.Cells.{cell_val}
use Rattle.scan_table.proofs.Columned.{AreLent, lent_more, none_lent, scalar_int}
use Rattle.scan_table.proofs.lent.bool_cells.Goals as goal

pub loop-i-init : goal.loop-i-init
loop-i-init c = subst (λ xs. AreLent xs c.args.bools.now 0) (sym c.in_ok-cells.ensures.items) (none_lent c.args.bools.now)

pub loop-i-preserved : goal.loop-i-preserved
loop-i-preserved c =
    let v = cond c.slot-truth.result.1 (bool_val c.slot-truth.result.0) null_val in
    let x = c.bool_cell.result in
    let put : c.push.new.self.items ≡ c.loop-i.cells.items ++ (x ∷ []) = search (rules, c.in_ok-push.ensures.items) in
    let is : cell_val x ≡ v = search rules in
    lent_more c.loop-i.cells.items c.push.new.self.items x c.args.bools.now c.loop-i.i v put is (scalar_int c.slot-truth.result.1 (bool_val c.slot-truth.result.0) refl) c.slot-truth.ensures c.loop-i.invariant

pub returns-clause-values : goal.returns-clause-values
returns-clause-values c = c.loop-i.invariant.values ∙ take_all c.loop-i.i c.args.bools.now (omega (arith, c.loop-i-test.false, c.len-i-end.ensures))

pub returns-clause-scalars : goal.returns-clause-scalars
returns-clause-scalars c = c.loop-i.invariant.scalars
