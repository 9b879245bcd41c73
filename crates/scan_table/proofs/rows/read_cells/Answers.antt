use Rattle.std.proofs.Common.{◌≡◌, List, length, map, ap, ◌∙◌, subst}
use Rattle.std.specs.Prelude.{IfOk, IfSome}
use Rattle.scan_values.specs.Val.{Val}
use Rattle.scan_columns.specs.Cells.{vals_in}
use Rattle.scan_groups.specs.Cells.{cell_val}
use Rattle.scan_groups.specs.Running.{HasRead}
use Rattle.scan_table.proofs.rows.read_cells.Goals as goal

pub add_run-requires-clause-even : goal.add_run-requires-clause-even
add_run-requires-clause-even c = ap length c.in-Some.ensures ∙ c.requires.even

pub returns-in-Some : goal.returns-in-Some
returns-in-Some c = subst (λ (vs : List Val). IfOk c.add_run.result (λ _. HasRead c.args.measure c.args.places.now vs c.args.groups.now c.add_run.new.self)) c.in-Some.ensures c.add_run.ensures

pub add_run-requires-in-Some-2-clause-even : goal.add_run-requires-in-Some-2-clause-even
add_run-requires-in-Some-2-clause-even c =
    let v : map cell_val c.in-Some-2.lent.items ≡ vals_in c.args.cells.now = subst (λ o. IfSome o (λ cs. map cell_val cs.items ≡ vals_in c.args.cells.now)) c.in-Some-2.is c.in_ok-lent.ensures.values in
    ap length (ap (map cell_val) c.deref.ensures.value ∙ v) ∙ c.requires.even

pub returns-in-Some-2 : goal.returns-in-Some-2
returns-in-Some-2 c =
    let v : map cell_val c.in-Some-2.lent.items ≡ vals_in c.args.cells.now = subst (λ o. IfSome o (λ cs. map cell_val cs.items ≡ vals_in c.args.cells.now)) c.in-Some-2.is c.in_ok-lent.ensures.values in
    subst (λ (vs : List Val). IfOk c.add_run-in-Some-2.result (λ _. HasRead c.args.measure c.args.places.now vs c.args.groups.now c.add_run-in-Some-2.new.self)) (ap (map cell_val) c.deref.ensures.value ∙ v) c.add_run-in-Some-2.ensures
