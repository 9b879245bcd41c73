use Rattle.std.proofs.Common.{◌≡◌, length, map, sym, ap, ◌∙◌, subst, List}
use Rattle.std.specs.Prelude.{IfOk, replicate}
use Rattle.std.proofs.lemmas.List.{length-replicate}
use Rattle.scan_values.specs.Val.{Val, null_val}
use Rattle.scan_columns.specs.Cells.{vals_in}
use Rattle.scan_groups.specs.Running.{HasRead}
use Rattle.scan_table.specs.Totalled.{column_in}
use Rattle.scan_table.proofs.Columned.{column_long}
use Rattle.scan_table.proofs.rows.read_measure.Goals as goal

pub read_cells-requires-clause-even : goal.read_cells-requires-clause-even
read_cells-requires-clause-even c =
    let n = length c.args.places.now in
    sym (ap length (c.in-Some.ensures n)) ∙ column_long c.reads.result n (map vals_in c.args.columns.now) c.requires.even

pub add_run-requires-clause-even : goal.add_run-requires-clause-even
add_run-requires-clause-even c = length-replicate c.len.result null_val ∙ c.len.ensures

pub returns-in-Some : goal.returns-in-Some
returns-in-Some c =
    let n = length c.args.places.now in
    let cs = map vals_in c.args.columns.now in
    subst (λ (vs : List Val). IfOk c.read_cells.result (λ _. HasRead c.args.measure c.args.places.now vs c.args.groups.now c.read_cells.new.groups)) (sym (c.in-Some.ensures n) ∙ ap (λ o. column_in o n cs) c.reads.ensures) c.read_cells.ensures

pub returns-in-None : goal.returns-in-None
returns-in-None c =
    let n = length c.args.places.now in
    let cs = map vals_in c.args.columns.now in
    let nulls : replicate c.len.result null_val ≡ replicate n null_val = ap (λ k. replicate k null_val) c.len.ensures in
    subst (λ (vs : List Val). IfOk c.add_run.result (λ _. HasRead c.args.measure c.args.places.now vs c.args.groups.now c.add_run.new.self)) (nulls ∙ sym (c.in-None.ensures n) ∙ ap (λ o. column_in o n cs) c.reads.ensures)
    c.add_run.ensures
