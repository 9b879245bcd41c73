use Rattle.std.proofs.Common.{◌≡◌, List, length, map, ap, ◌∙◌, subst}
use Rattle.std.specs.Prelude.{IfOk}
use Rattle.scan_values.specs.Val.{Val}
use Rattle.scan_values.specs.Values.{val_of}
use Rattle.scan_columns.specs.Cells.{vals_in}
use Rattle.scan_groups.specs.Cells.{cell_val}
use Rattle.scan_groups.specs.Running.{HasRead}
use Rattle.scan_table.proofs.rows.read_values.Goals as goal

pub add_run-requires-clause-even : goal.add_run-requires-clause-even
add_run-requires-clause-even c =
    let is : map cell_val c.deref.result.now ≡ vals_in c.args.cells.now =
    ap (map cell_val) c.deref.ensures.value ∙ c.in_ok-lent.ensures ∙ ap (map val_of) c.as_slice.ensures.value ∙ c.in_ok-values.ensures ∙ c.in_ok-try_clone.ensures in
    ap length is ∙ c.requires.even

pub returns : goal.returns
returns c =
    let is : map cell_val c.deref.result.now ≡ vals_in c.args.cells.now =
    ap (map cell_val) c.deref.ensures.value ∙ c.in_ok-lent.ensures ∙ ap (map val_of) c.as_slice.ensures.value ∙ c.in_ok-values.ensures ∙ c.in_ok-try_clone.ensures in
    subst (λ (vs : List Val). IfOk c.add_run.result (λ _. HasRead c.args.measure c.args.places.now vs c.args.groups.now c.add_run.new.self)) is c.add_run.ensures
