use Rattle.std.proofs.Common.{◌≡◌, [], ◌∷◌, List, map, true, sym, ap, ◌∙◌, subst}
use Rattle.std.specs.List.{list_all}
use Rattle.std.specs.Prelude.{IfSome}
use Rattle.scan_values.specs.Val.{Val}
use Rattle.scan_columns.specs.Cells.{vals_in}
use Rattle.scan_groups.specs.Cells.{cell_val}
use Rattle.scan_groups.specs.Order.{is_scalar}
use Rattle.scan_groups.specs.Running.{HavePlaces}
use Rattle.scan_table.proofs.Columned.{ints_scalar}
use Rattle.scan_table.proofs.rows.place_keys.Goals as goal

pub returns-in-Some : goal.returns-in-Some
returns-in-Some c = λ keys.
    subst (λ (vs : List Val). HavePlaces keys (map (λ (v : Val). v ∷ []) vs) c.in_ok-place_run.field-0 c.args.groups.now c.place_run.new.self) c.in-Some.ensures (c.in_ok-place_run.ensures keys (ints_scalar c.in-Some.numbers.now))

pub returns-in_ok-place_run-in-Some-2 : goal.returns-in_ok-place_run-in-Some-2
returns-in_ok-place_run-in-Some-2 c = λ keys.
    let items = c.in-Some-2.cells.items in
    let v : map cell_val items ≡ vals_in c.args.key.now = subst (λ o. IfSome o (λ cs. map cell_val cs.items ≡ vals_in c.args.key.now)) c.in-Some-2.is c.in_ok-cells.ensures.values in
    let s : list_all is_scalar (map cell_val items) ≡ true = subst (λ o. IfSome o (λ cs. list_all is_scalar (map cell_val cs.items) ≡ true)) c.in-Some-2.is c.in_ok-cells.ensures.scalars in
    let e = ap (map cell_val) c.deref.ensures.value in
    subst (λ (vs : List Val). HavePlaces keys (map (λ (v : Val). v ∷ []) vs) c.in_ok-place_run-in-Some-2.field-0 c.args.groups.now c.place_run-in-Some-2.new.self) (e ∙ v)
    (c.in_ok-place_run-in-Some-2.ensures keys (subst (λ (vs : List Val). list_all is_scalar vs ≡ true) (sym e) s))
