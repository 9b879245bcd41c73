use Rattle.std.proofs.Common.{◌≡◌, List, true, map, ap, sym, subst, ◌∙◌}
use Rattle.std.specs.List.{list_all}
use Rattle.std.proofs.lemmas.Option.{IfSome_then}
use Rattle.scan_columns.specs.declared.cells.Cells.{Cells}
use Rattle.scan_columns.specs.Cells.{vals_in}
use Rattle.scan_columns.specs.Operands.{field_val}
use Rattle.scan_columns.specs.Rows.{IsFieldIn}
use Rattle.scan_columns.proofs.StructLemmas.{field_kept}
use Rattle.scan_columns.proofs.cells.Structs.lent_field.Goals as goal

pub returns-then-all_true : goal.returns-then-all_true
returns-then-all_true c =
    let n = c.args.name.now in
    let s = c.args.dtype.now in
    let bs = c.self.inside.valid.items in
    let cs = map vals_in c.self.inside.fields.items in
    let all : list_all (λ b. b) bs ≡ true = ap (list_all (λ b. b)) (sym c.as_slice.ensures.value) ∙ sym c.all_true.ensures ∙ c.if-all_true.true in
    IfSome_then c.field_in.result c.field_in.ensures (λ column h.
    let at : IsFieldIn n s cs (vals_in column.now) = subst (λ (z : List Cells). IsFieldIn n s (map vals_in z) (vals_in column.now)) c.as_slice-then-all_true.ensures.value h in
    field_kept n s bs cs (vals_in column.now) at c.self.invariant all ∙ (λ i. map (field_val n s) (c.self.view_is i).items))
