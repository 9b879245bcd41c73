use borrow.Author.Rules.{rules}
use Rattle.std.proofs.Common.{◌≡◌, List, length, map, ap, sym, subst, ◌∙◌}
use Rattle.scan_values.specs.Masks.{null_where_false}
use Rattle.scan_columns.specs.declared.cells.Cells.{Cells}
use Rattle.scan_columns.specs.Cells.{vals_in}
use Rattle.scan_columns.specs.Operands.{field_val}
use Rattle.scan_columns.specs.Rows.{IsFieldIn}
use Rattle.scan_columns.proofs.StructLemmas.{field_long, field_masked}
use Rattle.scan_columns.proofs.cells.Structs.field.Goals as goal

pub masked-requires : goal.masked-requires
masked-requires c =
    let n = c.args.name.now in
    let s = c.args.dtype.now in
    let bs = c.self.inside.valid.items in
    let cs = map vals_in c.self.inside.fields.items in
    let vs = vals_in c.in-Some.cells.now in
    let found : IsFieldIn n s (map vals_in c.as_slice.result.now) vs = search (rules, c.in-Some.ensures) in
    let at : IsFieldIn n s cs vs = subst (λ (z : List Cells). IsFieldIn n s (map vals_in z) vs) c.as_slice.ensures.value found in
    ap length c.as_slice-in-Some.ensures.value ∙ sym (field_long n s (length bs) cs vs at c.self.invariant)

pub returns-in_ok-masked-in-Some : goal.returns-in_ok-masked-in-Some
returns-in_ok-masked-in-Some c =
    let n = c.args.name.now in
    let s = c.args.dtype.now in
    let bs = c.self.inside.valid.items in
    let cs = map vals_in c.self.inside.fields.items in
    let vs = vals_in c.in-Some.cells.now in
    let found : IsFieldIn n s (map vals_in c.as_slice.result.now) vs = search (rules, c.in-Some.ensures) in
    let at : IsFieldIn n s cs vs = subst (λ (z : List Cells). IsFieldIn n s (map vals_in z) vs) c.as_slice.ensures.value found in
    let made : vals_in c.in_ok-masked-in-Some.field-0 ≡ null_where_false c.as_slice-in-Some.result.now vs = search (rules, c.in_ok-masked-in-Some.ensures) in
    made ∙ (λ i. null_where_false (c.as_slice-in-Some.ensures.value i) vs) ∙ field_masked n s bs cs vs at c.self.invariant ∙ (λ i. map (field_val n s) (c.self.view_is i).items)
