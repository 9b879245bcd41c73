use Rattle.std.proofs.Common.{◌≡◌, List, true, ap, sym, subst, ◌∙◌}
use Rattle.std.specs.List.{list_all}
use Rattle.scan_columns.specs.declared.cells.Cells.{Cells}
use Rattle.scan_columns.specs.Access.{AreFieldsIn}
use Rattle.scan_columns.proofs.AccessLemmas.{fields_there}
use Rattle.scan_columns.proofs.cells.Structs.fields.Goals as goal

pub returns-then-all_true : goal.returns-then-all_true
returns-then-all_true c =
    let bs = c.self.inside.valid.items in
    let all : list_all (λ b. b) bs ≡ true = ap (list_all (λ b. b)) (sym c.as_slice.ensures.value) ∙ sym c.all_true.ensures ∙ c.if-all_true.true in
    subst (λ (fs : List Cells). AreFieldsIn c.args.self.now fs) (sym c.as_slice-then-all_true.ensures.value)
    (fields_there c.self.inside.fields.items bs c.args.self.now c.self.view_is c.self.invariant all)
