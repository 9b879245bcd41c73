use Rattle.std.proofs.Common.{◌≡◌, List, map, false, length, get_or, ap, sym, subst, ◌∙◌, arith}
use Rattle.scan_columns.specs.declared.cells.Cells.{Cells}
use Rattle.scan_columns.specs.Cells.{vals_in, deepest}
use Rattle.scan_columns.specs.Access.{IsStructAt}
use Rattle.scan_columns.proofs.NestedLemmas.{structs_count}
use Rattle.scan_columns.proofs.AccessLemmas.{struct_there, struct_lost}
use Rattle.scan_columns.proofs.cells.Structs.struct_at.Goals as goal

pub bounds-valid-i : goal.bounds-valid-i
bounds-valid-i c =
    let count = structs_count (deepest c.self.inside.fields.items) (map vals_in c.self.inside.fields.items) c.self.inside.valid.items c.args.self.now c.self.view_is in
    let same = ap length c.as_slice-valid.ensures.value in
    omega (arith, count, c.requires, same)

pub returns-then-valid-i-clause-some : goal.returns-then-valid-i-clause-some
returns-then-valid-i-clause-some c =
    let count = structs_count (deepest c.self.inside.fields.items) (map vals_in c.self.inside.fields.items) c.self.inside.valid.items c.args.self.now c.self.view_is in
    subst (λ (fs : List Cells). IsStructAt c.args.self.now c.args.i fs) (sym c.as_slice.ensures.value)
    (struct_there c.self.inside.fields.items c.self.inside.valid.items c.args.self.now c.args.i c.self.view_is c.self.invariant (omega (arith, count, c.requires)) (ap (λ bs. get_or bs c.args.i false) (sym c.as_slice-valid.ensures.value) ∙ c.if-valid-i.true))

pub returns-else-valid-i-clause-none : goal.returns-else-valid-i-clause-none
returns-else-valid-i-clause-none c = λ e.
    let count = structs_count (deepest c.self.inside.fields.items) (map vals_in c.self.inside.fields.items) c.self.inside.valid.items c.args.self.now c.self.view_is in
    struct_lost c.self.inside.fields.items c.self.inside.valid.items c.args.self.now c.args.i c.self.view_is (omega (arith, count, c.requires)) (ap (λ bs. get_or bs c.args.i false) (sym c.as_slice-valid.ensures.value) ∙ c.if-valid-i.false)
