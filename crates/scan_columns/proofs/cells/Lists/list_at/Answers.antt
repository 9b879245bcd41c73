use Rattle.std.proofs.Common.{◌≡◌, false, length, get_or, ap, sym, subst, ◌∙◌, arith}
use Rattle.scan_columns.specs.declared.cells.Cells.{Cells}
use Rattle.scan_columns.specs.Access.{IsListAt}
use Rattle.scan_columns.specs.Cells.{vals_in, depth_in}
use Rattle.scan_columns.proofs.NestedLemmas.{lists_count}
use Rattle.scan_columns.proofs.AccessLemmas.{list_there, list_lost}
use Rattle.scan_columns.proofs.cells.Lists.list_at.Goals as goal

pub bounds-valid-i : goal.bounds-valid-i
bounds-valid-i c =
    let count = lists_count (depth_in c.self.inside.elements.value) c.self.inside.ends (vals_in c.self.inside.elements.value) c.self.inside.valid.items c.args.self.now c.self.view_is c.self.invariant.0 in
    let same = ap length c.as_slice-valid.ensures.value in
    omega (arith, count, c.self.invariant.0, c.requires, same)

pub start-requires : goal.start-requires
start-requires c =
    let count = lists_count (depth_in c.self.inside.elements.value) c.self.inside.ends (vals_in c.self.inside.elements.value) c.self.inside.valid.items c.args.self.now c.self.view_is c.self.invariant.0 in
    omega (arith, count, c.requires)

pub start-requires-then-valid-i : goal.start-requires-then-valid-i
start-requires-then-valid-i c =
    let count = lists_count (depth_in c.self.inside.elements.value) c.self.inside.ends (vals_in c.self.inside.elements.value) c.self.inside.valid.items c.args.self.now c.self.view_is c.self.invariant.0 in
    omega (arith, count, c.requires)

pub returns-then-valid-i-clause-some : goal.returns-then-valid-i-clause-some
returns-then-valid-i-clause-some c =
    let count = lists_count (depth_in c.self.inside.elements.value) c.self.inside.ends (vals_in c.self.inside.elements.value) c.self.inside.valid.items c.args.self.now c.self.view_is c.self.invariant.0 in
    subst (λ (e : Cells). IsListAt c.args.self.now c.args.i e c.start.result c.start-then-valid-i.result) (sym c.deref.ensures)
    (list_there c.self.inside.elements.value c.self.inside.ends c.self.inside.valid.items c.args.self.now c.args.i c.start.result c.start-then-valid-i.result c.self.view_is c.self.invariant.0 c.self.invariant.1
    (omega (arith, count, c.requires)) (ap (λ bs. get_or bs c.args.i false) (sym c.as_slice-valid.ensures.value) ∙ c.if-valid-i.true) c.start.ensures c.start-then-valid-i.ensures)

pub returns-else-valid-i-clause-none : goal.returns-else-valid-i-clause-none
returns-else-valid-i-clause-none c = λ e.
    let count = lists_count (depth_in c.self.inside.elements.value) c.self.inside.ends (vals_in c.self.inside.elements.value) c.self.inside.valid.items c.args.self.now c.self.view_is c.self.invariant.0 in
    list_lost c.self.inside.elements.value c.self.inside.ends c.self.inside.valid.items c.args.self.now c.args.i c.self.view_is c.self.invariant.0
    (omega (arith, count, c.requires)) (ap (λ bs. get_or bs c.args.i false) (sym c.as_slice-valid.ensures.value) ∙ c.if-valid-i.false)
