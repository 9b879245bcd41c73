use borrow.Author.Rules.{rules}
use Rattle.std.proofs.Common.{◌≡◌, List, map, sym, subst, ◌∙◌}
use Rattle.std.specs.List.{All}
use Rattle.scan_expr.specs.Bound.{Bound}
use Rattle.scan_columns.specs.declared.cells.Cells.{Cells}
use Rattle.scan_columns.specs.Cells.{vals_in}
use Rattle.scan_columns.specs.Rows.{beside, picked, part_rows, bound_in, AreColumnsOf}
use Rattle.scan_columns.proofs.PickLemmas.{picked_long}
use Rattle.scan_columns.proofs.evaluate.packed.Goals as goal

pub each_placed-requires : goal.each_placed-requires
each_placed-requires c = subst (λ (z : List Cells). All (λ (b : Bound). AreColumnsOf b.scope c.args.len (map vals_in z)) c.args.parts.now) (sym c.as_slice.ensures.value) c.requires

pub structs_of-requires : goal.structs_of-requires
structs_of-requires c =
    let cs = c.as_slice.result.now in
    let ps = c.in_ok-places.places.items in
    let ms = c.in_ok-places.made.items in
    let cells : map vals_in c.in_ok-cells.cells.items ≡ picked (map vals_in c.deref_mut.result.now) c.as_slice-2.result.now = search (rules, c.in_ok-cells.ensures) in
    let all : map vals_in c.in_ok-all.all.items ≡ beside c.args.columns.items ms = search (rules, c.in_ok-all.ensures) in
    let found : picked (beside cs ms) ps ≡ map (bound_in (part_rows (map vals_in cs) c.args.len)) c.args.parts.now = search (rules, c.in_ok-places.ensures.items) in
    picked_long (map vals_in cs) c.args.len c.args.parts.now (map vals_in c.in_ok-cells.cells.items)
    (cells ∙ (λ i. picked (map vals_in (c.deref_mut.ensures.value i)) (c.as_slice-2.ensures.value i)) ∙ (λ i. picked (all i) ps) ∙ (λ i. picked (beside (sym c.as_slice.ensures.value i) ms) ps) ∙ found)
