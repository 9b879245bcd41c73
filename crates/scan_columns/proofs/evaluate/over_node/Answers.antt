use Rattle.std.proofs.Common.{◌≡◌, Bool, false, List, IfOk, map, length, ap, sym, subst, ◌∙◌}
use Rattle.std.specs.List.{list_any, range_with_len}
use Rattle.std.proofs.lemmas.List.Elements.{All-weaker}
use Rattle.scan_values.specs.DataType.{DataType}
use Rattle.scan_values.specs.Val.{Val}
use Rattle.scan_expr.specs.Bound.{Bound}
use Rattle.scan_expr.specs.Expr.{Expr}
use Rattle.scan_columns.specs.Cells.{vals_in}
use Rattle.scan_columns.specs.Evaluated.{value_in, overflows_in}
use Rattle.scan_columns.specs.Rows.{part_rows, struct_at, bound_in, bound_overflows_in, AreColumnsOf}
use Rattle.scan_columns.proofs.RowLemmas.{pack_in, pack_over, parts_length}
use Rattle.scan_columns.proofs.evaluate.over_node.Goals as goal

pub packed-requires : goal.packed-requires
packed-requires c =
    let s = c.args.root.now.scope in
    let cs = map vals_in c.args.columns.items in
    All-weaker (λ (b : Bound). b.scope ≡ s) (λ (b : Bound). AreColumnsOf b.scope c.args.len cs) (λ b h. subst (λ (d : DataType). AreColumnsOf d c.args.len cs) (sym h) c.requires.over) c.in-Pack.parts.now c.in-Pack.ensures.scope.0

pub returns-in-Pack-clause-items : goal.returns-in-Pack-clause-items
returns-in-Pack-clause-items c =
    let s = c.args.root.now.scope in
    let bs = c.in-Pack.parts.now in
    let rows = part_rows (map vals_in c.args.columns.items) c.args.len in
    let count : length rows ≡ c.args.len = parts_length (map vals_in c.args.columns.items) c.args.len in
    let same : map (struct_at (map (bound_in rows) bs)) (range_with_len 0 c.args.len) ≡ map (value_in s c.args.root.now.expr) rows =
    (λ i. map (struct_at (map (bound_in rows) bs)) (range_with_len 0 (sym count i))) ∙ pack_in s c.in-Pack.field-0.now c.in-Pack.field-2 bs rows c.in-Pack.ensures.scope.0
    ∙ ap (λ (x : Expr). map (value_in s x) rows) c.in-Pack.ensures.expr in
    subst (λ (z : List Val). IfOk c.packed.result (λ c'. vals_in c' ≡ z)) same c.packed.ensures.items

pub returns-in-Pack-clause-within : goal.returns-in-Pack-clause-within
returns-in-Pack-clause-within c =
    let s = c.args.root.now.scope in
    let bs = c.in-Pack.parts.now in
    let rows = part_rows (map vals_in c.args.columns.items) c.args.len in
    let same : list_any (bound_overflows_in rows) bs ≡ overflows_in s c.args.root.now.expr rows =
    pack_over s c.in-Pack.field-0.now c.in-Pack.field-2 bs rows c.in-Pack.ensures.scope.0 ∙ ap (λ (x : Expr). overflows_in s x rows) c.in-Pack.ensures.expr in
    subst (λ (z : Bool). IfOk c.packed.result (λ _. z ≡ false)) same c.packed.ensures.within

pub returns-in-Pack-clause-overflow : goal.returns-in-Pack-clause-overflow
returns-in-Pack-clause-overflow c = λ h.
    let s = c.args.root.now.scope in
    let bs = c.in-Pack.parts.now in
    let rows = part_rows (map vals_in c.args.columns.items) c.args.len in
    let same : list_any (bound_overflows_in rows) bs ≡ overflows_in s c.args.root.now.expr rows =
    pack_over s c.in-Pack.field-0.now c.in-Pack.field-2 bs rows c.in-Pack.ensures.scope.0 ∙ ap (λ (x : Expr). overflows_in s x rows) c.in-Pack.ensures.expr in
    sym same ∙ c.packed.ensures.overflow h
