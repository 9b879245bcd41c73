use borrow.Author.Rules.{rules}
use Rattle.std.proofs.Common.{◌≡◌, ℕ, ◌+◌, ◌∷◌, [], ◌++◌, length, map, ap, subst, ◌∙◌, arith}
use Rattle.std.specs.Option.{IfSome}
use Rattle.std.specs.declared.option.Option.{Option}
use Rattle.scan_columns.specs.Cells.{vals_in}
use Rattle.scan_columns.specs.Rows.{given_vals, IsFieldAt, part_rows, bound_in}
use Rattle.scan_columns.proofs.RowLemmas.{part_none}
use Rattle.scan_columns.proofs.PickLemmas.{placed_field, placed_last}
use Rattle.scan_columns.proofs.evaluate.placed.Goals as goal

pub returns-in-Some-clause-items : goal.returns-in-Some-clause-items
returns-in-Some-clause-items c =
    let s = c.args.part.now.scope in
    let e = c.args.part.now.expr in
    let p = c.in-Some.place in
    let at : IsFieldAt s e p = subst (λ (o : Option ℕ). IfSome o (IsFieldAt s e)) c.in-Some.is c.field_place.ensures in
    placed_field s e p c.args.len c.args.columns.now c.args.made.items at c.requires

pub returns-in-Some-clause-within : goal.returns-in-Some-clause-within
returns-in-Some-clause-within c =
    let s = c.args.part.now.scope in
    let e = c.args.part.now.expr in
    let p = c.in-Some.place in
    let at : IsFieldAt s e p = subst (λ (o : Option ℕ). IfSome o (IsFieldAt s e)) c.in-Some.is c.field_place.ensures in
    part_none s e p (part_rows (map vals_in c.args.columns.now) c.args.len) at

pub returns-in_ok-push-in-None-clause-items : goal.returns-in_ok-push-in-None-clause-items
returns-in_ok-push-in-None-clause-items c =
    let cs = c.args.columns.now in
    let ms = c.args.made.items in
    let v = c.in_ok-cells-in-None.cells in
    let vs = bound_in (part_rows (map vals_in cs) c.args.len) c.args.part.now in
    let pushed : c.push.new.self.items ≡ ms ++ (v ∷ []) = search (rules, c.in_ok-push-in-None.ensures.items) in
    let count : c.len.result ≡ length ms = omega (arith, c.len.ensures, c.args.made.ok.0) in
    let cells : vals_in v ≡ given_vals c.in_ok-given-in-None.given = search (rules, c.in_ok-cells-in-None.ensures) in
    let given : given_vals c.in_ok-given-in-None.given ≡ vs = search (rules, c.in_ok-given-in-None.ensures.items) in
    placed_last cs ms c.push.new.self.items v (length cs + c.len.result) vs pushed (ap (λ (n : ℕ). length cs + n) count) (cells ∙ given)
