use borrow.Author.Rules.{rules}
use Rattle.std.proofs.Common.{◌≡◌, ℕ, ◌+◌, true, false, List, map, length, replicate, ap, sym, subst, ◌∙◌, arith}
use Rattle.std.specs.List.{list_any, range_with_len}
use Rattle.std.proofs.lemmas.List.Elements.{All-get_or, All-weaker}
use Rattle.scan_values.specs.DataType.{DataType}
use Rattle.scan_values.specs.Values.{val_of}
use Rattle.scan_values.specs.Val.{Val}
use Rattle.scan_expr.specs.Bound.{Bound, exprs_of}
use Rattle.scan_expr.specs.Expr.{Expr, expr_size}
use Rattle.scan_columns.specs.Cells.{vals_in}
use Rattle.scan_columns.specs.Nested.{AreLong}
use Rattle.scan_columns.specs.Evaluated.{value_in, overflows_in, unary_val, binary_val, paired, spills_in}
use Rattle.scan_columns.specs.Rows.{given_vals, rows_of, row_value, struct_at, AreRowsOf, bound_in, bound_overflows_in}
use Rattle.scan_columns.proofs.RowLemmas.{root_in, root_none, number_none, literal_in, literal_none, unary_in, binary_in, binary_spills, binary_first, binary_second, pack_in, pack_over, bound_long}
use Rattle.scan_columns.proofs.Sizes.{total_size, parts_total, part_below}
use Rattle.scan_columns.proofs.nodes.+evaluation.Goals as goal

-- ---- the parts of a pack
pub each_evaluated-evaluated-requires : goal.each_evaluated-evaluated-requires
each_evaluated-evaluated-requires t c =
    let bs = c.args.parts.now in
    let k = c.loop-part.part-index in
    let b = c.part-item.result in
    let below = part_below bs k b c.loop-part-test.true c.part-item.is in
    (omega (arith, below), subst (λ (d : Bound). AreRowsOf d.scope c.args.rows) (sym c.part-item.is) (All-get_or (λ (d : Bound). AreRowsOf d.scope c.args.rows) bs k b c.loop-part-test.true c.requires))

pub evaluated-each_evaluated-requires : goal.evaluated-each_evaluated-requires
evaluated-each_evaluated-requires t c =
    let s = c.args.expr.now.scope in
    let bs = c.in-Pack.parts.now in
    let size : expr_size c.args.expr.now.expr ≡ total_size (exprs_of bs) + 1 = ap expr_size (sym c.in-Pack.ensures.expr) ∙ ap (λ k. k + 1) (parts_total c.in-Pack.field-0.now (exprs_of bs)) in
    (omega (arith, size), All-weaker (λ (b : Bound). b.scope ≡ s) (λ (b : Bound). AreRowsOf b.scope c.args.rows) (λ b h. subst (λ (d : DataType). AreRowsOf d c.args.rows) (sym h) c.requires) bs c.in-Pack.ensures.scope.0)

pub evaluated-returns-in_err-columns-in-Pack-clause-overflow : goal.evaluated-returns-in_err-columns-in-Pack-clause-overflow
evaluated-returns-in_err-columns-in-Pack-clause-overflow t c = λ h.
    let s = c.args.expr.now.scope in
    let rows = rows_of c.args.rows in
    let bs = c.in-Pack.parts.now in
    let over : list_any (bound_overflows_in rows) bs ≡ true = search (rules, h) in
    subst (λ (e : Expr). overflows_in s e rows ≡ true) c.in-Pack.ensures.expr (sym (pack_over s c.in-Pack.field-0.now c.in-Pack.field-2 bs rows c.in-Pack.ensures.scope.0) ∙ over)

pub evaluated-structs_of-requires : goal.evaluated-structs_of-requires
evaluated-structs_of-requires t c =
    let rows = rows_of c.args.rows in
    let bs = c.in-Pack.parts.now in
    let columns : map vals_in c.in_ok-columns-in-Pack.columns.items ≡ map (bound_in rows) bs = search (rules, c.in_ok-columns-in-Pack.ensures.items) in
    subst (λ (n : ℕ). AreLong n (map vals_in c.in_ok-columns-in-Pack.columns.items)) (sym c.len-in-Pack.ensures) (subst (λ (cs : List (List Val)). AreLong (length rows) cs) (sym columns) (bound_long rows bs))

pub evaluated-returns-in_ok-structs_of-in-Pack-clause-items : goal.evaluated-returns-in_ok-structs_of-in-Pack-clause-items
evaluated-returns-in_ok-structs_of-in-Pack-clause-items t c =
    let s = c.args.expr.now.scope in
    let rows = rows_of c.args.rows in
    let bs = c.in-Pack.parts.now in
    let made : vals_in c.in_ok-structs_of-in-Pack.field-0 ≡ map (struct_at (map vals_in c.in_ok-columns-in-Pack.columns.items)) (range_with_len 0 c.len-in-Pack.result) = search (rules, c.in_ok-structs_of-in-Pack.ensures) in
    let columns : map vals_in c.in_ok-columns-in-Pack.columns.items ≡ map (bound_in rows) bs = search (rules, c.in_ok-columns-in-Pack.ensures.items) in
    let all = made ∙ (λ i. map (struct_at (columns i)) (range_with_len 0 (c.len-in-Pack.ensures i))) ∙ pack_in s c.in-Pack.field-0.now c.in-Pack.field-2 bs rows c.in-Pack.ensures.scope.0 in
    subst (λ (e : Expr). vals_in c.in_ok-structs_of-in-Pack.field-0 ≡ map (value_in s e) rows) c.in-Pack.ensures.expr all

pub evaluated-returns-in_ok-structs_of-in-Pack-clause-within : goal.evaluated-returns-in_ok-structs_of-in-Pack-clause-within
evaluated-returns-in_ok-structs_of-in-Pack-clause-within t c =
    let s = c.args.expr.now.scope in
    let rows = rows_of c.args.rows in
    let bs = c.in-Pack.parts.now in
    let none : list_any (bound_overflows_in rows) bs ≡ false = search (rules, c.in_ok-columns-in-Pack.ensures.within) in
    subst (λ (e : Expr). overflows_in s e rows ≡ false) c.in-Pack.ensures.expr (sym (pack_over s c.in-Pack.field-0.now c.in-Pack.field-2 bs rows c.in-Pack.ensures.scope.0) ∙ none)

-- ---- the leaves
pub evaluated-returns-in_ok-whole-in-Root-clause-items : goal.evaluated-returns-in_ok-whole-in-Root-clause-items
evaluated-returns-in_ok-whole-in-Root-clause-items t c =
    let s = c.args.expr.now.scope in
    let rows = rows_of c.args.rows in
    let made : given_vals c.in_ok-whole-in-Root.field-0 ≡ map row_value rows = search (rules, c.in_ok-whole-in-Root.ensures) in
    subst (λ (e : Expr). given_vals c.in_ok-whole-in-Root.field-0 ≡ map (value_in s e) rows) c.in-Root.ensures.expr (made ∙ root_in s rows)

pub evaluated-returns-in_ok-whole-in-Root-clause-within : goal.evaluated-returns-in_ok-whole-in-Root-clause-within
evaluated-returns-in_ok-whole-in-Root-clause-within t c =
    subst (λ (e : Expr). overflows_in c.args.expr.now.scope e (rows_of c.args.rows) ≡ false) c.in-Root.ensures.expr (root_none c.args.expr.now.scope (rows_of c.args.rows))

pub evaluated-returns-in_ok-row_numbers-in-RowIdx-clause-within : goal.evaluated-returns-in_ok-row_numbers-in-RowIdx-clause-within
evaluated-returns-in_ok-row_numbers-in-RowIdx-clause-within t c =
    subst (λ (e : Expr). overflows_in c.args.expr.now.scope e (rows_of c.args.rows) ≡ false) c.in-RowIdx.ensures.expr (number_none c.args.expr.now.scope (rows_of c.args.rows))

pub evaluated-returns-in_ok-repeated-in-Literal-clause-items : goal.evaluated-returns-in_ok-repeated-in-Literal-clause-items
evaluated-returns-in_ok-repeated-in-Literal-clause-items t c =
    let s = c.args.expr.now.scope in
    let rows = rows_of c.args.rows in
    let w = val_of c.in-Literal.value.now in
    let made : vals_in c.in_ok-repeated-in-Literal.field-0 ≡ replicate (length rows) w = search (rules, c.in_ok-repeated-in-Literal.ensures, c.len.ensures) in
    subst (λ (e : Expr). vals_in c.in_ok-repeated-in-Literal.field-0 ≡ map (value_in s e) rows) c.in-Literal.ensures.expr (made ∙ literal_in s c.in-Literal.field-0.now w rows)

pub evaluated-returns-in_ok-repeated-in-Literal-clause-within : goal.evaluated-returns-in_ok-repeated-in-Literal-clause-within
evaluated-returns-in_ok-repeated-in-Literal-clause-within t c =
    let s = c.args.expr.now.scope in
    let rows = rows_of c.args.rows in
    subst (λ (e : Expr). overflows_in s e rows ≡ false) c.in-Literal.ensures.expr (literal_none s c.in-Literal.field-0.now (val_of c.in-Literal.value.now) rows)

-- ---- an operator
pub one_changed-returns-clause-items : goal.one_changed-returns-clause-items
one_changed-returns-clause-items t c =
    let s = c.args.x.now.scope in
    let x = c.args.x.now.expr in
    let rows = rows_of c.args.rows in
    let made : given_vals c.in_ok-made.made ≡ map (unary_val c.args.op.now c.dtype.result.now) (given_vals c.in_ok-values.values) = search (rules, c.in_ok-made.ensures.items) in
    let values : given_vals c.in_ok-values.values ≡ map (value_in s x) rows = search (rules, c.in_ok-values.ensures.items) in
    let none : overflows_in s x rows ≡ false = search (rules, c.in_ok-values.ensures.within) in
    made ∙ (λ i. map (unary_val c.args.op.now (c.dtype.ensures.dtype i)) (values i)) ∙ unary_in c.args.op.now s x rows none

pub two_combined-returns-in_err-first-clause-overflow : goal.two_combined-returns-in_err-first-clause-overflow
two_combined-returns-in_err-first-clause-overflow t c = λ h.
    let over : overflows_in c.args.x.now.scope c.args.x.now.expr (rows_of c.args.rows) ≡ true = search (rules, h) in
    binary_first c.args.op c.args.x.now.scope c.args.x.now.expr c.args.y.now.expr (rows_of c.args.rows) over

pub two_combined-returns-in_err-second-clause-overflow : goal.two_combined-returns-in_err-second-clause-overflow
two_combined-returns-in_err-second-clause-overflow t c = λ h.
    let over : overflows_in c.args.y.now.scope c.args.y.now.expr (rows_of c.args.rows) ≡ true = search (rules, h) in
    binary_second c.args.op c.args.x.now.scope c.args.x.now.expr c.args.y.now.expr (rows_of c.args.rows)
    (subst (λ (s : DataType). overflows_in s c.args.y.now.expr (rows_of c.args.rows) ≡ true) c.requires.scopes over)

pub two_combined-returns-in_err-made-clause-overflow : goal.two_combined-returns-in_err-made-clause-overflow
two_combined-returns-in_err-made-clause-overflow t c = λ h.
    let s = c.args.x.now.scope in
    let x = c.args.x.now.expr in
    let y = c.args.y.now.expr in
    let rows = rows_of c.args.rows in
    let first : given_vals c.in_ok-first.first ≡ map (value_in s x) rows = search (rules, c.in_ok-first.ensures.items) in
    let second : given_vals c.in_ok-second.second ≡ map (value_in c.args.y.now.scope y) rows = search (rules, c.in_ok-second.ensures.items) in
    let left = c.as_cells-left.ensures ∙ first in
    let right = c.as_cells-right.ensures ∙ second ∙ ap (λ (d : DataType). map (value_in d y) rows) c.requires.scopes in
    let none : overflows_in s x rows ≡ false = search (rules, c.in_ok-first.ensures.within) in
    let other : overflows_in c.args.y.now.scope y rows ≡ false = search (rules, c.in_ok-second.ensures.within) in
    let nor = sym (ap (λ (d : DataType). overflows_in d y rows) c.requires.scopes) ∙ other in
    let over : spills_in c.args.op c.args.dtype.now (vals_in c.as_cells-left.result.now) (vals_in c.as_cells-right.result.now) ≡ true = search (rules, h) in
    binary_spills c.args.op s x y rows none nor ∙ (λ i. spills_in c.args.op (sym c.requires.typed i) (sym left i) (sym right i)) ∙ over

pub two_combined-returns-clause-items : goal.two_combined-returns-clause-items
two_combined-returns-clause-items t c =
    let s = c.args.x.now.scope in
    let x = c.args.x.now.expr in
    let y = c.args.y.now.expr in
    let rows = rows_of c.args.rows in
    let first : given_vals c.in_ok-first.first ≡ map (value_in s x) rows = search (rules, c.in_ok-first.ensures.items) in
    let second : given_vals c.in_ok-second.second ≡ map (value_in c.args.y.now.scope y) rows = search (rules, c.in_ok-second.ensures.items) in
    let left = c.as_cells-left.ensures ∙ first in
    let right = c.as_cells-right.ensures ∙ second ∙ ap (λ (d : DataType). map (value_in d y) rows) c.requires.scopes in
    let none : overflows_in s x rows ≡ false = search (rules, c.in_ok-first.ensures.within) in
    let other : overflows_in c.args.y.now.scope y rows ≡ false = search (rules, c.in_ok-second.ensures.within) in
    let nor = sym (ap (λ (d : DataType). overflows_in d y rows) c.requires.scopes) ∙ other in
    let made : vals_in c.in_ok-made.made ≡ paired (binary_val c.args.op c.args.dtype.now) (vals_in c.as_cells-left.result.now) (vals_in c.as_cells-right.result.now) = search (rules, c.in_ok-made.ensures.items) in
    made ∙ (λ i. paired (binary_val c.args.op (c.requires.typed i)) (left i) (right i)) ∙ binary_in c.args.op s x y rows none nor

pub two_combined-returns-clause-within : goal.two_combined-returns-clause-within
two_combined-returns-clause-within t c =
    let s = c.args.x.now.scope in
    let x = c.args.x.now.expr in
    let y = c.args.y.now.expr in
    let rows = rows_of c.args.rows in
    let first : given_vals c.in_ok-first.first ≡ map (value_in s x) rows = search (rules, c.in_ok-first.ensures.items) in
    let second : given_vals c.in_ok-second.second ≡ map (value_in c.args.y.now.scope y) rows = search (rules, c.in_ok-second.ensures.items) in
    let left = c.as_cells-left.ensures ∙ first in
    let right = c.as_cells-right.ensures ∙ second ∙ ap (λ (d : DataType). map (value_in d y) rows) c.requires.scopes in
    let none : overflows_in s x rows ≡ false = search (rules, c.in_ok-first.ensures.within) in
    let other : overflows_in c.args.y.now.scope y rows ≡ false = search (rules, c.in_ok-second.ensures.within) in
    let nor = sym (ap (λ (d : DataType). overflows_in d y rows) c.requires.scopes) ∙ other in
    let safe : spills_in c.args.op c.args.dtype.now (vals_in c.as_cells-left.result.now) (vals_in c.as_cells-right.result.now) ≡ false = search (rules, c.in_ok-made.ensures.within) in
    binary_spills c.args.op s x y rows none nor ∙ (λ i. spills_in c.args.op (sym c.requires.typed i) (sym left i) (sym right i)) ∙ safe
