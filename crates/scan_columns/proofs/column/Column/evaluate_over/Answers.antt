use borrow.Author.Rules.{rules}
use Rattle.std.proofs.Common.{◌≡◌, true, false, List, map, ap, sym, subst, ◌∙◌, arith}
use Rattle.scan_values.specs.Arrays.{ArrayData}
use Rattle.scan_values.specs.Val.{Val, marked}
use Rattle.scan_expr.specs.Infer.{infer}
use Rattle.scan_columns.specs.Cells.{vals_in}
use Rattle.scan_columns.specs.Evaluated.{value_in, overflows_in}
use Rattle.scan_columns.specs.Rows.{part_rows, AreColumnsOf}
use Rattle.scan_columns.specs.Parts.{AllFitting}
use Rattle.scan_columns.proofs.Joining.{lists_of, columns_of_scope, joined_overflows, joined_values, joined_fit}
use Rattle.scan_columns.proofs.column.Column.evaluate_over.Goals as goal

pub over_columns-requires : goal.over_columns-requires
over_columns-requires c =
    let root = c.args.root.now in
    let s = root.scope in
    let e = root.expr in
    let n = c.args.len in
    let xs = c.args.parts.items in
    let lists : map vals_in c.in_ok-columns.columns.items ≡ lists_of xs = search (rules, c.in_ok-columns.ensures.items) in
    record { over = subst (λ (cs : List (List Val)). AreColumnsOf s n cs) (sym lists) (columns_of_scope s n xs c.requires.scope c.requires.length) }

pub returns-in_err-cells-clause-overflow : goal.returns-in_err-cells-clause-overflow
returns-in_err-cells-clause-overflow c = λ h.
    let root = c.args.root.now in
    let s = root.scope in
    let e = root.expr in
    let n = c.args.len in
    let xs = c.args.parts.items in
    let lists : map vals_in c.in_ok-columns.columns.items ≡ lists_of xs = search (rules, c.in_ok-columns.ensures.items) in
    let over : overflows_in s e (part_rows (map vals_in c.in_ok-columns.columns.items) n) ≡ true = search (rules, h) in
    sym (joined_overflows root xs n) ∙ ap (λ cs. overflows_in s e (part_rows cs n)) (sym lists) ∙ over

pub returns-clause-within : goal.returns-clause-within
returns-clause-within c =
    let root = c.args.root.now in
    let s = root.scope in
    let e = root.expr in
    let n = c.args.len in
    let xs = c.args.parts.items in
    let lists : map vals_in c.in_ok-columns.columns.items ≡ lists_of xs = search (rules, c.in_ok-columns.ensures.items) in
    let safe : overflows_in s e (part_rows (map vals_in c.in_ok-columns.columns.items) n) ≡ false = search (rules, c.in_ok-cells.ensures.within) in
    let none = ap (λ cs. overflows_in s e (part_rows cs n)) (sym lists) ∙ safe in
    sym (joined_overflows root xs n) ∙ none

pub returns-clause-items : goal.returns-clause-items
returns-clause-items c =
    let root = c.args.root.now in
    let s = root.scope in
    let e = root.expr in
    let n = c.args.len in
    let xs = c.args.parts.items in
    let lists : map vals_in c.in_ok-columns.columns.items ≡ lists_of xs = search (rules, c.in_ok-columns.ensures.items) in
    let safe : overflows_in s e (part_rows (map vals_in c.in_ok-columns.columns.items) n) ≡ false = search (rules, c.in_ok-cells.ensures.within) in
    let none = ap (λ cs. overflows_in s e (part_rows cs n)) (sym lists) ∙ safe in
    let given : vals_in c.in_ok-cells.cells ≡ map (value_in s e) (part_rows (map vals_in c.in_ok-columns.columns.items) n) = search (rules, c.in_ok-cells.ensures.items) in
    let made = given ∙ ap (λ cs. map (value_in s e) (part_rows cs n)) lists in
    ap (λ (a : ArrayData). map marked a.items) c.of_fitting.ensures ∙ ap (map marked) made ∙ joined_values root xs n none

pub of_fitting-requires : goal.of_fitting-requires
of_fitting-requires c =
    let root = c.args.root.now in
    let s = root.scope in
    let e = root.expr in
    let n = c.args.len in
    let xs = c.args.parts.items in
    let lists : map vals_in c.in_ok-columns.columns.items ≡ lists_of xs = search (rules, c.in_ok-columns.ensures.items) in
    let safe : overflows_in s e (part_rows (map vals_in c.in_ok-columns.columns.items) n) ≡ false = search (rules, c.in_ok-cells.ensures.within) in
    let none = ap (λ cs. overflows_in s e (part_rows cs n)) (sym lists) ∙ safe in
    let given : vals_in c.in_ok-cells.cells ≡ map (value_in s e) (part_rows (map vals_in c.in_ok-columns.columns.items) n) = search (rules, c.in_ok-cells.ensures.items) in
    let made = given ∙ ap (λ cs. map (value_in s e) (part_rows cs n)) lists in
    let typed : c.in_ok-dtype.dtype.value ≡ infer s e = search (rules, c.in_ok-dtype.ensures.ok, c.in_ok-try_clone.ensures, c.dtype.ensures.dtype) in
    let fit : AllFitting xs = search (rules, c.in_ok-columns.ensures.fit) in
    rw (typed) (joined_fit root xs n c.requires.scope c.requires.length fit (omega arith) c.dtype.ensures.faultless (vals_in c.in_ok-cells.cells) (ap (map marked) made ∙ joined_values root xs n none))
