use Rattle.std.proofs.Common.{ℕ, map, subst, ◌∙◌, arith}
use Rattle.std.specs.Option.{IfSome}
use Rattle.std.specs.declared.option.Option.{Option}
use Rattle.std.proofs.lemmas.List.{length-map}
use Rattle.scan_columns.specs.Cells.{vals_in}
use Rattle.scan_columns.specs.Rows.{IsFieldAt, part_rows}
use Rattle.scan_columns.proofs.RowLemmas.{place_within, column_is, part_in, part_none}
use Rattle.scan_columns.proofs.evaluate.over_columns.Goals as goal

pub swap_remove-requires : goal.swap_remove-requires
swap_remove-requires c =
    let s = c.args.root.now.scope in
    let e = c.args.root.now.expr in
    let p = c.in-Some.place in
    let items = c.args.columns.items in
    let at : IsFieldAt s e p = subst (λ (o : Option ℕ). IfSome o (IsFieldAt s e)) c.in-Some.is c.field_place.ensures in
    let l = place_within s e p c.args.len (map vals_in items) at c.requires.over in
    omega (arith, l, length-map items vals_in, c.args.columns.ok.0)

pub returns-in-Some-clause-items : goal.returns-in-Some-clause-items
returns-in-Some-clause-items c =
    let s = c.args.root.now.scope in
    let e = c.args.root.now.expr in
    let p = c.in-Some.place in
    let items = c.args.columns.items in
    let at : IsFieldAt s e p = subst (λ (o : Option ℕ). IfSome o (IsFieldAt s e)) c.in-Some.is c.field_place.ensures in
    let l = place_within s e p c.args.len (map vals_in items) at c.requires.over in
    column_is items p c.swap_remove.result (omega (arith, l, length-map items vals_in)) c.swap_remove.ensures.value
    ∙ part_in s e p c.args.len (map vals_in items) at c.requires.over.1 l

pub returns-in-Some-clause-within : goal.returns-in-Some-clause-within
returns-in-Some-clause-within c =
    let s = c.args.root.now.scope in
    let e = c.args.root.now.expr in
    let p = c.in-Some.place in
    let at : IsFieldAt s e p = subst (λ (o : Option ℕ). IfSome o (IsFieldAt s e)) c.in-Some.is c.field_place.ensures in
    part_none s e p (part_rows (map vals_in c.args.columns.items) c.args.len) at
