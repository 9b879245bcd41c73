use Rattle.std.proofs.Common.{ℕ, map, subst, ◌∙◌, arith}
use Rattle.std.specs.Option.{IfSome}
use Rattle.std.proofs.lemmas.Option.{IfSome_then}
use Rattle.std.proofs.lemmas.List.{length-map}
use Rattle.std.specs.declared.option.Option.{Option}
use Rattle.scan_columns.specs.Cells.{vals_in}
use Rattle.scan_columns.specs.Rows.{AreRowsOf, IsFieldAt, part_rows}
use Rattle.scan_columns.specs.declared.rows.Rows.{Rows}
use Rattle.scan_columns.proofs.RowLemmas.{part_in, part_none}
use Rattle.scan_columns.proofs.nodes.part_of.Goals as goal

pub returns-in-Some-clause-items : goal.returns-in-Some-clause-items
returns-in-Some-clause-items c =
    let s = c.args.expr.now.scope in
    let e = c.args.expr.now.expr in
    let p = c.in-Some.place in
    let cs = c.in-Parts.columns.now in
    let at : IsFieldAt s e p = subst (λ (o : Option ℕ). IfSome o (IsFieldAt s e)) c.in-Some.is c.field_place.ensures in
    let long = (subst (λ (r : Rows). AreRowsOf s r) c.in-Parts.is c.requires).1 in
    rw (c.in-Parts.is) (IfSome_then c.column_at.result c.column_at.ensures (λ column h. h.1 ∙ part_in s e p c.in-Parts.field-1 (map vals_in cs) at long (omega (arith, h.0, length-map cs vals_in))))

pub returns-in-Some-clause-within : goal.returns-in-Some-clause-within
returns-in-Some-clause-within c =
    let s = c.args.expr.now.scope in
    let e = c.args.expr.now.expr in
    let p = c.in-Some.place in
    let at : IsFieldAt s e p = subst (λ (o : Option ℕ). IfSome o (IsFieldAt s e)) c.in-Some.is c.field_place.ensures in
    rw (c.in-Parts.is) (IfSome_then c.column_at.result c.column_at.ensures (λ column h. part_none s e p (part_rows (map vals_in c.in-Parts.columns.now) c.in-Parts.field-1) at))
