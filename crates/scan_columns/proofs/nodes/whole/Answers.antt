use borrow.Author.Rules.{rules}
use Rattle.std.proofs.Common.{◌≡◌, List, map, subst, sym, ap, ◌∙◌}
use Rattle.std.specs.List.{range_with_len}
use Rattle.scan_values.specs.Val.{Val}
use Rattle.scan_columns.specs.Cells.{vals_in}
use Rattle.scan_columns.specs.Nested.{AreLong}
use Rattle.scan_columns.specs.Rows.{struct_at, AreRowsOf}
use Rattle.scan_columns.specs.declared.rows.Rows.{Rows}
use Rattle.scan_columns.proofs.RowLemmas.{whole_firsts, parts_firsts}
use Rattle.scan_columns.proofs.nodes.whole.Goals as goal

pub returns-in-Whole : goal.returns-in-Whole
returns-in-Whole c = rw (c.in-Whole.is) (whole_firsts (vals_in c.in-Whole.cells.now))

pub structs_of-requires : goal.structs_of-requires
structs_of-requires c =
    let copies : map vals_in c.in_ok-copies-in-Parts.copies.items ≡ map vals_in c.in-Parts.columns.now = search (rules, c.in_ok-copies-in-Parts.ensures) in
    let long = (subst (λ (r : Rows). AreRowsOf c.args.scope.now r) c.in-Parts.is c.requires).1 in
    subst (λ (cs : List (List Val)). AreLong c.in-Parts.len cs) (sym copies) long

pub returns-in_ok-structs_of-in-Parts : goal.returns-in_ok-structs_of-in-Parts
returns-in_ok-structs_of-in-Parts c =
    let columns = map vals_in c.in-Parts.columns.now in
    let places = range_with_len 0 c.in-Parts.len in
    let copies : map vals_in c.in_ok-copies-in-Parts.copies.items ≡ columns = search (rules, c.in_ok-copies-in-Parts.ensures) in
    let made : vals_in c.in_ok-structs_of-in-Parts.field-0 ≡ map (struct_at (map vals_in c.in_ok-copies-in-Parts.copies.items)) places = search (rules, c.in_ok-structs_of-in-Parts.ensures) in
    rw (c.in-Parts.is) (made ∙ ap (λ cs. map (struct_at cs) places) copies ∙ parts_firsts columns places)
