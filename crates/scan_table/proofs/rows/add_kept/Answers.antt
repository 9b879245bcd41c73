use Rattle.std.proofs.Common.{length, map, sym, ap, ◌∙◌, subst, List}
use Rattle.std.specs.Prelude.{IfOk}
use Rattle.scan_columns.specs.Cells.{vals_in}
use Rattle.scan_columns.specs.Nested.{AreLong}
use Rattle.scan_groups.specs.Rows.{Row}
use Rattle.scan_table.specs.Totalled.{HasAdded, column_rows}
use Rattle.scan_table.proofs.Columned.{columns_rows}
use Rattle.scan_table.proofs.rows.add_kept.Goals as goal

pub add_columns-requires : goal.add_columns-requires
add_columns-requires c = subst (λ n. AreLong n (map vals_in c.in-Some.columns.now)) (sym c.len.ensures) c.in-Some.ensures.long

pub returns-in-Some : goal.returns-in-Some
returns-in-Some c =
    let vs = c.args.run.now.items in
    let cs = map vals_in c.in-Some.columns.now in
    let keys = c.args.keys in
    let e = ap (λ n. column_rows keys n cs) c.len.ensures ∙ sym (columns_rows keys (length vs) cs vs c.in-Some.ensures.rows) in
    subst (λ (r : List Row). IfOk c.add_columns.result (λ done. HasAdded done keys r c.args.groups.now c.add_columns.new.groups)) e c.add_columns.ensures
