use Rattle.std.proofs.Common.{map, sym, ap, ◌∙◌, arith}
use Rattle.std.specs.Prelude.{replicate}
use Rattle.std.proofs.lemmas.List.{get_or-map, length-map}
use Rattle.scan_values.specs.Val.{null_val}
use Rattle.scan_columns.specs.Cells.{vals_in}
use Rattle.scan_groups.proofs.Totalling.{past_end}
use Rattle.scan_table.specs.Totalled.{column_in}
use Rattle.scan_table.proofs.rows.column_at.Goals as goal

pub returns-in_default : goal.returns-in_default
returns-in_default c = λ n. ap (λ o. column_in o n (map vals_in c.args.columns.now)) c.in_default.is

pub returns-in-Some-get : goal.returns-in-Some-get
returns-in-Some-get c = λ n.
    let cs = c.args.columns.now in
    let l = c.in-Some-get.ensures.lookup in
    let cells = c.in-Some-get.cells.now in
    ap (λ o. column_in o n (map vals_in cs)) c.in-Some.is ∙ get_or-map vals_in cs c.in-Some.place cells (replicate n null_val) l.3.0 ∙ ap vals_in (sym l.1)

pub returns-in-None : goal.returns-in-None
returns-in-None c = λ n.
    let cs = c.args.columns.now in
    let m = c.in-None.ensures.lookup.3 in
    let long = length-map cs vals_in in
    ap (λ o. column_in o n (map vals_in cs)) c.in-Some.is ∙ past_end (map vals_in cs) c.in-Some.place (replicate n null_val) (omega (arith, long, m))
