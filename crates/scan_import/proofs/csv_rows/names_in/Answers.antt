use Rattle.std.proofs.Common.{◌+◌, drop, Some, ap, ◌∙◌, arith}
use Rattle.std.proofs.lemmas.List.{drop_all}
use Rattle.csv.specs.Records.{fields_of}
use Rattle.scan_import.proofs.Columns.{field_next}
use Rattle.scan_import.proofs.Meant.{made_end, made_step}
use Rattle.scan_import.proofs.csv_rows.names_in.Goals as goal

pub loop-i-preserved : goal.loop-i-preserved
loop-i-preserved c =
    let fs = fields_of c.args.row.now in
    let i = c.loop-i.i in
    made_step c.loop-i.names.items c.push.new.self.items c.in_ok-name.name (drop i fs) (drop (i + 1) fs) fs c.in_ok-push.ensures.items
    (field_next fs i c.in_ok-name.name (ap Some c.in_ok-name.ensures ∙ c.text_at-text.ensures)) c.loop-i.invariant

pub returns : goal.returns
returns c =
    let fs = fields_of c.args.row.now in
    made_end c.loop-i.names.items (drop c.loop-i.i fs) fs (drop_all c.loop-i.i fs (omega (arith, c.len-i-end.ensures, c.loop-i-test.false))) c.loop-i.invariant
