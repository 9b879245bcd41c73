use Rattle.std.proofs.Common.{◌≡◌, ◌∙◌, sym, ap, length, rules}
use Rattle.std.specs.Prelude.{Some}
use Rattle.std.proofs.lemmas.List.{length-map}
use Rattle.scan_values.specs.declared.value.Value.TheVariants.{List as Listed}
use Rattle.scan_encode.proofs.RowsOf.{elements_listed}
use Rattle.scan_encode.proofs.rows.count.Goals as goal

pub returns-in-Some-List : goal.returns-in-Some-List
returns-in-Some-List c =
    let row : c.args.row ≡ Some c.in-Some-List.field-0 = search rules in
    let list : c.in-Some-List.field-0.now ≡ Listed c.in-Some-List.items = search rules in
    c.len.ensures ∙ sym (ap length (elements_listed c.args.row c.in-Some-List.field-0 c.in-Some-List.items row list) ∙ length-map c.in-Some-List.items Some)
