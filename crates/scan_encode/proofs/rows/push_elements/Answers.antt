use Rattle.std.proofs.Common.{◌≡◌, rules}
use Rattle.std.specs.Prelude.{Some}
use Rattle.scan_values.specs.declared.value.Value.TheVariants.{List as Listed}
use Rattle.scan_encode.specs.Rows.{elements_of}
use Rattle.scan_encode.specs.RowsIn.{row_in, rows_in}
use Rattle.scan_encode.proofs.RowsOf.{elements_listed, all_pushed}
use Rattle.scan_encode.proofs.rows.push_elements.Goals as goal

pub returns-after-loop-item : goal.returns-after-loop-item
returns-after-loop-item c =
    let row : c.args.row ≡ Some c.in-Some-List.field-0 = search rules in
    let list : c.in-Some-List.field-0.now ≡ Listed c.in-Some-List.items = search rules in
    all_pushed (rows_in c.loop-item.elements.items) (rows_in c.args.elements.now.items) c.as_slice-item-items.result.now c.loop-item.item-index c.in-Some-List.items (elements_of (row_in c.args.row))
    c.loop-item-test.false c.loop-item.invariant c.as_slice-item-items.ensures (elements_listed c.args.row c.in-Some-List.field-0 c.in-Some-List.items row list)
