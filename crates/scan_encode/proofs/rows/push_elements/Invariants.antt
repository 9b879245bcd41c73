use Rattle.std.proofs.Common.{◌≡◌, ◌++◌, map, drop}
use Rattle.std.specs.Prelude.{Some}
use Rattle.scan_values.specs.Values.{val_of}
use Rattle.scan_encode.specs.RowsIn.{rows_in}
use Rattle.scan_encode.proofs.rows.push_elements.Given as goal

abbrev pub invariant-loop-item : goal.invariant-loop-item
invariant-loop-item l = rows_in l.elements.items ++ map Some (map val_of (drop l.item-index l.item-items)) ≡ rows_in l.initial.elements.items ++ map Some (map val_of l.item-items)
