use Rattle.std.proofs.Common.{◌≡◌, ◌++◌, map, drop}
use Rattle.std.specs.Prelude.{Some}
use Rattle.scan_values.specs.Values.{val_of}
use Rattle.scan_encode.specs.RowsIn.{rows_in}
use Rattle.scan_encode.proofs.rows.lent.Given as goal

abbrev pub invariant-loop-value : goal.invariant-loop-value
invariant-loop-value l = rows_in l.made.items ++ map Some (map val_of (drop l.value-index l.values)) ≡ map Some (map val_of l.values)
