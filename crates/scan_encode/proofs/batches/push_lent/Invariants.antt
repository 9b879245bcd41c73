use Rattle.std.proofs.Common.{◌≡◌, ◌++◌, map, drop}
use Rattle.scan_values.specs.Values.{val_of}
use Rattle.scan_encode.specs.Parts.{given}
use Rattle.scan_encode.specs.RowsIn.{rows_in}
use Rattle.scan_encode.proofs.batches.push_lent.Given as goal

abbrev pub invariant-loop-value : goal.invariant-loop-value
invariant-loop-value l = rows_in l.rows.items ++ given (map val_of (drop l.value-index l.values)) ≡ rows_in l.fn.rows.items ++ given (map val_of l.values)
