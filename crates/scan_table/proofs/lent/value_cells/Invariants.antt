use Rattle.std.proofs.Common.{◌≡◌, map, take}
use Rattle.scan_values.specs.Values.{val_of}
use Rattle.scan_groups.specs.Cells.{cell_val}
use Rattle.scan_table.proofs.lent.value_cells.Given as goal

abbrev pub invariant-loop-value : goal.invariant-loop-value
invariant-loop-value l = map cell_val l.cells.items ≡ map val_of (take l.value-index l.values)
