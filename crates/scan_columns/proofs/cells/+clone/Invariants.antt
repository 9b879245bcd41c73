use Rattle.std.proofs.Common.{◌≡◌, ◌++◌, drop, map}
use Rattle.scan_columns.specs.Cells.{vals_in}
use Rattle.scan_columns.proofs.cells.+clone.Given as goal

abbrev pub invariant-Structs::try_clone-loop-field : goal.invariant-Structs::try_clone-loop-field
invariant-Structs::try_clone-loop-field l = map vals_in l.fields.items ++ map vals_in (drop l.field-index l.field-items) ≡ map vals_in l.field-items
