use Rattle.std.proofs.Common.{◌≡◌, ◌++◌, drop, map, slice_range}
use Rattle.scan_columns.specs.Cells.{vals_in}
use Rattle.scan_columns.proofs.cells.+slice.Given as goal

abbrev pub invariant-Structs::slice-loop-field : goal.invariant-Structs::slice-loop-field
invariant-Structs::slice-loop-field l = map vals_in l.fields.items ++ map (λ c. slice_range c l.start l.end) (map vals_in (drop l.field-index l.field-items)) ≡ map (λ c. slice_range c l.start l.end) (map vals_in l.field-items)
