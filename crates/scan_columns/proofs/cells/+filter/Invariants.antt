use Rattle.std.proofs.Common.{◌≡◌, ◌++◌, drop, map}
use Rattle.std.specs.List.{items_where_true}
use Rattle.scan_columns.specs.Cells.{vals_in}
use Rattle.scan_columns.proofs.cells.+filter.Given as goal

abbrev pub invariant-Structs::filter-loop-field : goal.invariant-Structs::filter-loop-field
invariant-Structs::filter-loop-field l = map vals_in l.fields.items ++ map (items_where_true l.m) (map vals_in (drop l.field-index l.field-items)) ≡ map (items_where_true l.m) (map vals_in l.field-items)
