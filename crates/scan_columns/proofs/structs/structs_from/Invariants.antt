use Rattle.std.proofs.Common.{◌≡◌, ◌++◌, drop, map, length}
use Rattle.scan_values.specs.Values.{val_of}
use Rattle.scan_columns.specs.Typed.{typed}
use Rattle.scan_columns.specs.Nested.{rows_of, struct_of}
use Rattle.scan_columns.proofs.structs.structs_from.Given as goal

abbrev pub invariant-loop-there : goal.invariant-loop-there
invariant-loop-there l = map val_of l.made.items ++ typed struct_of (rows_of (length (drop l.there-index l.valid)) l.columns) (drop l.there-index l.valid) ≡ typed struct_of (rows_of (length l.valid) l.initial.columns) l.valid
