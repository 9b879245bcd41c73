use Rattle.std.proofs.Common.{◌≡◌, ◌-◌, replicate, take, drop, map}
use Rattle.scan_values.specs.declared.dtype.DTypeKind.{DTypeKind}
use Rattle.scan_spelling.specs.Spelling.{cells, bits_of}
use Rattle.scan_values.specs.Values.{val_of}
use Rattle.scan_spelling.proofs.Cells.{with_front}
use Rattle.scan_spelling.proofs.read.plain_bools.Given as goal

abbrev pub invariant-loop-row : goal.invariant-loop-row
invariant-loop-row l =
    with_front (map val_of l.values.items) (cells DTypeKind.Bool (replicate (l.rows - l.row) 1) (drop l.row (take l.rows (bits_of l.bools)))) ≡ cells DTypeKind.Bool (replicate l.rows 1) (take l.rows (bits_of l.bools))
