use Rattle.std.proofs.Common.{◌≡◌, ◌-◌, replicate, map}
use Rattle.scan_spelling.specs.Spelling.{cells}
use Rattle.scan_values.specs.Values.{val_of}
use Rattle.scan_spelling.proofs.Cells.{with_front}
use Rattle.scan_spelling.proofs.read.plain_cells.Given as goal

abbrev pub invariant-loop-row : goal.invariant-loop-row
invariant-loop-row l = with_front (map val_of l.values.items) (cells l.kind (replicate (l.rows - l._row) 1) l.left) ≡ cells l.kind (replicate l.rows 1) l.bytes
