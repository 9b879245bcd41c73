use Rattle.std.proofs.Common.{◌≡◌, take, drop, map}
use Rattle.scan_spelling.specs.Spelling.{cells, bits_of}
use Rattle.scan_values.specs.Values.{val_of}
use Rattle.scan_spelling.proofs.Cells.{with_front}
use Rattle.scan_spelling.proofs.read.bit_cells.Given as goal

abbrev pub invariant-loop-row : goal.invariant-loop-row
invariant-loop-row l = with_front (map val_of l.values.items) (cells l.kind (drop l.row (take l.rows (bits_of l.flags))) l.rest) ≡ cells l.kind (take l.rows (bits_of l.flags)) l.bytes
