use Rattle.std.proofs.Common.{◌≡◌, drop, map}
use Rattle.scan_spelling.specs.Spelling.{cells}
use Rattle.scan_values.specs.Values.{val_of}
use Rattle.scan_spelling.proofs.Cells.{with_front}
use Rattle.scan_spelling.proofs.read.cells.Given as goal

abbrev pub invariant-loop-flag : goal.invariant-loop-flag
invariant-loop-flag l = with_front (map val_of l.values.items) (cells l.kind (drop l.flag-index l.flags) l.rest) ≡ cells l.kind l.flags l.bytes
