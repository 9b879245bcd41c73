use Rattle.std.proofs.Common.{◌≡◌, ◌&&◌, drop}
use Rattle.scan_spelling.specs.LeafColumns.{are_rows}
use Rattle.scan_spelling.proofs.spelt.are_rows.Given as goal

abbrev pub invariant-loop-i : goal.invariant-loop-i
invariant-loop-i l = (l.good && are_rows (drop l.i l.flags) (drop l.i l.bytes)) ≡ are_rows l.flags l.bytes
