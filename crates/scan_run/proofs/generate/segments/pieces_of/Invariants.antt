use Rattle.std.proofs.Common.{◌≡◌, ◌++◌, ◌+◌, map}
use Rattle.scan_values.specs.Selections.{numbers}
use Rattle.scan_run.specs.Generated.{piece_at, piece_rows, rows_of, numbered}
use Rattle.scan_run.proofs.generate.segments.pieces_of.Given as goal

abbrev pub invariant-loop-piece : goal.invariant-loop-piece
invariant-loop-piece l = l.made.items ++ numbered (l.first + l.piece) (map rows_of (map (piece_at l.rows) (numbers l.piece l.count))) ≡ numbered l.first (piece_rows l.rows)
