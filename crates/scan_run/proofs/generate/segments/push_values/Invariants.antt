use Rattle.std.proofs.Common.{◌≡◌, ◌++◌, map}
use Rattle.scan_values.specs.Selections.{numbers}
use Rattle.scan_run.specs.Generated.{piece_at, value_type, values, spelled_piece, column_segments}
use Rattle.scan_run.proofs.generate.segments.push_values.Given as goal

abbrev pub invariant-loop-piece : goal.invariant-loop-piece
invariant-loop-piece l = l.segments.items ++ map (spelled_piece l.spelling value_type (values l.first l.count)) (map (piece_at l.rows) (numbers l.piece l.piece-end)) ≡ l.fn.segments.items ++ column_segments l.spelling value_type (values l.first l.count)
