use Rattle.std.proofs.Common.{◌≡◌, ◌++◌, map}
use Rattle.scan_values.specs.Selections.{numbers}
use Rattle.scan_run.specs.Generated.{piece_at, pieces}
use Rattle.scan_run.specs.GeneratedBytes.{cut_bytes}
use Rattle.scan_run.proofs.generate.segments.push_column.Given as goal

abbrev pub invariant-loop-piece : goal.invariant-loop-piece
invariant-loop-piece l = l.segments.items ++ map (cut_bytes l.width l.slots) (map (piece_at l.rows) (numbers l.piece l.piece-end)) ≡ l.fn.segments.items ++ map (cut_bytes l.width l.slots) (pieces l.rows)
