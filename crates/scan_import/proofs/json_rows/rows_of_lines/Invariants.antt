use Rattle.std.proofs.Common.{◌≡◌, ℕ, List, map, filter}
use Rattle.std.specs.Prelude.{not}
use Rattle.std.specs.Str.Iter.{lines_rest}
use Rattle.scan_import.specs.JsonLines.{LinesTo, is_blank, line_in}
use Rattle.scan_import.specs.Lists.{known}
use Rattle.scan_import.proofs.json_rows.rows_of_lines.Given as goal

abbrev pub invariant-loop-line : goal.invariant-loop-line
invariant-loop-line l =
    (lines : List (List ℕ)) × LinesTo l.fn.text lines (lines_rest l.line-iterator)
    × (map (line_in l.fields) (filter (λ s. not (is_blank s)) lines) ≡ map known l.rows.items)
