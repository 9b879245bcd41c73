use Rattle.std.proofs.Common.{◌≡◌, ℕ, List, map, filter, Some}
use Rattle.std.specs.Prelude.{not}
use Rattle.std.specs.Str.Iter.{lines_rest}
use Rattle.serde_json.specs.Read.{read}
use Rattle.serde_json.specs.View.{view}
use Rattle.scan_import.specs.JsonLines.{LinesTo, is_blank}
use Rattle.scan_import.proofs.json_rows.values_of_lines.Given as goal

abbrev pub invariant-loop-line : goal.invariant-loop-line
invariant-loop-line l =
    (lines : List (List ℕ)) × LinesTo l.fn.text lines (lines_rest l.line-iterator)
    × (map read (filter (λ s. not (is_blank s)) lines) ≡ map (λ r. Some (view r.1)) l.rows.items)
