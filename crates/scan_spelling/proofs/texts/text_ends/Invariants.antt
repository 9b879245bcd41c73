use Rattle.std.proofs.Common.{◌≡◌, ◌+◌, drop, length}
use Rattle.scan_spelling.specs.TextColumns.{ends_of, row_flags}
use Rattle.scan_spelling.proofs.TextColumns.{with_ends}
use Rattle.scan_spelling.proofs.texts.text_ends.Given as goal

abbrev pub invariant-loop-row : goal.invariant-loop-row
invariant-loop-row l =
    (with_ends l.ends.items (ends_of l.place (drop l.row (row_flags l.spelling l.nullability l.rows l.flags)) l.rest) ≡ ends_of 0 (row_flags l.spelling l.nullability l.rows l.flags) l.bytes)
    × (l.place + length l.rest ≡ length l.bytes)
