use Rattle.std.proofs.Common.{◌≡◌, ◌<◌, ◌∷◌, [], ℕ, List, length}
use Rattle.scan_import.specs.CsvReader.{IsPlain, WasRead}
use Rattle.scan_import.proofs.guess.columns_seen.Given as goal

abbrev pub invariant-loop-row : goal.invariant-loop-row
invariant-loop-row g l = record {
  plain : IsPlain l.row-iterator.rdr;
  turns : 0 < l.row-iterator.left;
  count : length l.columns.items ≡ l.fn.count;
  read : (bytes : List ℕ) (names : List (List ℕ)) → WasRead g.R.Read.remaining bytes (names ∷ []) l.fn.reader
      → (records : List (List (List ℕ))) × WasRead g.R.Read.remaining bytes (names ∷ records) l.row-iterator.rdr;
}
