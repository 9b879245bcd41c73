use Rattle.std.proofs.Common.{◌≡◌, ◌<◌, ◌∷◌, [], ℕ, List, map}
use Rattle.scan_values.specs.FieldLists.{dtypes_of}
use Rattle.scan_import.specs.Cells.{record_in}
use Rattle.scan_import.specs.CsvReader.{IsPlain, WasRead}
use Rattle.scan_import.specs.Lists.{known}
use Rattle.scan_import.proofs.csv_rows.rows_left.Given as goal

abbrev pub invariant-loop-row : goal.invariant-loop-row
invariant-loop-row g l = record {
  plain : IsPlain l.row-iterator.rdr;
  turns : 0 < l.row-iterator.left;
  read : (bytes : List ℕ) (names : List (List ℕ)) → WasRead g.R.Read.remaining bytes (names ∷ []) l.fn.reader
      → (records : List (List (List ℕ))) × WasRead g.R.Read.remaining bytes (names ∷ records) l.row-iterator.rdr
      × (map (record_in (dtypes_of l.fields) l.columns) records ≡ map known l.rows.items);
}
