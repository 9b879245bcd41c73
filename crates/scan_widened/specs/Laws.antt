-- Laws of files that are read under another dtype.
use Rattle.std.specs.Prelude.{◌≡◌, ℕ, ◌<◌, Option, None}
use Rattle.std.specs.declared.ops.Range.{Range}
use Rattle.scan_values.specs.DataType.{DataType}
use Rattle.scan_segments.specs.Source.{Store}
use Rattle.scan_layout.specs.Layout.{Layout, dtype_of, rows_of}
use Rattle.scan_layout.specs.Form.{HasForm}
use Rattle.scan_layout.specs.RowValue.{row_value}
use Rattle.scan_widen.specs.Under.{behind, under}
use Rattle.scan_widen.specs.Wide.{wide}
use Rattle.scan_widened.specs.Faults.{file_fault}
use Rattle.scan_widened.specs.Identity.{beside}

-- A file under a dtype: it is well-formed there, it has as many rows, and each of them, over what a source over its own
-- tells, is the file's row, widened.
pub record IsWidened (d : DataType) (l : Layout) : Type 0 where
  pub form : HasForm (under 0 d l) d
  pub rows : rows_of (under 0 d l) ≡ rows_of l
  pub values : (s : Store) (i : ℕ) → i < rows_of l → row_value (under 0 d l) (beside (behind d l) s) i ≡ wide (dtype_of l) d (row_value l s i)

-- so is each file that is not refused
abbrev pub FilesAreWidened : Type 0
FilesAreWidened = (d : DataType) (range : Option (Range ℕ)) (before : ℕ) (l : Layout) → file_fault d range before l ≡ None → IsWidened d l
