-- What a reader of rows is, as far as contracts see it.
use Rattle.std.specs.Prelude.{ℕ, ◌+◌, nat_lt, ◌&&◌, List, Bool, if◌then◌else◌, Option, Some, None, is_none, is_some, not}
use Rattle.scan_values.specs.DataType.{DataType, Name}
use Rattle.scan_values.specs.Marked.{Marked}
use Rattle.scan_values.specs.declared.field_path.FieldMask.{FieldMask}
use Rattle.scan_segments.specs.Source.{Store}
use Rattle.scan_spelling.specs.Places.{Place}
use Rattle.scan_expr.specs.Expr.{Expr, uses_row_index}
use Rattle.scan_expr.specs.Bound.{Bound}
use Rattle.scan_expr.specs.Eval.{eval}
use Rattle.scan_expr.specs.Overflow.{overflows}
use Rattle.scan_partition.specs.RowDivided.{uses_root}
use Rattle.scan_splits.specs.LayoutSplits.{missing}
use Rattle.scan_splits.specs.declared.fault.SplitFault.{SplitFault}
use Rattle.scan_splits.specs.declared.fault.SplitFault.TheVariants.{Bounds}

-- what no call changes
pub record ReaderState : Type 0 where
  pub name : Name
  pub dtype : DataType
  pub rows : ℕ
  -- the number of its first row, where it numbers its rows
  pub first_number : Option ℕ
  -- the value of a row, under a store of segments
  pub value : Store → ℕ → Marked
  -- the segments that the rows from one up to another touch, where they stand
  pub touched : Store → ℕ → ℕ → List Place
  -- what a store has of a segment where it stands is no good
  pub flawed : Store → Place → Bool
  -- the segments that rows want, where an expression that reads its scope, and no row numbers, wants just these
  pub holding : Option (List ℕ → List Place)
  -- the rows at which it is split by masks in a range
  pub edges : List FieldMask → ℕ → ℕ → List ℕ
  -- whether a mask names no field
  pub misses : List FieldMask → Bool

-- the number of a row, 0 where rows are not numbered
abbrev pub number_of : Option ℕ → ℕ → ℕ
number_of None i = 0
number_of (Some first) i = first + i

-- the row's number stands in an expression, and rows are not numbered
abbrev pub lacks_numbers : ReaderState → Expr → Bool
lacks_numbers s e = is_none s.first_number && uses_row_index e

-- an expression reads the numbers of a reader's rows, and nothing else
abbrev pub numbers_alone : ReaderState → Expr → Bool
numbers_alone s e = is_some s.first_number && (uses_row_index e && not (uses_root e))

-- the value of an expression in a row
abbrev pub value_of : ReaderState → Bound → Store → ℕ → Marked
value_of s e store i = eval e.scope e.expr (s.value store i) (number_of s.first_number i)

-- whether it overflows there
abbrev pub overflows_at : ReaderState → Bound → Store → ℕ → Bool
overflows_at s e store i = overflows e.scope e.expr (s.value store i) (number_of s.first_number i)

-- what is wrong with a range that ends at a row, or with the masks
abbrev pub split_fault : ReaderState → List FieldMask → ℕ → Option SplitFault
split_fault s masks end = if nat_lt s.rows end then Some Bounds else missing (s.misses masks)
