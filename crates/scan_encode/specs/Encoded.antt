-- Layouts and segments that hold rows.
use Rattle.std.specs.Prelude.{◌≡◌, ℕ, List, length, Some, slice_get}
use Rattle.scan_values.specs.DataType.{DataType}
use Rattle.scan_values.specs.Val.{Val, marked}
use Rattle.scan_segments.specs.Source.{Store}
use Rattle.scan_layout.specs.Form.{HasForm}
use Rattle.scan_layout.specs.Layout.{Layout, rows_of}
use Rattle.scan_layout.specs.RowValue.{row_value}
use Rattle.scan_encode.specs.Rows.{Row}

-- the segments by their numbers
abbrev pub stored : List (List ℕ) → Store
stored segments id = slice_get segments id

-- a store that has these segments
pub record Has (store : Store) (segments : List (List ℕ)) : Type 0 where
  pub finds : (id : ℕ) (bytes : List ℕ) → slice_get segments id ≡ Some bytes → store id ≡ Some bytes

-- a layout of a dtype that gives these rows, where there are such, over each store that has the segments
pub record IsOf (dtype : DataType) (rows : List Row) (segments : List (List ℕ)) (l : Layout) : Type 0 where
  pub form : HasForm l dtype
  pub size : rows_of l ≡ length rows
  pub gives : (store : Store) → Has store segments → (i : ℕ) (v : Val) → slice_get rows i ≡ Some (Some v) → row_value l store i ≡ marked v

-- a layout of a dtype that gives these values over the segments
pub record Holds (dtype : DataType) (values : List Val) (segments : List (List ℕ)) (l : Layout) : Type 0 where
  pub form : HasForm l dtype
  pub size : rows_of l ≡ length values
  pub gives : (i : ℕ) (v : Val) → slice_get values i ≡ Some v → row_value l (stored segments) i ≡ marked v
