-- What is seen of one list or one struct among the cells that hold it.
use Rattle.std.specs.Prelude.{◌≡◌, ℕ, ◌<◌, ◌≤◌, List, map, length, get_or, slice_get, slice_range, Some, All}
use Rattle.scan_values.specs.Val.{null_val}
use Rattle.scan_columns.specs.declared.cells.Cells.{Cells}
use Rattle.scan_columns.specs.Cells.{vals_in, depth_in, deepest}
use Rattle.scan_columns.specs.Nested.{Deep, list_of, struct_of, rows_of, AreLong}

-- the list at a place has the elements of this range of places, of those of all lists
pub record IsListAt (d : Deep) (i : ℕ) (elements : Cells) (from to : ℕ) : Type 0 where
  pub depth : depth_in elements ≡ d.depth
  pub ordered : from ≤ to
  pub within : to ≤ length (vals_in elements)
  pub is : Some (list_of (slice_range (vals_in elements) from to)) ≡ slice_get d.items i

-- the struct at a place has in each field the value at that place
pub record IsStructAt (d : Deep) (i : ℕ) (fields : List Cells) : Type 0 where
  pub depth : deepest fields ≡ d.depth
  pub long : All (λ c. i < length (vals_in c)) fields
  pub is : Some (struct_of (map (λ c. get_or (vals_in c) i null_val) fields)) ≡ slice_get d.items i

-- these are the fields of all structs, none of which is null
pub record AreFieldsIn (d : Deep) (fields : List Cells) : Type 0 where
  pub long : AreLong (length d.items) (map vals_in fields)
  pub rows : d.items ≡ map struct_of (rows_of (length d.items) (map vals_in fields))
