-- The rows of several arrays.
use Rattle.std.specs.Prelude.{◌≡◌, ◌++◌, List, [], ◌∷◌}
use Rattle.scan_values.specs.Arrays.{ArrayData}
use Rattle.scan_values.specs.DataType.{DataType}
use Rattle.scan_values.specs.Val.{Val}

-- those of one array after the other
abbrev pub rows_of_all : List ArrayData → List Val
rows_of_all [] = []
rows_of_all (a ∷ rest) = a.items ++ rows_of_all rest

-- each array is of the dtype
abbrev pub AreArraysOf : DataType → List ArrayData → Type 0
AreArraysOf d [] = Unit {0}
AreArraysOf d (a ∷ rest) = (a.dtype ≡ d) × AreArraysOf d rest
