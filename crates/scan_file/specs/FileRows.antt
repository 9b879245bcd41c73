-- Rows of a split, and their values.
use Rattle.std.specs.Prelude.{◌≡◌, ℕ, Bool, true, false, List, [], ◌∷◌, length, map, zip, refl}
use Rattle.std.specs.Coded.{Coded, code_by, coded×, coded_list, coded_ℕ}
use Rattle.scan_values.specs.Arrays.{ArrayData, array_code}
use Rattle.scan_values.specs.DataType.{DataType}
use Rattle.scan_values.specs.Marked.{lost}
use Rattle.scan_values.specs.Val.{marked}
use Rattle.scan_drive.specs.Files.{Item}

-- the numbers of rows, and their values
pub record RowsData : Type 0 where
  pub numbers : List ℕ
  pub values : ArrayData

-- rows of these numbers and values
abbrev pub rows_data : List ℕ → ArrayData → RowsData
rows_data is a = record { numbers = is; values = a }

-- how they are kept
abbrev pub rows_code : Coded RowsData
rows_code = code_by (List ℕ × ArrayData) (coded× (coded_list coded_ℕ) array_code) (λ r. (r.numbers, r.values))
    (λ p. record { numbers = p.0; values = p.1 }) (λ _. refl)

-- there are as many of both
abbrev pub AreEven : RowsData → Type 0
AreEven r = length r.numbers ≡ length (r.values).items

-- each row with the dtype of its value, and that as a marked value
abbrev pub row_items : RowsData → List Item
row_items r = zip r.numbers (map (λ v. ((r.values).dtype, marked v)) (r.values).items)

-- one row of this dtype, which is lost
abbrev pub lost_row : DataType → List Item
lost_row d = (0, (d, lost)) ∷ []

-- rows of this dtype, unless their split can't be read to its end: then it stands for one row, which is lost
abbrev pub unless_lost : Bool → DataType → List Item → List Item
unless_lost false d rows = rows
unless_lost true d rows = lost_row d
