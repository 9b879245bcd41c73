-- What the text of a cell of a CSV means as a value of a dtype.
use Rattle.std.specs.Prelude.{ℕ, ℤ, List, [], ◌∷◌, Bool, true, false, ◌&&◌, ◌==◌, length, ltb, Option, None, Some, option_map, option_and_then, if◌then◌else◌, codes}
use Rattle.std.specs.Char.{digit_value}
use Rattle.std.specs.List.{list_all}
use Rattle.std.specs.Str.{bytes_eq}
use Rattle.std.specs.Str.Parse.{without_leading_sign, signed_digits_value}
use Rattle.csv.specs.Records.{field_at}
use Rattle.serde_json.specs.Read.{read}
use Rattle.scan_values.specs.DataType.{DataType, is_nullable}
use Rattle.scan_values.specs.Kinds.{kind_of}
use Rattle.scan_values.specs.Val.{Val, null_val, struct_val, vals_of}
use Rattle.scan_values.specs.declared.dtype.DTypeKind.{DTypeKind}
use Rattle.scan_values.specs.declared.dtype.DTypeKind.TheVariants as kinds
use Rattle.scan_import.specs.Lists.{all_of}
use Rattle.scan_import.specs.Meaning.{bool_in, int_in, text_in, value_in}

abbrev pub truth_in : List ℕ → Option Bool
truth_in bs = if bytes_eq bs (codes "true") then Some true else (if bytes_eq bs (codes "false") then Some false else None)

-- one digit or more, and nothing else
abbrev pub is_numeral : List ℕ → Bool
is_numeral [] = false
is_numeral (c ∷ cs) = list_all (λ b. ltb (digit_value b) 10) (c ∷ cs)

-- the number that decimal digits write, behind a sign if there is one
abbrev pub number_in : List ℕ → Option ℤ
number_in bs = if is_numeral (without_leading_sign bs) then Some (signed_digits_value 10 bs) else None

-- a truth value, a number, a text, or JSON
abbrev pub kind_cell : DTypeKind → DataType → List ℕ → Option Val
kind_cell kinds.Bool d bs = option_and_then (bool_in d) (truth_in bs)
kind_cell (kinds.Primitive p) d bs = option_and_then (int_in d) (number_in bs)
kind_cell kinds.Utf8 d bs = text_in d bs
kind_cell kinds.List d bs = option_and_then (value_in d) (read bs)
kind_cell kinds.Struct d bs = option_and_then (value_in d) (read bs)

-- Without text it is null where the dtype has that.
abbrev pub cell_in : DataType → List ℕ → Option Val
cell_in d bs = if (length bs == 0) && is_nullable d then Some null_val else kind_cell (kind_of d) d bs

-- what the cells in these columns mean, each as a value of its dtype
abbrev pub cells_in : List DataType → List ℕ → List (List ℕ) → List (Option Val)
cells_in [] cs cells = []
cells_in (d ∷ ds) [] cells = []
cells_in (d ∷ ds) (c ∷ cs) cells = option_and_then (cell_in d) (field_at cells c) ∷ cells_in ds cs cells

-- the row of a record
abbrev pub record_in : List DataType → List ℕ → List (List ℕ) → Option Val
record_in ds cs cells = option_map (λ vs. struct_val (vals_of vs)) (all_of (cells_in ds cs cells))
