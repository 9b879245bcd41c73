-- What stands before the fields of a struct and before the number of a row, and the lines of rows.
use Rattle.std.specs.Prelude.{ℕ, List, [], ◌∷◌, ◌++◌, Bool, true, false, map, zip, codes}
use Rattle.std.specs.Fmt.{decimal}
use Rattle.std.specs.List.{flat_map}
use Rattle.scan_values.specs.DataType.{DataType, Name, Fields, no_fields, field, bool_type, int_type, utf8_type, list_type, struct_type}
use Rattle.scan_values.specs.Val.{Val}
use Rattle.scan_lines.specs.Line.{comma, quoted, line_of}

-- what stands before a field of this name: a comma but for the first, and the name
abbrev pub head_text : Bool → Name → List ℕ
head_text is_first n = comma is_first ++ (quoted n ++ codes ":")

-- the same of each field of a struct, with the field's dtype
abbrev pub heads_of : Bool → Fields → List (List ℕ × DataType)
heads_of is_first no_fields = []
heads_of is_first (field n d fs) = (head_text is_first n, d) ∷ heads_of false fs

-- the same of names
abbrev pub head_texts : Bool → List Name → List (List ℕ)
head_texts is_first [] = []
head_texts is_first (n ∷ ns) = head_text is_first n ∷ head_texts false ns

-- the dtypes of the parts of a list or a struct
abbrev pub dtypes_in : Fields → List DataType
dtypes_in no_fields = []
dtypes_in (field n d fs) = d ∷ dtypes_in fs

abbrev pub names_in : Fields → List Name
names_in no_fields = []
names_in (field n d fs) = n ∷ names_in fs

abbrev pub parts_of : DataType → List DataType
parts_of (bool_type n) = []
parts_of (int_type p n) = []
parts_of (utf8_type n) = []
parts_of (list_type d n) = d ∷ []
parts_of (struct_type fs n) = dtypes_in fs

-- what stands before the number of a row of a file
abbrev pub front_of : ℕ → List ℕ
front_of file = codes "{\"file\":" ++ (decimal file ++ codes ",\"row\":")

-- the lines of rows of a file, each with its number and its value
abbrev pub lines_of_rows : DataType → ℕ → List ℕ → List Val → List ℕ
lines_of_rows d file rows values = flat_map (λ r. line_of d file r.0 r.1) (zip rows values)
