-- The line of a row that is given.
use Rattle.std.specs.Prelude.{ℕ, ◌/◌, ◌%◌, ◌+◌, ◌==◌, List, [], ◌∷◌, ◌++◌, Bool, true, false, unwrap_or, nat_lt, if◌then◌else◌, codes}
use Rattle.std.specs.List.{flat_map}
use Rattle.std.specs.Fmt.{decimal, signed_decimal}
use Rattle.scan_values.specs.DataType.{DataType, Fields, no_fields, field}
use Rattle.scan_values.specs.Kinds.{element_of, struct_fields_of}
use Rattle.scan_values.specs.Val.{Val, null_val, bool_val, int_val, text_val, list_val, struct_val, Vals, no_vals, val}

-- a digit below 16, in lower case
abbrev pub hex_digit : ℕ → ℕ
hex_digit n = if nat_lt n 10 then n + 48 else n + 87

-- a byte of a text, where it stands in quotes
abbrev pub escaped : ℕ → List ℕ
escaped b =
    if b == 34 then codes "\\\"" else
    (if b == 92 then codes "\\\\" else
    (if b == 8 then codes "\\b" else
    (if b == 9 then codes "\\t" else
    (if b == 10 then codes "\\n" else
    (if b == 12 then codes "\\f" else
    (if b == 13 then codes "\\r" else
    (if nat_lt b 32 then codes "\\u00" ++ (hex_digit (b / 16) ∷ hex_digit (b % 16) ∷ []) else b ∷ [])))))))

-- a text in quotes
abbrev pub quoted : List ℕ → List ℕ
quoted text = codes "\"" ++ flat_map escaped text ++ codes "\""

-- the dtype of the elements of a list of this dtype
abbrev pub element_in : DataType → DataType
element_in d = unwrap_or (element_of d) d

-- the fields of a struct of this dtype
abbrev pub fields_in : DataType → Fields
fields_in d = unwrap_or (struct_fields_of d) no_fields

-- between two parts stands a comma
abbrev pub comma : Bool → List ℕ
comma is_first = if is_first then [] else codes ","

abbrev mutual
  -- a value of this dtype
  pub value_text : Val → DataType → List ℕ
  value_text null_val d = codes "null"
  value_text (bool_val b) d = if b then codes "true" else codes "false"
  value_text (int_val z) d = signed_decimal z
  value_text (text_val s) d = quoted s
  value_text (list_val vs) d = codes "[" ++ (elements_text true vs (element_in d) ++ codes "]")
  value_text (struct_val vs) d = codes "{" ++ (fields_text true vs (fields_in d) ++ codes "}")

  -- the elements of a list, with commas between them
  pub elements_text : Bool → Vals → DataType → List ℕ
  elements_text is_first no_vals d = []
  elements_text is_first (val v vs) d = comma is_first ++ (value_text v d ++ elements_text false vs d)

  -- the fields of a struct by their names, with commas between them
  pub fields_text : Bool → Vals → Fields → List ℕ
  fields_text is_first no_vals fs = []
  fields_text is_first (val v vs) no_fields = []
  fields_text is_first (val v vs) (field n d fs) = comma is_first ++ (quoted n ++ (codes ":" ++ (value_text v d ++ fields_text false vs fs)))

-- the line of a row of a file
abbrev pub line_of : DataType → ℕ → ℕ → Val → List ℕ
line_of dtype file row v = codes "{\"file\":"
    ++ (decimal file ++ (codes ",\"row\":"
    ++ (decimal row ++ (codes ",\"value\":" ++ (value_text v dtype ++ codes "}\n")))))
