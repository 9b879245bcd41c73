-- The rows of lines of JSON: a row a line, but for blank ones.
use Rattle.std.specs.Prelude.{◌≡◌, ◌<◌, ◌==◌, ℕ, List, [], ◌∷◌, Bool, true, not, length, map, filter, Option, Some, option_and_then}
use Rattle.std.specs.List.{list_all}
use Rattle.std.specs.Str as str_spec
use Rattle.std.specs.Str.Lines.{IsFirstLine}
use Rattle.serde_json.specs.Data.{Data}
use Rattle.serde_json.specs.Read.{read}
use Rattle.scan_values.specs.DataType.{DataType, Name, Fields, field_list}
use Rattle.scan_values.specs.FieldLists.{names_of}
use Rattle.scan_values.specs.Kinds.{struct_fields_of}
use Rattle.scan_values.specs.Val.{Val}
use Rattle.scan_import.specs.Meaning.{is_object_of, most_levels, row_from, value_within}

-- these lines stand in front of a text, and this is left behind them
abbrev pub LinesTo : List ℕ → List (List ℕ) → List ℕ → Type 0
LinesTo text [] left = text ≡ left
LinesTo text (line ∷ lines) left = (rest : List ℕ) × (0 < length text) × IsFirstLine text line rest × LinesTo rest lines left

-- a line of spaces alone
abbrev pub is_blank : List ℕ → Bool
is_blank line = length (str_spec.trim line) == 0

-- the row of a line
abbrev pub line_in : List (Name × DataType) → List ℕ → Option Val
line_in fs line = option_and_then (row_from (value_within most_levels) fs) (read line)

-- the rows of a text's lines as values of these fields
pub record AreLinesOf (fs : List (Name × DataType)) (text : List ℕ) (rows : List Val) : Type 0 where
  pub lines : List (List ℕ)
  pub left : List ℕ
  pub are : LinesTo text lines left
  pub none : length left ≡ 0
  pub each : map (line_in fs) (filter (λ l. not (is_blank l)) lines) ≡ map Some rows

-- the same of a dtype of structs
abbrev pub IsJsonLinesOf : DataType → List ℕ → List Val → Type 0
IsJsonLinesOf d text rows = (fs : Fields) × (struct_fields_of d ≡ Some fs) × AreLinesOf (field_list fs) text rows

-- the values of a text's lines, but for blank ones
pub record AreValuesOf (text : List ℕ) (rows : List Data) : Type 0 where
  pub lines : List (List ℕ)
  pub left : List ℕ
  pub are : LinesTo text lines left
  pub none : length left ≡ 0
  pub each : map read (filter (λ l. not (is_blank l)) lines) ≡ map Some rows

-- values that are objects, and a dtype of structs that has a field for each of their members
pub record HasMembers (d : DataType) (rows : List Data) : Type 0 where
  pub fields : Fields
  pub is : struct_fields_of d ≡ Some fields
  pub named : list_all (is_object_of (names_of (field_list fields))) rows ≡ true

-- the same of a text's lines
pub record ShowsMembers (text : List ℕ) (d : DataType) : Type 0 where
  pub rows : List Data
  pub are : AreValuesOf text rows
  pub has : HasMembers d rows
