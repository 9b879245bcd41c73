-- The rows of a CSV: its first record has names, and each other record is a row.
use Rattle.std.specs.Prelude.{◌≡◌, ◌≢◌, ℕ, List, ◌∷◌, length, map, position, zip, Option, Some}
use Rattle.std.specs.Str.{bytes_eq}
use Rattle.csv.specs.Reading.{AreRecords, default_config, strip_bom}
use Rattle.csv.specs.declared.parser.State.TheVariants as st
use Rattle.scan_values.specs.DataType.{DataType, Name, Fields, field_list, fields_of, struct_type}
use Rattle.scan_values.specs.declared.ptype.Nullability.TheVariants.{NonNullable}
use Rattle.scan_values.specs.FieldLists.{names_of, dtypes_of}
use Rattle.scan_values.specs.Kinds.{struct_fields_of}
use Rattle.scan_values.specs.Val.{Val}
use Rattle.scan_import.specs.Cells.{record_in}
use Rattle.scan_import.specs.Lists.{StopsAt}
use Rattle.scan_import.specs.declared.fault.ImportCause.{ImportCause}
use Rattle.scan_import.specs.declared.fault.ImportCause.TheVariants as cause

-- the place of each name among others, where it is there
abbrev pub places_in : List Name → List Name → List (Option ℕ)
places_in ns names = map (λ n. position (bytes_eq n) names) ns

-- these names stand in these columns, and there is no other
pub record AreColumns (ns names : List Name) (columns : List ℕ) : Type 0 where
  pub places : places_in ns names ≡ map Some columns
  pub count : length names ≡ length ns

-- Why names of fields are no columns: one is not among the names, or their numbers differ.
abbrev pub AreNoColumns : List Name → List Name → ImportCause → Type 0
AreNoColumns ns names (cause.NoColumn i) = StopsAt i (places_in ns names)
AreNoColumns ns names (cause.Columns wanted found) = (wanted ≡ length ns) × (found ≡ length names) × (wanted ≢ found)
AreNoColumns ns names cause.NoMemory = Unit {0}
AreNoColumns ns names _ = ⊥

-- the records behind the names, and the rows that they are
pub record AreRowsOf (ds : List DataType) (columns : List ℕ) (bytes : List ℕ) (names : List (List ℕ)) (rows : List Val) : Type 0 where
  pub records : List (List (List ℕ))
  pub are : AreRecords default_config st.StartRecord (strip_bom bytes) (names ∷ records)
  pub each : map (record_in ds columns) records ≡ map Some rows

-- the rows of a CSV as values of these fields
pub record IsCsv (fs : List (Name × DataType)) (bytes : List ℕ) (rows : List Val) : Type 0 where
  pub names : List (List ℕ)
  pub columns : List ℕ
  pub stand : AreColumns (names_of fs) names columns
  pub rows_of : AreRowsOf (dtypes_of fs) columns bytes names rows

-- the same of a dtype of structs
abbrev pub IsCsvOf : DataType → List ℕ → List Val → Type 0
IsCsvOf d bytes rows = (fs : Fields) × (struct_fields_of d ≡ Some fs) × IsCsv (field_list fs) bytes rows

-- a dtype of structs whose fields have the names in the first record of a CSV
pub record ShowsNames (bytes : List ℕ) (d : DataType) : Type 0 where
  pub names : List (List ℕ)
  pub records : List (List (List ℕ))
  pub are : AreRecords default_config st.StartRecord (strip_bom bytes) (names ∷ records)
  pub dtypes : List DataType
  pub count : length dtypes ≡ length names
  pub is : d ≡ struct_type (fields_of (zip names dtypes)) NonNullable
