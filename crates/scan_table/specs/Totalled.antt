-- The rows of a table's chunks.
use Rattle.std.specs.Prelude.{◌≡◌, ℕ, zero, suc, List, ◌++◌, Bool, true, false, ◌&&◌, All, Option, None, Some, map, length, take, drop, replicate, get_or}
use Rattle.std.specs.List.{flat_map}
use Rattle.scan_values.specs.DataType.{DataType, Fields, no_fields, field}
use Rattle.scan_values.specs.Kinds.{is_scalar_type}
use Rattle.scan_values.specs.Val.{Val, null_val}
use Rattle.scan_values.specs.Values.{val_of}
use Rattle.scan_values.specs.declared.value.Value.{Value}
use Rattle.scan_expr.specs.Infer.{struct_fields}
use Rattle.scan_groups.specs.Order.{are_scalars}
use Rattle.scan_groups.specs.Rows.{Row}
use Rattle.scan_groups.specs.Running.{AreOf}
use Rattle.scan_groups.specs.Totals.{val_at}
use Rattle.scan_groups.specs.declared.groups.Groups.{Groups}
use Rattle.scan_groups.specs.declared.measure.Measured.{Measured}
use Rattle.scan_columns.specs.Cells.{vals_in}
use Rattle.scan_columns.specs.Nested.{AreLong, rows_of, struct_of}
use Rattle.scan_columns.specs.declared.cells.Cells.{Cells}
use Rattle.scan_multi.specs.Output.{ChunkData}
use Rattle.scan_table.specs.Rows.{row_in}

-- the rows of values
abbrev pub rows_in : ℕ → List Val → List Row
rows_in keys vs = map (row_in keys) vs

-- the rows of chunks
abbrev pub chunk_rows : ℕ → List ChunkData → List Row
chunk_rows keys cs = flat_map (λ (c : ChunkData). rows_in keys c.values.items) cs

-- so many first fields are scalars
abbrev pub begin_scalar : ℕ → Fields → Bool
begin_scalar zero fs = true
begin_scalar (suc n) no_fields = true
begin_scalar (suc n) (field m d fs) = is_scalar_type d && begin_scalar n fs

abbrev pub has_keys : ℕ → DataType → Bool
has_keys keys d = begin_scalar keys (struct_fields d)

-- the dtype of each chunk begins with so many scalars
abbrev pub AreKeyed : ℕ → List ChunkData → Type 0
AreKeyed keys cs = All (λ (c : ChunkData). has_keys keys c.values.dtype ≡ true) cs

-- the key of a value's row is of scalars
abbrev pub HasKey : ℕ → Value → Type 0
HasKey keys v = are_scalars (row_in keys (val_of v)).key ≡ true

abbrev pub HaveKeys : ℕ → List Value → Type 0
HaveKeys keys vs = All (HasKey keys) vs

-- ---- rows that are kept as columns
-- the rows of columns, of which the first so many are the keys'
abbrev pub column_rows : ℕ → ℕ → List (List Val) → List Row
column_rows keys n cs = map (λ vs. record { key = take keys vs; read = drop keys vs }) (rows_of n cs)

-- the column at a place; null where there is none
abbrev pub column_in : Option ℕ → ℕ → List (List Val) → List Val
column_in None n cs = replicate n null_val
column_in (Some place) n cs = get_or cs place (replicate n null_val)

-- what is read of rows at each place is the column there
abbrev pub AreRead : ℕ → List (List Val) → List Row → Type 0
AreRead n cs run = (place : Option ℕ) → map (val_at place) run ≡ column_in place n cs

-- values are the structs of columns
pub record HaveColumns (columns : List Cells) (vs : List Val) : Type 0 where
  pub long : AreLong (length vs) (map vals_in columns)
  pub rows : vs ≡ map struct_of (rows_of (length vs) (map vals_in columns))

-- groups have further rows, or are as they were
abbrev pub HasAdded : Bool → ℕ → List Row → Groups → Groups → Type 0
HasAdded true keys run old new = (ms : List Measured) (rows : List Row) → AreOf keys ms rows old → AreOf keys ms (rows ++ run) new
HasAdded false keys run old new = new ≡ old
