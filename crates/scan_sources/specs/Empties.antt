-- Rows of which nothing is read.
use Rattle.std.specs.Prelude.{◌≡◌, ◌≤◌, ◌<◌, ◌+◌, ◌-◌, ℕ, min, true, List, replicate, Option, Some, None, Result, Ok, Err, refl}
use Rattle.std.specs.Coded.{Coded, code_by, coded×, coded_ℕ}
use Rattle.scan_values.specs.Arrays.{ArrayData, of_parts}
use Rattle.scan_values.specs.DataType.{DataType, data_type_code}
use Rattle.scan_values.specs.Val.{Val, struct_val, no_vals}
use Rattle.scan_values.specs.declared.memory.NoMemory.{NoMemory}
use Rattle.scan_sources.specs.Requests.{is_bare_struct}

-- the dtype of the rows, how many there are, and how many of them were given
pub record EmptyData : Type 0 where
  pub dtype : DataType
  pub rows : ℕ
  pub given : ℕ

abbrev pub empty_data : DataType → ℕ → ℕ → EmptyData
empty_data d n k = record { dtype = d; rows = n; given = k }

abbrev pub empty_code : Coded EmptyData
empty_code = code_by (DataType × (ℕ × ℕ)) (coded× data_type_code (coded× coded_ℕ coded_ℕ))
    (λ e. (e.dtype, (e.rows, e.given))) (λ p. empty_data p.0 p.1.0 p.1.1) (λ _. refl)

-- a row is a struct without fields, and no more of them were given than there are
pub record IsEmpty (d : DataType) (n k : ℕ) : Type 0 where
  pub bare : is_bare_struct d ≡ true
  pub within : k ≤ n

-- so many structs without fields
abbrev pub bare_rows : ℕ → List Val
bare_rows n = replicate n (struct_val no_vals)

-- how many rows are given next: all that are left, or the greatest number of an array's
abbrev pub next_count : EmptyData → ℕ
next_count e = min (e.rows - e.given) 65536

-- the next rows are given, unless all were; after want of memory nothing is changed
abbrev pub GivesRows : EmptyData → EmptyData → Result (Option ArrayData) NoMemory → Type 0
GivesRows old new (Ok None) = (old.given ≡ old.rows) × (new ≡ old)
GivesRows old new (Ok (Some a)) = (old.given < old.rows) × (a ≡ of_parts old.dtype (bare_rows (next_count old)))
    × (new ≡ record old { given = old.given + next_count old })
GivesRows old new (Err f) = new ≡ old
