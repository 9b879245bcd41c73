-- The rows that are totalled, by the values of what is read of each.
use Rattle.std.specs.Prelude.{ℕ, List, [], ◌∷◌, take, drop}
use Rattle.scan_values.specs.Val.{Val, struct_val, Vals, no_vals, val}
use Rattle.scan_groups.specs.Rows.{Row}

abbrev pub listed : Vals → List Val
listed no_vals = []
listed (val v vs) = v ∷ listed vs

-- the values of a struct's fields; none of anything else
abbrev pub fields_in : Val → List Val
fields_in (struct_val vs) = listed vs
fields_in _ = []

-- what is read of a row: the values of so many keys, and then those of measures
abbrev pub row_in : ℕ → Val → Row
row_in keys v = record { key = take keys (fields_in v); read = drop keys (fields_in v) }
