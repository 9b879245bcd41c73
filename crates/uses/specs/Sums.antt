-- What a sum of a column concludes, in its own words.
use Rattle.std.specs.Prelude.{ℕ, ℤ, pos, ◌+ℤ◌, List, [], ◌∷◌, ◌++◌, Option, None, Some}
use Rattle.std.specs.List.{flat_map}
use Rattle.vortex_scan.specs.Values.Val.{Val, null_val, bool_val, int_val, text_val, list_val, struct_val}
use Rattle.vortex_scan.specs.Multi.Answer.{Item}
use Rattle.vortex_scan.specs.Multi.Output.{ChunkData}

-- the number that a value is, and 0 of any other
abbrev pub number_in : Val → ℤ
number_in null_val = pos 0
number_in (bool_val b) = pos 0
number_in (int_val z) = z
number_in (text_val s) = pos 0
number_in (list_val vs) = pos 0
number_in (struct_val vs) = pos 0

-- the sum of the numbers among values
abbrev pub sum_of : List Val → ℤ
sum_of [] = pos 0
sum_of (v ∷ vs) = number_in v +ℤ sum_of vs

-- a value where there is one, before others
abbrev pub with_value : Option Val → List Val → List Val
with_value None vs = vs
with_value (Some v) vs = v ∷ vs

-- the values of rows
abbrev pub values_in : List Item → List Val
values_in [] = []
values_in (item ∷ items) = with_value item.value (values_in items)

-- the values that chunks give
abbrev pub chunk_values : List ChunkData → List Val
chunk_values chunks = flat_map (λ c. c.values.items) chunks
