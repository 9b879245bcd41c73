-- The number of rows that a scan of generated files gives, and the sums of their fields.
use Rattle.std.specs.Prelude.{◌≡◌, ℕ, ◌+◌, ℤ, pos, ◌+ℤ◌, List, [], ◌∷◌, ◌++◌, Option, None, Some, length, map, codes}
use Rattle.std.specs.Fmt.{decimal, signed_decimal}
use Rattle.scan_values.specs.Val.{Val, int_val, struct_val, no_vals, val}
use Rattle.scan_multi.specs.Answer.{Item}
use Rattle.scan_multi.specs.Output.{ChunkData}
use Rattle.scan_run.specs.declared.generate.totals.Totals.{Totals}

-- the integer in the first field of a row, and the one in the second
abbrev pub id_in : Val → ℤ
id_in (struct_val (val (int_val z) vs)) = z
id_in _ = pos 0

abbrev pub length_in : Val → ℤ
length_in (struct_val (val v vs)) = id_in (struct_val vs)
length_in _ = pos 0

abbrev pub or_zero : (Val → ℤ) → Option Val → ℤ
or_zero f None = pos 0
or_zero f (Some v) = f v

-- the sum over rows that are given
abbrev pub total : (Val → ℤ) → List Item → ℤ
total f [] = pos 0
total f (item ∷ items) = or_zero f item.value +ℤ total f items

-- the totals with one more row, with more rows, and with the rows of chunks
abbrev pub with_row : Totals → Val → Totals
with_row t v = record { rows = t.rows + 1; ids = t.ids +ℤ id_in v; lengths = t.lengths +ℤ length_in v }

abbrev pub with_values : Totals → List Val → Totals
with_values t [] = t
with_values t (v ∷ vs) = with_values (with_row t v) vs

abbrev pub with_chunks : Totals → List ChunkData → Totals
with_chunks t [] = t
with_chunks t (c ∷ cs) = with_chunks (with_values t c.values.items) cs

-- the integers in the first and in the second fields of rows
pub record HaveNumbers (ids lengths : List ℤ) (values : List Val) : Type 0 where
  pub first : map id_in values ≡ ids
  pub second : map length_in values ≡ lengths

-- a number, and then others
abbrev pub added : ℤ → List ℤ → ℤ
added z [] = z
added z (n ∷ ns) = added (z +ℤ n) ns

abbrev pub no_totals : Totals
no_totals = record { rows = 0; ids = pos 0; lengths = pos 0 }

-- the line of n rows a file: how many rows were given, the sums of their ids and of the lengths of their lists, and how many segments were asked for
abbrev pub totals_line : ℕ → Totals → ℕ → List ℕ
totals_line n t asked = codes "n=" ++ (decimal n ++ (codes " rows=" ++ (decimal t.rows ++ (codes " ids=" ++ (signed_decimal t.ids
    ++ (codes " lengths=" ++ (signed_decimal t.lengths ++ (codes " asked=" ++ (decimal asked ++ codes "\n")))))))))
