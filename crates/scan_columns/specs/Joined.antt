-- Columns of the parts of a struct, and an expression over the struct.
use Rattle.std.specs.Prelude.{◌≡◌, ℕ, Bool, List, [], ◌∷◌, map, zip, length, slice_index_or}
use Rattle.std.specs.List.{list_any, range_with_len}
use Rattle.scan_values.specs.DataType.{DataType, Name, struct_type, fields_of}
use Rattle.scan_values.specs.declared.ptype.Nullability.TheVariants.{NonNullable}
use Rattle.scan_values.specs.Arrays.{ArrayData}
use Rattle.scan_values.specs.Marked.{Marked}
use Rattle.scan_values.specs.Val.{Val, null_val, struct_val, vals_of, marked}
use Rattle.scan_expr.specs.Bound.{Bound}
use Rattle.scan_expr.specs.Eval.{eval}
use Rattle.scan_expr.specs.Overflow.{overflows}

abbrev pub AreAsLong : ℕ → List ArrayData → Type 0
AreAsLong n [] = Unit {0}
AreAsLong n (a ∷ xs) = (length a.items ≡ n) × AreAsLong n xs

-- a struct of the columns' dtypes
abbrev pub IsScopeOf : List ArrayData → DataType → Type 0
IsScopeOf xs s = (ns : List Name) × (length ns ≡ length xs) × (s ≡ struct_type (fields_of (zip ns (map (λ (a : ArrayData). a.dtype) xs))) NonNullable)

-- the struct of the items of a row
abbrev pub row_at : List ArrayData → ℕ → Val
row_at xs r = struct_val (vals_of (map (λ (a : ArrayData). slice_index_or a.items r null_val) xs))

-- what the root gives for a row, which has its place as its number
abbrev pub joined_at : Bound → List ArrayData → ℕ → Marked
joined_at root xs r = eval root.scope root.expr (marked (row_at xs r)) r

-- the root overflows for some row
abbrev pub root_overflows : Bound → List ArrayData → ℕ → Bool
root_overflows root xs n = list_any (λ r. overflows root.scope root.expr (marked (row_at xs r)) r) (range_with_len 0 n)
