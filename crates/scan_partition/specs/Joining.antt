-- Parts that were evaluated, joined row by row.
use Rattle.std.specs.Prelude.{◌≡◌, ℕ, ◌<◌, Bool, true, List, [], ◌∷◌, map, zip, take, length, slice_index_or}
use Rattle.std.specs.List.{flat_map, list_any, range_with_len}
use Rattle.scan_values.specs.DataType.{DataType, Name, struct_type, nullability_of, fields_of}
use Rattle.scan_values.specs.declared.ptype.Nullability.TheVariants.{NonNullable}
use Rattle.scan_values.specs.Arrays.{ArrayData}
use Rattle.scan_values.specs.Marked.{Marked}
use Rattle.scan_values.specs.Val.{Val, null_val, struct_val, vals_of, marked, marked_all}
use Rattle.scan_values.specs.Fits.{fits_all}
use Rattle.scan_expr.specs.Bound.{Bound}
use Rattle.scan_expr.specs.Infer.{struct_fields, infer}
use Rattle.scan_expr.specs.Eval.{eval}
use Rattle.scan_expr.specs.Overflow.{overflows}
use Rattle.scan_partition.specs.declared.item.Item.{Item}
use Rattle.scan_partition.specs.declared.struct_.Partitioned.TheVariants.{Multi}
use Rattle.scan_partition.specs.Rows.{IsRow, Agrees}
use Rattle.scan_partition.specs.Divided.{Divided}
use Rattle.scan_partition.specs.Split.{joined_value_of, KeepsWhole}

-- the first of each column, where it has one
abbrev pub heads : List (List Val) → List Val
heads = flat_map (take 1)

-- ---- arrays, side by side
abbrev pub AreAsLong : ℕ → List ArrayData → Type 0
AreAsLong n [] = Unit {0}
AreAsLong n (a ∷ xs) = (length a.items ≡ n) × AreAsLong n xs

abbrev pub AreFitting : List ArrayData → Type 0
AreFitting [] = Unit {0}
AreFitting (a ∷ xs) = (fits_all (marked_all (vals_of a.items)) a.dtype ≡ true) × AreFitting xs

-- a struct of the arrays' dtypes
abbrev pub IsScopeOf : List ArrayData → DataType → Type 0
IsScopeOf xs s = (ns : List Name) × (length ns ≡ length xs) × (s ≡ struct_type (fields_of (zip ns (map (λ (a : ArrayData). a.dtype) xs))) NonNullable)

-- one array for each part, of its dtype and of this length
abbrev pub AreOfParts : ℕ → List Bound → List ArrayData → Type 0
AreOfParts n [] [] = Unit {0}
AreOfParts n [] (a ∷ xs) = ⊥
AreOfParts n (p ∷ ps) [] = ⊥
AreOfParts n (p ∷ ps) (a ∷ xs) = ((a.dtype ≡ infer p.scope p.expr) × (length a.items ≡ n)) × AreOfParts n ps xs

-- the items of a row
abbrev pub row_at : List ArrayData → ℕ → Val
row_at xs r = struct_val (vals_of (map (λ (a : ArrayData). slice_index_or a.items r null_val) xs))

-- what the root gives for a row, which has its place as its number
abbrev pub joined_at : Bound → List ArrayData → ℕ → Marked
joined_at root xs r = eval root.scope root.expr (marked (row_at xs r)) r

-- the root overflows for some row
abbrev pub root_overflows : Bound → List ArrayData → ℕ → Bool
root_overflows root xs n = list_any (λ r. overflows root.scope root.expr (marked (row_at xs r)) r) (range_with_len 0 n)

-- ---- the parts' values, joined
-- each array holds its part's values, on what is read of its item in each row
abbrev pub HoldParts : (ℕ → Item → Marked) → ℕ → List Item → List Bound → List ArrayData → Type 0
HoldParts w n [] ps xs = Unit {0}
HoldParts w n (i ∷ is) [] xs = Unit {0}
HoldParts w n (i ∷ is) (p ∷ ps) [] = Unit {0}
HoldParts w n (i ∷ is) (p ∷ ps) (a ∷ xs) = (map marked a.items ≡ map (λ r. eval p.scope p.expr (w r i) r) (range_with_len 0 n)) × HoldParts w n is ps xs

-- such arrays join to the values of the root over the parts
abbrev pub JoinsParts : Divided → List ArrayData → ℕ → List Val → Type 0
JoinsParts d xs n vs = (w : ℕ → Item → Marked) → HoldParts w n d.items d.parts xs → map marked vs ≡ map (λ r. joined_value_of d (w r) r) (range_with_len 0 n)

-- what `join` gives of arrays of the parts are such values
abbrev pub PartsJoinRowByRow : Type 0
PartsJoinRowByRow = (d : Divided) (xs : List ArrayData) (n : ℕ) (vs : List Val) → length d.parts ≡ length d.items
    → AreOfParts n d.parts xs → map marked vs ≡ map (joined_at d.root xs) (range_with_len 0 n) → JoinsParts d xs n vs

-- in each row a value of the struct, and what is read of its items there
abbrev pub AreRows : DataType → ℕ → (ℕ → Marked) → (ℕ → Item → Marked) → Type 0
AreRows s n v w = (r : ℕ) → r < n → IsRow (struct_fields s) (nullability_of s) (v r) × Agrees (struct_fields s) (v r) (w r)

-- and to the values of an expression of which the parts keep the whole
abbrev pub JoinsWhole : Divided → List ArrayData → ℕ → List Val → Type 0
JoinsWhole d xs n vs =
    (b : Bound) (v : ℕ → Marked) (w : ℕ → Item → Marked) → KeepsWhole b (Multi d) → AreRows b.scope n v w
    → HoldParts w n d.items d.parts xs
    → map marked vs ≡ map (λ r. eval b.scope b.expr (v r) r) (range_with_len 0 n)
