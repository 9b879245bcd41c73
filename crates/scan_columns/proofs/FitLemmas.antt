-- A compared value is of the dtype that a comparison has.
use Rattle.std.specs.Prelude.{◌≡◌, ℤ, Bool, true, false, ◌&&◌, List, [], ◌∷◌, ◌++◌, map, replicate, ℕ, zero, suc, refl}
use Rattle.scan_values.specs.Val.{Val, null_val, int_val, bool_val, text_val, list_val, struct_val, marked, marked_all, vals_of}
use Rattle.scan_values.specs.DataType.{DataType, bool_type, nullability_of}
use Rattle.scan_values.specs.Fits.{fits, fits_all}
use Rattle.scan_expr.specs.declared.op.Binary.{Binary}
use Rattle.scan_columns.specs.Compared.{compare_val}

fit_one : (op : Binary) (lit : ℤ) (d : DataType) (v : Val) → fits (marked v) d ≡ true → fits (marked (compare_val op lit v)) (bool_type (nullability_of d)) ≡ true
fit_one op lit d null_val h = h
fit_one op lit d (bool_val b) h = refl
fit_one op lit d (int_val z) h = refl
fit_one op lit d (text_val t) h = refl
fit_one op lit d (list_val vs) h = refl
fit_one op lit d (struct_val vs) h = refl

left : (a b : Bool) → (a && b) ≡ true → a ≡ true
left true b h = refl
left false b h = h

right : (a b : Bool) → (a && b) ≡ true → b ≡ true
right true b h = h
right false b h = cc

both : (a b : Bool) → a ≡ true → b ≡ true → (a && b) ≡ true
both true b h k = k
both false b h k = h

pub fit_compared : (op : Binary) (lit : ℤ) (d : DataType) (vs : List Val) → fits_all (marked_all (vals_of vs)) d ≡ true → fits_all (marked_all (vals_of (map (compare_val op lit) vs))) (bool_type (nullability_of d)) ≡ true
fit_compared op lit d [] h = refl
fit_compared op lit d (v ∷ vs) h =
    both
    (fits (marked (compare_val op lit v)) (bool_type (nullability_of d)))
    (fits_all (marked_all (vals_of (map (compare_val op lit) vs))) (bool_type (nullability_of d)))
    (fit_one op lit d v (left (fits (marked v) d) (fits_all (marked_all (vals_of vs)) d) h))
    (fit_compared op lit d vs (right (fits (marked v) d) (fits_all (marked_all (vals_of vs)) d) h))

pub fit_append : (d : DataType) (vs ws : List Val) → fits_all (marked_all (vals_of vs)) d ≡ true → fits_all (marked_all (vals_of ws)) d ≡ true → fits_all (marked_all (vals_of (vs ++ ws))) d ≡ true
fit_append d [] ws h k = k
fit_append d (v ∷ vs) ws h k =
    both (fits (marked v) d) (fits_all (marked_all (vals_of (vs ++ ws))) d)
    (left (fits (marked v) d) (fits_all (marked_all (vals_of vs)) d) h)
    (fit_append d vs ws (right (fits (marked v) d) (fits_all (marked_all (vals_of vs)) d) h) k)

pub fit_constant : (d : DataType) (v : Val) (n : ℕ) → fits (marked v) d ≡ true → fits_all (marked_all (vals_of (replicate n v))) d ≡ true
fit_constant d v zero h = refl
fit_constant d v (suc n) h = both (fits (marked v) d) (fits_all (marked_all (vals_of (replicate n v))) d) h (fit_constant d v n h)
