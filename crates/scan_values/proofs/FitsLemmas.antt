-- Values beside fields, pair by pair.
use Rattle.std.proofs.Common.{◌≡◌, ◌≢◌, ℕ, ◌+◌, ◌<◌, ◌^◌, zero, suc, List, [], ◌∷◌, length, drop, get_or, map, Some, slice_get, Bool, true, false, ◌&&◌, refl, ap, ◌∙◌, add-one, arith}
use Rattle.std.proofs.lemmas.Bool.Decides.{nat_tests}
use Rattle.scan_values.specs.DataType.{DataType, bool_type, int_type, utf8_type, list_type, struct_type, Name, fields_of}
use Rattle.scan_values.specs.Kinds.{element_of}
use Rattle.scan_values.specs.FieldLists.{dtypes_of}
use Rattle.scan_values.specs.Fits.{fits, fits_all, fits_fields, is_short}
use Rattle.scan_values.specs.Marked.{list, listed}
use Rattle.scan_values.specs.Val.{Val, vals_of, marked, marked_all}
use Rattle.scan_values.specs.Values.{val_of}
use Rattle.scan_values.specs.declared.value.Value.{Value}

and_false : (b : Bool) → (b && false) ≡ false
and_false true = refl
and_false false = refl

pub fits_fields_uneven : (vs : List Val) (fs : List (Name × DataType)) → length vs ≢ length fs → fits_fields (marked_all (vals_of vs)) (fields_of fs) ≡ false
fits_fields_uneven [] [] h = absurd (h refl)
fits_fields_uneven [] (f ∷ fs) h = refl
fits_fields_uneven (v ∷ vs) [] h = refl
fits_fields_uneven (v ∷ vs) (f ∷ fs) h = ap (λ b. fits (marked v) f.1 && b) (fits_fields_uneven vs fs (λ e. h (omega arith))) ∙ and_false (fits (marked v) f.1)

pub fits_fields_turn : (vs : List Value) (fs : List (Name × DataType)) (i : ℕ) (v : Value) (d : DataType) → i < length vs → v ≡ get_or vs i v → Some d ≡ slice_get (dtypes_of fs) i
    → fits_fields (marked_all (vals_of (map val_of (drop i vs)))) (fields_of (drop i fs)) ≡ (fits (marked (val_of v)) d && fits_fields (marked_all (vals_of (map val_of (drop (i + 1) vs)))) (fields_of (drop (i + 1) fs)))
fits_fields_turn vs fs i v d h e g = rw (add-one, turn vs fs i v d h e g)
  where
    turn : (vs : List Value) (fs : List (Name × DataType)) (i : ℕ) (v : Value) (d : DataType) → i < length vs → v ≡ get_or vs i v → Some d ≡ slice_get (dtypes_of fs) i
        → fits_fields (marked_all (vals_of (map val_of (drop i vs)))) (fields_of (drop i fs)) ≡ (fits (marked (val_of v)) d && fits_fields (marked_all (vals_of (map val_of (drop (suc i) vs)))) (fields_of (drop (suc i) fs)))
    turn [] fs i v d h e g = absurd (omega arith)
    turn (w ∷ vs) [] i v d h e g = cc
    turn (w ∷ vs) (f ∷ fs) zero v d h e g = let same : d ≡ f.1 = cc in rw (same, e)
    turn (w ∷ vs) (f ∷ fs) (suc i) v d h e g = turn vs fs i v d (omega arith) e g

length-listed : (vs : List Val) → length (listed (marked_all (vals_of vs))) ≡ length vs
length-listed [] = refl
length-listed (v ∷ vs) = ap suc (length-listed vs)

pub is_short-vals : (vs : List Val) → length vs < 2 ^ 64 → is_short (marked_all (vals_of vs)) ≡ true
is_short-vals vs h = grind (arith, nat_tests, length-listed vs)

pub fits-list : (vs : List Val) (d e : DataType) → length vs < 2 ^ 64 → Some e ≡ element_of d → fits_all (marked_all (vals_of vs)) e ≡ fits (list (marked_all (vals_of vs))) d
fits-list vs (bool_type n) e h g = cc
fits-list vs (int_type p n) e h g = cc
fits-list vs (utf8_type n) e h g = cc
fits-list vs (list_type f n) e h g = let same : e ≡ f = cc in rw (is_short-vals vs h, same)
fits-list vs (struct_type fs n) e h g = cc
