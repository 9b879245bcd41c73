-- Lists and rows of columns that fit are of their dtype.
use Rattle.std.proofs.Common.{◌≡◌, ◌<◌, ◌^◌, ℕ, zero, suc, Bool, true, false, ◌&&◌, ◌||◌, List, [], ◌∷◌, ◌++◌, length, take, drop, map, replicate, Option, Some, None, refl, ap, sym, subst, ◌∙◌, arith}
use Rattle.std.proofs.lemmas.List.{length-take, length-drop, length-replicate}
use Rattle.scan_values.specs.DataType.{DataType, Fields, no_fields, field, bool_type, int_type, utf8_type, list_type, struct_type, is_nullable, is_null_kind}
use Rattle.scan_values.specs.declared.ptype.Nullability.{Nullability}
use Rattle.scan_values.specs.Kinds.{element_of}
use Rattle.scan_values.specs.Arrays.{ArrayData}
use Rattle.scan_values.specs.Val.{Val, vals_of, marked, marked_all}
use Rattle.scan_values.specs.Fits.{fits, fits_all, fits_fields}
use Rattle.scan_values.proofs.FitsLemmas.{fits-list}
use Rattle.scan_values.proofs.Fitting.{fit-take, fit-drop}
use Rattle.scan_columns.specs.Typed.{typed}
use Rattle.scan_columns.specs.Nested.{list_of, struct_of, cuts, heads, rows_of, AreLong}
use Rattle.scan_columns.specs.Parts.{bits_of, AreBits, AreOf, AreFieldsOf, AllFitting, items_of}

and_true : (a b : Bool) → a ≡ true → b ≡ true → (a && b) ≡ true
and_true true b h k = k
and_true false b h k = h

left : (a b : Bool) → (a && b) ≡ true → a ≡ true
left true b h = refl
left false b h = h

right : (a b : Bool) → (a && b) ≡ true → b ≡ true
right true b h = h
right false b h = cc

-- no bit is false where no null may be
abbrev BitsFit : List Bool → DataType → Type 0
BitsFit [] d = Unit {0}
BitsFit (b ∷ bs) d = ((b || is_nullable d) ≡ true) × BitsFit bs d

nullable_bits : (bs : List Bool) (d : DataType) → is_nullable d ≡ true → BitsFit bs d
nullable_bits [] d h = tt
nullable_bits (true ∷ bs) d h = (refl, nullable_bits bs d h)
nullable_bits (false ∷ bs) d h = (h, nullable_bits bs d h)

all_bits : (n : ℕ) (d : DataType) → BitsFit (replicate n true) d
all_bits zero d = tt
all_bits (suc n) d = (refl, all_bits n d)

bits_fit : (v : Option (List Bool)) (n : ℕ) (d : DataType) → AreBits v n d → BitsFit (bits_of v n) d
bits_fit None n d h = all_bits n d
bits_fit (Some bs) n d h = nullable_bits bs d h.1

pub bits_length : (v : Option (List Bool)) (n : ℕ) (d : DataType) → AreBits v n d → length (bits_of v n) ≡ n
bits_length None n d h = length-replicate n true
bits_length (Some bs) n d h = h.0

-- ---- rows
abbrev rest_of : List ArrayData → List ArrayData
rest_of [] = []
rest_of (c ∷ cs) = record { dtype = c.dtype; items = drop 1 c.items } ∷ rest_of cs

rest_items : (cs : List ArrayData) → map items_of (rest_of cs) ≡ map (drop 1) (map items_of cs)
rest_items [] = refl
rest_items (c ∷ cs) = λ i. drop 1 c.items ∷ rest_items cs i

rest_fit : (cs : List ArrayData) → AllFitting cs → AllFitting (rest_of cs)
rest_fit [] h = tt
rest_fit (c ∷ cs) h = (fit-drop 1 c.items c.dtype h.0, rest_fit cs h.1)

rest_are : (cs : List ArrayData) (fs : Fields) → AreOf cs fs → AreOf (rest_of cs) fs
rest_are [] no_fields h = tt
rest_are [] (field n d fs) h = absurd h
rest_are (c ∷ cs) no_fields h = absurd h
rest_are (c ∷ cs) (field n d fs) h = (h.0, rest_are cs fs h.1)

rest_long : (n : ℕ) (cs : List ArrayData) → AreLong (suc n) (map items_of cs) → AreLong n (map items_of (rest_of cs))
rest_long n [] h = tt
rest_long n (c ∷ cs) h = (omega (arith, length-drop 1 c.items, h.0), rest_long n cs h.1)

head_fits : (n : ℕ) (vs ws : List Val) (d : DataType) (fs : Fields) (m : List ℕ) → length vs ≡ suc n → fits_all (marked_all (vals_of vs)) d ≡ true → fits_fields (marked_all (vals_of ws)) fs ≡ true
    → fits_fields (marked_all (vals_of (take 1 vs ++ ws))) (field m d fs) ≡ true
head_fits n [] ws d fs m l h k = absurd (omega (arith, l))
head_fits n (v ∷ vs) ws d fs m l h k = and_true (fits (marked v) d) (fits_fields (marked_all (vals_of ws)) fs) (left (fits (marked v) d) (fits_all (marked_all (vals_of vs)) d) h) k

heads_fit : (n : ℕ) (cs : List ArrayData) (fs : Fields) → AreLong (suc n) (map items_of cs) → AreOf cs fs → AllFitting cs → fits_fields (marked_all (vals_of (heads (map items_of cs)))) fs ≡ true
heads_fit n [] no_fields l h k = refl
heads_fit n [] (field m d fs) l h k = absurd h
heads_fit n (c ∷ cs) no_fields l h k = absurd h
heads_fit n (c ∷ cs) (field m d fs) l h k =
    head_fits n c.items (heads (map items_of cs)) d fs m l.0 (subst (λ (t : DataType). fits_all (marked_all (vals_of c.items)) t ≡ true) h.0 k.0) (heads_fit n cs fs l.1 h.1 k.1)

rows_fit : (bs : List Bool) (cs : List ArrayData) (rows : List (List Val)) (fs : Fields) (m : Nullability) → rows ≡ map items_of cs → BitsFit bs (struct_type fs m) → AreLong (length bs) (map items_of cs) → AreOf cs fs → AllFitting cs
    → fits_all (marked_all (vals_of (typed struct_of (rows_of (length bs) rows) bs))) (struct_type fs m) ≡ true
rows_fit [] cs rows fs m e b l h k = refl
rows_fit (true ∷ bs) cs rows fs m e b l h k =
    and_true (fits_fields (marked_all (vals_of (heads rows))) fs) (fits_all (marked_all (vals_of (typed struct_of (rows_of (length bs) (map (drop 1) rows)) bs))) (struct_type fs m))
    (subst (λ (z : List (List Val)). fits_fields (marked_all (vals_of (heads z))) fs ≡ true) (sym e) (heads_fit (length bs) cs fs l h k))
    (rows_fit bs (rest_of cs) (map (drop 1) rows) fs m (ap (map (drop 1)) e ∙ sym (rest_items cs)) b.1 (rest_long (length bs) cs l) (rest_are cs fs h) (rest_fit cs k))
rows_fit (false ∷ bs) cs rows fs m e b l h k =
    and_true (is_null_kind m) (fits_all (marked_all (vals_of (typed struct_of (rows_of (length bs) (map (drop 1) rows)) bs))) (struct_type fs m))
    b.0
    (rows_fit bs (rest_of cs) (map (drop 1) rows) fs m (ap (map (drop 1)) e ∙ sym (rest_items cs)) b.1 (rest_long (length bs) cs l) (rest_are cs fs h) (rest_fit cs k))

pub structs_fit : (v : Option (List Bool)) (n : ℕ) (cs : List ArrayData) (d : DataType) → AreBits v n d → AreLong n (map items_of cs) → AreFieldsOf cs d → AllFitting cs
    → fits_all (marked_all (vals_of (typed struct_of (rows_of (length (bits_of v n)) (map items_of cs)) (bits_of v n)))) d ≡ true
structs_fit v n cs (bool_type m) b l h k = absurd h
structs_fit v n cs (int_type p m) b l h k = absurd h
structs_fit v n cs (utf8_type m) b l h k = absurd h
structs_fit v n cs (list_type d m) b l h k = absurd h
structs_fit v n cs (struct_type fs m) b l h k =
    rows_fit (bits_of v n) cs (map items_of cs) fs m refl (bits_fit v n (struct_type fs m) b) (subst (λ (z : ℕ). AreLong z (map items_of cs)) (sym (bits_length v n (struct_type fs m) b)) l) h k

-- ---- lists
cuts_fit : (bs : List Bool) (ns : List ℕ) (es : List Val) (d e : DataType) → Some e ≡ element_of d → length es < 2 ^ 64 → fits_all (marked_all (vals_of es)) e ≡ true → BitsFit bs d
    → fits_all (marked_all (vals_of (typed list_of (cuts ns es) bs))) d ≡ true
cuts_fit bs [] es d e h l k b = refl
cuts_fit [] (n ∷ ns) es d e h l k b = refl
cuts_fit (true ∷ bs) (n ∷ ns) es d e h l k b =
    and_true (fits (marked (list_of (take n es))) d) (fits_all (marked_all (vals_of (typed list_of (cuts ns (drop n es)) bs))) d)
    (sym (fits-list (take n es) d e (omega (arith, l, length-take n es)) h) ∙ fit-take n es e k)
    (cuts_fit bs ns (drop n es) d e h (omega (arith, l, length-drop n es)) (fit-drop n es e k) b.1)
cuts_fit (false ∷ bs) (n ∷ ns) es d e h l k b =
    and_true (is_nullable d) (fits_all (marked_all (vals_of (typed list_of (cuts ns (drop n es)) bs))) d)
    b.0 (cuts_fit bs ns (drop n es) d e h (omega (arith, l, length-drop n es)) (fit-drop n es e k) b.1)

pub lists_fit : (v : Option (List Bool)) (ns : List ℕ) (es : List Val) (d e : DataType) (n : ℕ) → AreBits v n d → Some e ≡ element_of d → length es < 2 ^ 64 → fits_all (marked_all (vals_of es)) e ≡ true
    → fits_all (marked_all (vals_of (typed list_of (cuts ns es) (bits_of v n)))) d ≡ true
lists_fit v ns es d e n b h l k = cuts_fit (bits_of v n) ns es d e h l k (bits_fit v n d b)
