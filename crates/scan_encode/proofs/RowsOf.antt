-- Rows of a dtype, and what is in them.
use Rattle.std.proofs.Common.{◌≡◌, ℕ, zero, suc, ◌+◌, ◌≤◌, ◌<◌, ◌^◌, Bool, true, ◌&&◌, List, [], ◌∷◌, ◌++◌, length, map, drop, refl, sym, ap, ◌∙◌, subst, arith, get_or, length-append, append-nil}
use Rattle.std.specs.Prelude.{Option, None, Some, option_map, slice_get, pos, ltb, All}
use Rattle.std.proofs.lemmas.Bool.{and_parts, lt-ltb}
use Rattle.std.proofs.lemmas.Bool.Decides.{nat_tests}
use Rattle.std.proofs.lemmas.List.{drop_all}
use Rattle.std.proofs.lemmas.List.Elements.{All-cons, All-nil}
use Rattle.std.proofs.lemmas.List.Concat.{flat_map-cons}
use Rattle.std.proofs.lemmas.Option.{none-some, slice_get-map, slice_get_read, slice_get_past}
use Rattle.scan_values.specs.declared.ptype.Nullability.{Nullability}
use Rattle.scan_values.specs.declared.ptype.Nullability.TheVariants.{NonNullable, Nullable}
use Rattle.scan_values.specs.declared.ptype.PType.TheVariants.{U8, U16, U32, U64, I8, I16, I32, I64}
use Rattle.scan_values.specs.DataType.{DataType, Name, Fields, bool_type, int_type, utf8_type, list_type, struct_type, fields_of, nullability_of}
use Rattle.scan_values.specs.FieldLists.{dtypes_of}
use Rattle.scan_values.specs.Fits.{fits, fits_all, fits_fields, is_short}
use Rattle.scan_values.specs.Kinds.{element_of, is_scalar_type, struct_fields_of}
use Rattle.scan_values.specs.Values.{val_of}
use Rattle.std.specs.Borrow.{Bor}
use Rattle.scan_values.specs.declared.value.Value.{Value}
use Rattle.scan_values.specs.declared.value.Value.TheVariants.{List as Listed}
use Rattle.scan_encode.specs.RowsIn.{row_in}
use Rattle.scan_values.specs.Val.{Val, Vals, null_val, bool_val, int_val, text_val, list_val, struct_val, no_vals, val, vals_of, marked, marked_all}
use Rattle.scan_spelling.specs.Cuts.{sums, total}
use Rattle.scan_spelling.specs.Written.{TextFits}
use Rattle.scan_encode.specs.Parts.{AllOf, given, offsets}
use Rattle.scan_encode.specs.Rows.{Row, is_of, field_at, elements_of, all_elements, counts, validity, filler, leaf_value, parts_of, texts_fit, all_texts_fit}

-- ---- a value by its place
pub value_read : (vs : List Value) (i : ℕ) (v : Value) → i < length vs → v ≡ get_or vs i v → Some (val_of v) ≡ slice_get (map val_of vs) i
value_read vs i v h e = sym (slice_get-map val_of vs i ∙ ap (option_map val_of) (slice_get_read vs (length vs) i v refl h e))

pub value_past : (vs : List Value) (i : ℕ) → length vs ≤ i → None ≡ slice_get (map val_of vs) i
value_past vs i h = sym (slice_get-map val_of vs i ∙ ap (option_map val_of) (slice_get_past vs i h))

-- ---- the elements of a list that is lent
pub parts_again : (vs : List Val) → parts_of (vals_of vs) ≡ vs
parts_again [] = refl
parts_again (v ∷ vs) = ap (λ z. v ∷ z) (parts_again vs)

pub elements_listed : (row : Option (Bor Value)) (b : Bor Value) (vs : List Val) → row ≡ Some b → b.now ≡ Listed vs → elements_of (row_in row) ≡ map Some vs
elements_listed row b vs h q =
    ap (λ z. elements_of (row_in z)) h ∙ (ap (λ v. elements_of (Some (val_of v))) q ∙ ap (map Some) (parts_again vs))

pub all_pushed : (now before : List Row) (xs : List Value) (k : ℕ) (vs : List Val) (es : List Row) → length xs ≤ k
    → now ++ map Some (map val_of (drop k xs)) ≡ before ++ map Some (map val_of xs) → map val_of xs ≡ vs → es ≡ map Some vs → now ≡ before ++ es
all_pushed now before xs k vs es h inv m e =
    sym (append-nil now) ∙ (ap (λ z. now ++ map Some (map val_of z)) (sym (drop_all k xs h)) ∙ (inv ∙ (ap (λ z. before ++ map Some z) m ∙ ap (λ z. before ++ z) (sym e))))

-- ---- parts of the rows
pub of_append : (d : DataType) (xs ys : List Row) → AllOf d xs → AllOf d ys → AllOf d (xs ++ ys)
of_append d [] ys h k = k
of_append d (x ∷ xs) ys h k = (h.0, of_append d xs ys h.1 k)

pub of_at : (d : DataType) (rows : List Row) (i : ℕ) (v : Val) → AllOf d rows → slice_get rows i ≡ Some (Some v) → fits (marked v) d ≡ true
of_at d [] i v h e = absurd (none-some (Some v) e)
of_at d (r ∷ rows) zero v h e = let same : r ≡ Some v = cc in (and_parts (fits (marked v) d) (texts_fit v) (ap (is_of d) (sym same) ∙ h.0)).0
of_at d (r ∷ rows) (suc i) v h e = of_at d rows i v h.1 e

-- ---- a leaf's values
filler_fits : (d : DataType) → is_scalar_type d ≡ true → fits (marked (filler d)) d ≡ true
filler_fits (bool_type NonNullable) h = refl
filler_fits (bool_type Nullable) h = refl
filler_fits (int_type U8 NonNullable) h = refl
filler_fits (int_type U16 NonNullable) h = refl
filler_fits (int_type U32 NonNullable) h = refl
filler_fits (int_type U64 NonNullable) h = refl
filler_fits (int_type I8 NonNullable) h = refl
filler_fits (int_type I16 NonNullable) h = refl
filler_fits (int_type I32 NonNullable) h = refl
filler_fits (int_type I64 NonNullable) h = refl
filler_fits (int_type p Nullable) h = refl
filler_fits (utf8_type NonNullable) h = refl
filler_fits (utf8_type Nullable) h = refl
filler_fits (list_type d n) h = absurd cc
filler_fits (struct_type fs n) h = absurd cc

value_fits : (d : DataType) (r : Row) → is_scalar_type d ≡ true → is_of d r ≡ true → fits (marked (leaf_value d r)) d ≡ true
value_fits d None s h = filler_fits d s
value_fits d (Some v) s h = (and_parts (fits (marked v) d) (texts_fit v) h).0

pub values_fit : (d : DataType) (rows : List Row) → is_scalar_type d ≡ true → AllOf d rows → fits_all (marked_all (vals_of (map (leaf_value d) rows))) d ≡ true
values_fit d [] s h = refl
values_fit d (r ∷ rows) s h = rw (value_fits d r s h.0) (values_fit d rows s h.1)

pub array_fits : (d e : DataType) (vs : List Value) (rows : List Row) → e ≡ d → map val_of vs ≡ map (leaf_value d) rows → is_scalar_type d ≡ true → AllOf d rows
    → fits_all (marked_all (vals_of (map val_of vs))) e ≡ true
array_fits d e vs rows h k s f = rw (h, k) (values_fit d rows s f)

text_fits : (v : Val) → texts_fit v ≡ true → TextFits v
text_fits null_val h = tt
text_fits (bool_val b) h = tt
text_fits (int_val z) h = tt
text_fits (text_val s) h = grind (arith, nat_tests)
text_fits (list_val vs) h = tt
text_fits (struct_val vs) h = tt

filler_text : (d : DataType) → TextFits (filler d)
filler_text (bool_type NonNullable) = tt
filler_text (bool_type Nullable) = tt
filler_text (int_type p NonNullable) = tt
filler_text (int_type p Nullable) = tt
filler_text (utf8_type NonNullable) = omega arith
filler_text (utf8_type Nullable) = tt
filler_text (list_type d n) = tt
filler_text (struct_type fs n) = tt

value_text : (d : DataType) (r : Row) → is_of d r ≡ true → TextFits (leaf_value d r)
value_text d None h = filler_text d
value_text d (Some v) h = text_fits v (and_parts (fits (marked v) d) (texts_fit v) h).1

pub texts_short : (d : DataType) (rows : List Row) → AllOf d rows → All TextFits (map (leaf_value d) rows)
texts_short d [] h = All-nil TextFits
texts_short d (r ∷ rows) h = All-cons TextFits (leaf_value d r) (map (leaf_value d) rows) (value_text d r h.0) (texts_short d rows h.1)

-- ---- values that are given
both_true : (a b : Bool) → a ≡ true → b ≡ true → (a && b) ≡ true
both_true a b h k = ap (λ z. z && b) h ∙ k

pub of_given : (d : DataType) (vs : List Val) → fits_all (marked_all (vals_of vs)) d ≡ true → all_texts_fit (vals_of vs) ≡ true → AllOf d (given vs)
of_given d [] h t = tt
of_given d (v ∷ vs) h t =
    let p = and_parts (fits (marked v) d) (fits_all (marked_all (vals_of vs)) d) h in
    let q = and_parts (texts_fit v) (all_texts_fit (vals_of vs)) t in
    (both_true (fits (marked v) d) (texts_fit v) p.0 q.0, of_given d vs p.1 q.1)

pub of_validity : (rows : List Row) → AllOf (bool_type NonNullable) (given (validity rows))
of_validity [] = tt
of_validity (r ∷ rows) = (refl, of_validity rows)

number_fits : (n : ℕ) → n < 2 ^ 64 → is_of (int_type U64 NonNullable) (Some (int_val (pos n))) ≡ true
number_fits n h = both_true (ltb n (2 ^ 64)) true (lt-ltb n (2 ^ 64) h) refl

of_sums : (s : ℕ) (ns : List ℕ) → s + total ns < 2 ^ 64 → AllOf (int_type U64 NonNullable) (given (map (λ n. int_val (pos n)) (sums s ns)))
of_sums s [] h = tt
of_sums s (n ∷ ns) h = (number_fits (s + n) (omega (arith, h)), of_sums (s + n) ns (omega (arith, h)))

pub all_more : (r : Row) (rows : List Row) → all_elements (r ∷ rows) ≡ elements_of r ++ all_elements rows
all_more r rows = flat_map-cons elements_of r rows

pub total_is : (rows : List Row) → total (counts rows) ≡ length (all_elements rows)
total_is [] = refl
total_is (r ∷ rows) = let e = ap length (all_more r rows) in omega (arith, e, length-append (elements_of r) (all_elements rows), total_is rows)

pub of_offsets : (rows : List Row) → length (all_elements rows) < 2 ^ 64 → AllOf (int_type U64 NonNullable) (given (offsets rows))
of_offsets rows h = (number_fits 0 (omega (arith, h)), of_sums 0 (counts rows) (omega (arith, h, total_is rows)))

-- ---- what is in lists and structs
parts_fit : (d : DataType) (vs : Vals) → fits_all (marked_all vs) d ≡ true → all_texts_fit vs ≡ true → AllOf d (elements_of (Some (list_val vs)))
parts_fit d no_vals h t = tt
parts_fit d (val v vs) h t =
    let p = and_parts (fits (marked v) d) (fits_all (marked_all vs) d) h in
    let q = and_parts (texts_fit v) (all_texts_fit vs) t in
    (both_true (fits (marked v) d) (texts_fit v) p.0 q.0, parts_fit d vs p.1 q.1)

elements_fit : (d : DataType) (n : Nullability) (r : Row) → is_of (list_type d n) r ≡ true → AllOf d (elements_of r)
elements_fit d n None h = tt
elements_fit d n (Some null_val) h = tt
elements_fit d n (Some (bool_val b)) h = tt
elements_fit d n (Some (int_val z)) h = tt
elements_fit d n (Some (text_val s)) h = tt
elements_fit d n (Some (list_val vs)) h =
    let p = and_parts (is_short (marked_all vs) && fits_all (marked_all vs) d) (all_texts_fit vs) h in
    parts_fit d vs (and_parts (is_short (marked_all vs)) (fits_all (marked_all vs) d) p.0).1 p.1
elements_fit d n (Some (struct_val vs)) h = tt

of_all : (d : DataType) (n : Nullability) (rows : List Row) → AllOf (list_type d n) rows → AllOf d (all_elements rows)
of_all d n [] h = tt
of_all d n (r ∷ rows) h = subst (AllOf d) (sym (all_more r rows)) (of_append d (elements_of r) (all_elements rows) (elements_fit d n r h.0) (of_all d n rows h.1))

pub of_elements : (d e : DataType) (rows : List Row) → Some e ≡ element_of d → AllOf d rows → AllOf e (all_elements rows)
of_elements (bool_type n) e rows is h = absurd cc
of_elements (int_type p n) e rows is h = absurd cc
of_elements (utf8_type n) e rows is h = absurd cc
of_elements (list_type d n) e rows is h = let s : d ≡ e = cc in subst (λ z. AllOf z (all_elements rows)) s (of_all d n rows h)
of_elements (struct_type fs n) e rows is h = absurd cc

part_fits : (vs : Vals) (xs : List (Name × DataType)) (k : ℕ) (t : DataType) (v : Val) → fits_fields (marked_all vs) (fields_of xs) ≡ true → all_texts_fit vs ≡ true
    → Some t ≡ slice_get (dtypes_of xs) k → slice_get (parts_of vs) k ≡ Some v → is_of t (Some v) ≡ true
part_fits no_vals xs k t v h s et ev = absurd (none-some v ev)
part_fits (val w vs) [] k t v h s et ev = absurd (none-some t (sym et))
part_fits (val w vs) (x ∷ xs) zero t v h s et ev =
    let p = and_parts (fits (marked w) x.1) (fits_fields (marked_all vs) (fields_of xs)) h in
    let q = and_parts (texts_fit w) (all_texts_fit vs) s in
    let a : w ≡ v = cc in
    let b : x.1 ≡ t = cc in
    ap (λ z. is_of t (Some z)) (sym a) ∙ (ap (λ z. is_of z (Some w)) (sym b) ∙ both_true (fits (marked w) x.1) (texts_fit w) p.0 q.0)
part_fits (val w vs) (x ∷ xs) (suc k) t v h s et ev =
    part_fits vs xs k t v (and_parts (fits (marked w) x.1) (fits_fields (marked_all vs) (fields_of xs)) h).1 (and_parts (texts_fit w) (all_texts_fit vs) s).1 et ev

some_fits : (t : DataType) (o : Row) → ((v : Val) → o ≡ Some v → is_of t (Some v) ≡ true) → is_of t o ≡ true
some_fits t None h = refl
some_fits t (Some v) h = h v refl

field_fits : (xs : List (Name × DataType)) (n : Nullability) (k : ℕ) (t : DataType) (r : Row) → Some t ≡ slice_get (dtypes_of xs) k
    → is_of (struct_type (fields_of xs) n) r ≡ true → is_of t (field_at k r) ≡ true
field_fits xs n k t None e h = refl
field_fits xs n k t (Some null_val) e h = refl
field_fits xs n k t (Some (bool_val b)) e h = refl
field_fits xs n k t (Some (int_val z)) e h = refl
field_fits xs n k t (Some (text_val s)) e h = refl
field_fits xs n k t (Some (list_val vs)) e h = refl
field_fits xs n k t (Some (struct_val vs)) e h =
    let p = and_parts (fits_fields (marked_all vs) (fields_of xs)) (all_texts_fit vs) h in
    some_fits t (slice_get (parts_of vs) k) (λ v q. part_fits vs xs k t v p.0 p.1 e q)

of_field : (xs : List (Name × DataType)) (n : Nullability) (k : ℕ) (t : DataType) (rows : List Row) → Some t ≡ slice_get (dtypes_of xs) k
    → AllOf (struct_type (fields_of xs) n) rows → AllOf t (map (field_at k) rows)
of_field xs n k t [] e h = tt
of_field xs n k t (r ∷ rows) e h = (field_fits xs n k t r e h.0, of_field xs n k t rows e h.1)

-- a dtype with fields is a struct of them
pub struct_of : (d : DataType) (fs : Fields) → Some fs ≡ struct_fields_of d → d ≡ struct_type fs (nullability_of d)
struct_of (bool_type n) fs is = absurd cc
struct_of (int_type p n) fs is = absurd cc
struct_of (utf8_type n) fs is = absurd cc
struct_of (list_type d n) fs is = absurd cc
struct_of (struct_type gs n) fs is = let e : gs ≡ fs = cc in ap (λ z. struct_type z n) e

-- one with elements is a list of them
pub list_of : (d e : DataType) → Some e ≡ element_of d → d ≡ list_type e (nullability_of d)
list_of (bool_type n) e is = absurd cc
list_of (int_type p n) e is = absurd cc
list_of (utf8_type n) e is = absurd cc
list_of (list_type d n) e is = let s : d ≡ e = cc in ap (λ z. list_type z n) s
list_of (struct_type fs n) e is = absurd cc

pub of_fields : (d : DataType) (xs : List (Name × DataType)) (k : ℕ) (t : DataType) (rows : List Row) → Some (fields_of xs) ≡ struct_fields_of d
    → Some t ≡ slice_get (dtypes_of xs) k → AllOf d rows → AllOf t (map (field_at k) rows)
of_fields d xs k t rows is e h =
    of_field xs (nullability_of d) k t rows e (subst (λ z. AllOf z rows) (struct_of d (fields_of xs) is) h)

-- one with neither is a scalar
pub scalar_of : (d : DataType) → struct_fields_of d ≡ None → element_of d ≡ None → is_scalar_type d ≡ true
scalar_of (bool_type n) s e = refl
scalar_of (int_type p n) s e = refl
scalar_of (utf8_type n) s e = refl
scalar_of (list_type d n) s e = absurd cc
scalar_of (struct_type fs n) s e = absurd cc
