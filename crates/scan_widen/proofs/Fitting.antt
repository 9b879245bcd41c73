-- Which dtype fits another, by their kinds and by the places of fields.
use Rattle.std.proofs.Common.{◌≡◌, ℕ, zero, suc, ◌+◌, ◌<◌, ◌≤◌, List, [], ◌∷◌, length, drop, get_or, refl, sym, subst, ap, ◌∙◌, Bool, true, false, ◌&&◌, Option, Some, None, arith, add-one}
use Rattle.std.specs.Prelude.{slice_get, option_map}
use Rattle.scan_values.specs.declared.ptype.PType.{PType}
use Rattle.scan_values.specs.declared.ptype.Nullability.{Nullability}
use Rattle.scan_values.specs.declared.ptype.Nullability.TheVariants.{NonNullable, Nullable}
use Rattle.scan_values.specs.declared.dtype.DTypeKind.{DTypeKind}
use Rattle.scan_values.specs.DataType.{DataType, Name, Fields, bool_type, int_type, utf8_type, list_type, struct_type, no_fields, field, fields_of, nullability_of, is_nullable, size_of, fields_size}
use Rattle.scan_values.specs.FieldLists.{names_of, dtypes_of, dtype_named}
use Rattle.std.specs.Option.{is_none}
use Rattle.scan_values.specs.NameFaults.{names_fault, field_names}
use Rattle.scan_values.specs.declared.text.NameFault.{NameFault}
use Rattle.scan_values.specs.Kinds.{kind_of, element_of, struct_fields_of}
use Rattle.scan_widen.specs.FitsUnder.{null_fits, holds_all, are_lawful, passes_or, kinds_fit, fits_under, elements_fit, structs_fit, fields_fit}

both : (a b : Bool) → (a && b) ≡ true → (a ≡ true) × (b ≡ true)
both true b e = (refl, e)
both false b e = absurd cc

-- where null does not fit, or the kind does not, nothing does
pub no_null : (s t : DataType) → null_fits (nullability_of s) (nullability_of t) ≡ false → fits_under s t ≡ false
no_null (bool_type n) (bool_type m) e = e
no_null (int_type p n) (int_type q m) e = rw e refl
no_null (utf8_type n) (utf8_type m) e = e
no_null (list_type d n) (list_type e' m) e = rw e refl
no_null (struct_type fs n) (struct_type gs m) e = rw e refl
no_null s t e = refl

not_both : (b : Bool) → (b && false) ≡ false
not_both true = refl
not_both false = refl

pub no_kind : (s t : DataType) → kinds_fit (kind_of s) (kind_of t) ≡ false → fits_under s t ≡ false
no_kind (bool_type n) (bool_type m) e = absurd cc
no_kind (int_type p n) (int_type q m) e = rw e (not_both (null_fits n m))
no_kind (utf8_type n) (utf8_type m) e = absurd cc
no_kind (list_type d n) (list_type e' m) e = absurd cc
no_kind (struct_type fs n) (struct_type gs m) e = absurd cc
no_kind s t e = refl

-- where both do
pub bools_fit : (s t : DataType) → null_fits (nullability_of s) (nullability_of t) ≡ true → kinds_fit (kind_of s) (kind_of t) ≡ true → kind_of t ≡ DTypeKind.Bool → true ≡ fits_under s t
bools_fit (bool_type n) (bool_type m) e k h = sym e
bools_fit s t e k h = absurd cc

pub ints_fit : (s t : DataType) (q : PType) → null_fits (nullability_of s) (nullability_of t) ≡ true → kinds_fit (kind_of s) (kind_of t) ≡ true → kind_of t ≡ DTypeKind.Primitive q → true ≡ fits_under s t
ints_fit (int_type p n) (int_type q' m) q e k h = rw (e, k) refl
ints_fit s t q e k h = absurd cc

pub texts_fit : (s t : DataType) → null_fits (nullability_of s) (nullability_of t) ≡ true → kinds_fit (kind_of s) (kind_of t) ≡ true → kind_of t ≡ DTypeKind.Utf8 → true ≡ fits_under s t
texts_fit (utf8_type n) (utf8_type m) e k h = sym e
texts_fit s t e k h = absurd cc

pub lists_fit : (s t : DataType) → null_fits (nullability_of s) (nullability_of t) ≡ true → kinds_fit (kind_of s) (kind_of t) ≡ true → kind_of t ≡ DTypeKind.List → elements_fit (element_of s) (element_of t) ≡ fits_under s t
lists_fit (list_type d n) (list_type e' m) e k h = rw e refl
lists_fit s t e k h = absurd cc

pub records_fit : (s t : DataType) → null_fits (nullability_of s) (nullability_of t) ≡ true → kinds_fit (kind_of s) (kind_of t) ≡ true → kind_of t ≡ DTypeKind.Struct → structs_fit (struct_fields_of s) (struct_fields_of t) ≡ fits_under s t
records_fit (struct_type fs n) (struct_type gs m) e k h = rw e refl
records_fit s t e k h = absurd cc

-- parts are smaller
pub element_smaller : (t e : DataType) → Some e ≡ element_of t → size_of e < size_of t
element_smaller (list_type d n) e h = let same : e ≡ d = cc in let is : size_of e ≡ size_of d = ap size_of same in omega (arith, is)
element_smaller t e h = absurd cc

pub fields_smaller : (t : DataType) (fs : Fields) → Some fs ≡ struct_fields_of t → fields_size fs < size_of t
fields_smaller (struct_type gs n) fs h = let same : fs ≡ gs = cc in let is : fields_size fs ≡ fields_size gs = ap fields_size same in omega (arith, is)
fields_smaller t fs h = absurd cc

pub field_smaller : (xs : List (Name × DataType)) (i : ℕ) (t : DataType) → Some t ≡ slice_get (dtypes_of xs) i → size_of t < fields_size (fields_of xs)
field_smaller [] zero t h = absurd cc
field_smaller [] (suc i) t h = absurd cc
field_smaller (x ∷ xs) zero t h = let same : t ≡ x.1 = cc in let is : size_of t ≡ size_of x.1 = ap size_of same in omega (arith, is)
field_smaller (x ∷ xs) (suc i) t h = omega (arith, field_smaller xs i t h)

-- the fields from one on are it and those after it
place_at : (xs : List (Name × DataType)) (i : ℕ) (n : Name) (t : DataType) → i < length (names_of xs) → n ≡ get_or (names_of xs) i n → Some t ≡ slice_get (dtypes_of xs) i → fields_of (drop i xs) ≡ field n t (fields_of (drop (i + 1) xs))
place_at [] i n t h e g = absurd (omega arith)
place_at (x ∷ xs) zero n t h e g = let same : t ≡ x.1 = cc in rw (e, same) refl
place_at (x ∷ xs) (suc i) n t h e g = let h' : i < length (names_of xs) = omega arith in rw add-one (rw add-one at (place_at xs i n t h' e g))

place_past : (xs : List (Name × DataType)) (i : ℕ) → length (names_of xs) ≤ i → fields_of (drop i xs) ≡ no_fields
place_past [] zero h = refl
place_past [] (suc i) h = refl
place_past (x ∷ xs) zero h = absurd (omega arith)
place_past (x ∷ xs) (suc i) h = place_past xs i (omega arith)

pub fields_short : (xs : List (Name × DataType)) (i : ℕ) → None ≡ slice_get (dtypes_of xs) i → fields_of (drop i xs) ≡ no_fields
fields_short [] zero h = refl
fields_short [] (suc i) h = refl
fields_short (x ∷ xs) zero h = absurd cc
fields_short (x ∷ xs) (suc i) h = fields_short xs i h

-- the same by their names
module _ (xs : List (Name × DataType)) (ns : List Name) (i : ℕ) where
  pub fields_at : (n : Name) (t : DataType) → ns ≡ names_of xs → i < length ns → n ≡ get_or ns i n → Some t ≡ slice_get (dtypes_of xs) i → fields_of (drop i xs) ≡ field n t (fields_of (drop (i + 1) xs))
  fields_at n t s h e g = place_at xs i n t (subst (λ m. i < length m) s h) (subst (λ m. n ≡ get_or m i n) s e) g

  pub fields_past : ns ≡ names_of xs → length ns ≤ i → fields_of (drop i xs) ≡ no_fields
  fields_past s h = place_past xs i (subst (λ m. length m ≤ i) s h)

-- ---- wanted fields, one after another
pub fits_at : (fs : Fields) (xs : List (Name × DataType)) (ns : List Name) (i : ℕ) (n : Name) (t : DataType) → ns ≡ names_of xs → i < length ns → n ≡ get_or ns i n → Some t ≡ slice_get (dtypes_of xs) i
    → fields_fit fs (fields_of (drop i xs)) ≡ (passes_or (is_nullable t) (λ d. fits_under d t) (dtype_named n fs) && fields_fit fs (fields_of (drop (i + 1) xs)))
fits_at fs xs ns i n t s h e g = ap (fields_fit fs) (fields_at xs ns i n t s h e g)

pub fits_past : (fs : Fields) (xs : List (Name × DataType)) (ns : List Name) (i : ℕ) → ns ≡ names_of xs → length ns ≤ i → fields_fit fs (fields_of (drop i xs)) ≡ true
fits_past fs xs ns i s h = ap (fields_fit fs) (fields_past xs ns i s h)

pub fits_short : (fs : Fields) (xs : List (Name × DataType)) (i : ℕ) → None ≡ slice_get (dtypes_of xs) i → fields_fit fs (fields_of (drop i xs)) ≡ true
fits_short fs xs i h = ap (fields_fit fs) (fields_short xs i h)

-- where all fit, so does each
fit_from : (fs : Fields) (xs : List (Name × DataType)) (i : ℕ) → fields_fit fs (fields_of xs) ≡ true → fields_fit fs (fields_of (drop i xs)) ≡ true
fit_from fs [] zero h = refl
fit_from fs [] (suc i) h = refl
fit_from fs (x ∷ xs) zero h = h
fit_from fs (x ∷ xs) (suc i) h = fit_from fs xs i (both (passes_or (is_nullable x.1) (λ d. fits_under d x.1) (dtype_named x.0 fs)) (fields_fit fs (fields_of xs)) h).1

pub pass_at : (fs : Fields) (xs : List (Name × DataType)) (ns : List Name) (i : ℕ) (n : Name) (t : DataType) → ns ≡ names_of xs → i < length ns → n ≡ get_or ns i n → Some t ≡ slice_get (dtypes_of xs) i
    → fields_fit fs (fields_of xs) ≡ true → passes_or (is_nullable t) (λ d. fits_under d t) (dtype_named n fs) ≡ true
pass_at fs xs ns i n t s h e g all = (both _ (fields_fit fs (fields_of (drop (i + 1) xs))) (sym (fits_at fs xs ns i n t s h e g) ∙ fit_from fs xs i all)).0

-- ---- names
names_are : (xs : List (Name × DataType)) → field_names (fields_of xs) ≡ names_of xs
names_are [] = refl
names_are (x ∷ xs) = ap (λ ms. x.0 ∷ ms) (names_are xs)

pub lawful_names : (xs : List (Name × DataType)) (ns : List Name) (o : Option NameFault) → ns ≡ names_of xs → o ≡ names_fault [] ns → are_lawful (fields_of xs) ≡ is_none o
lawful_names xs ns o s e = ap (λ ms. is_none (names_fault [] ms)) (names_are xs ∙ sym s) ∙ sym (ap is_none e)
