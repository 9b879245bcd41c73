-- Rows that a file does not have.
use Rattle.std.proofs.Common.{◌≡◌, ℕ, zero, suc, ◌+◌, ◌-◌, ◌<◌, List, [], ◌∷◌, length, replicate, arith, refl, sym, subst, ap, ◌∙◌, Bool, true, false, Option, Some, None, All, ◌==◌, if◌then◌else◌}
use Rattle.std.specs.Prelude.{nat_lt, slice_get, slice_index_or, option_and_then}
use Rattle.std.specs.List.{AllByRecursion}
use Rattle.std.proofs.Math.ListN.{length-replicate}
use Rattle.std.proofs.lemmas.Bool.{lt-ltb}
use Rattle.std.proofs.lemmas.List.Elements.{All-from_recursion}
use Rattle.scan_values.specs.declared.ptype.Nullability.TheVariants.{NonNullable, Nullable}
use Rattle.scan_values.specs.DataType.{DataType, bool_type, int_type, utf8_type, list_type, struct_type, is_nullable, nullability_of}
use Rattle.scan_values.specs.Kinds.{is_scalar_type, kind_of}
use Rattle.scan_values.specs.Fits.{fits, fits_all}
use Rattle.scan_values.specs.Marked.{Marked, null, boolean}
use Rattle.scan_values.specs.Val.{Val, null_val, bool_val, marked, marked_all, vals_of}
use Rattle.scan_segments.specs.Source.{Store}
use Rattle.scan_spelling.specs.declared.spelling.Spelling.TheVariants.{One}
use Rattle.scan_spelling.specs.Spelling.{decode}
use Rattle.scan_spelling.specs.Written.{spelled, HasSlot, IsText, TextFits}
use Rattle.scan_layout.specs.RowValue.{row_value, item_of}
use Rattle.scan_spelling.proofs.Encoding.{again}
use Rattle.scan_widen.specs.declared.behind.Behind.{Behind}
use Rattle.scan_widen.specs.declared.behind.Behind.TheVariants.{Blank, Valid}
use Rattle.scan_widen.specs.Blanks.{blank_val, flags, only_rows, one_leaf}
use Rattle.scan_widen.specs.Stores.{bytes_behind}
use Rattle.scan_widen.specs.Rows.{StandAt, Shows}
use Rattle.scan_widen.proofs.Again.{TextSmall, spelled_small}

-- a value that may fill a leaf
pub record Fills (t : DataType) (v : Val) : Type 0 where
  pub scalar : is_scalar_type t ≡ true
  pub slot : HasSlot (kind_of t) v
  pub small : TextSmall v
  pub fits : fits (marked v) t ≡ true
  pub short : TextFits v
  pub text : IsText v

each : (P : Val → Type 0) (v : Val) (n : ℕ) → P v → AllByRecursion P (replicate n v)
each P v zero h = tt
each P v (suc n) h = (h, each P v n h)

all_fit : (t : DataType) (v : Val) (n : ℕ) → fits (marked v) t ≡ true → fits_all (marked_all (vals_of (replicate n v))) t ≡ true
all_fit t v zero h = refl
all_fit t v (suc n) h = rw h (all_fit t v n h)

at_each : (v : Val) (n i : ℕ) → i < n → slice_index_or (replicate n v) i null_val ≡ v
at_each v zero i h = absurd (omega (arith, h))
at_each v (suc n) zero h = refl
at_each v (suc n) (suc i) h = at_each v n i (omega (arith, h))

pub filled : (t : DataType) (v : Val) (n : ℕ) → Fills t v → decode One t n (spelled One t (replicate n v)) ≡ Some (replicate n v)
filled t v n f =
    let small = spelled_small (nullability_of t) (kind_of t) (replicate n v) (each (HasSlot (kind_of t)) v n f.slot) (each TextSmall v n f.small) in
    let read = again One t (replicate n v) (spelled One t (replicate n v)) f.scalar (all_fit t v n f.fits)
    (All-from_recursion TextFits (replicate n v) (each TextFits v n f.short)) (All-from_recursion IsText (replicate n v) (each IsText v n f.text)) small refl in
    subst (λ m. decode One t m (spelled One t (replicate n v)) ≡ Some (replicate n v)) (length-replicate n v) read

-- a row of a leaf that is filled with one value
pub filled_row : (t : DataType) (v : Val) (k rows i : ℕ) (u : Store) → Fills t v → i < rows → u k ≡ Some (spelled One t (replicate rows v)) → row_value (one_leaf k t rows) u i ≡ marked v
filled_row t v k zero i u f h e = absurd (omega (arith, h))
filled_row t v k (suc n) i u f h e =
    rw (lt-ltb i (suc n) h, e, filled t v (suc n) f) (ap marked (at_each v (suc n) i h))

flags_fill : (b : Bool) → Fills flags (bool_val b)
flags_fill b = record { scalar = refl; slot = tt; small = tt; fits = refl; short = tt; text = tt }

null_fills : (t : DataType) → is_scalar_type t ≡ true → is_nullable t ≡ true → Fills t null_val
null_fills (bool_type n) s e = record { scalar = refl; slot = tt; small = tt; fits = e; short = tt; text = tt }
null_fills (int_type p n) s e = record { scalar = refl; slot = tt; small = tt; fits = e; short = tt; text = tt }
null_fills (utf8_type n) s e = record { scalar = refl; slot = tt; small = tt; fits = e; short = tt; text = tt }
null_fills (list_type d n) s e = absurd cc
null_fills (struct_type fs n) s e = absurd cc

ones : (n : ℕ) → replicate n 1 ≡ spelled One flags (replicate n (bool_val true))
ones zero = refl
ones (suc n) = ap (λ bs. 1 ∷ bs) (ones n)

-- what stands behind the one segment of rows that are there
first_stands : (all : List Behind) (k rows i : ℕ) (b : Behind) → i < rows → StandAt all k (only_rows rows b) → slice_get all k ≡ Some b
first_stands all k zero i b h stand = absurd (omega (arith, h))
first_stands all k (suc n) i b h stand = stand.0

pub valid_row : (all : List Behind) (s u : Store) (k rows i : ℕ) → Shows u all s → i < rows → StandAt all k (only_rows rows (Valid rows)) → row_value (one_leaf k flags rows) u i ≡ boolean true
valid_row all s u k rows i h within stand =
    filled_row flags (bool_val true) k rows i u (flags_fill true) within (h k (Valid rows) (first_stands all k rows i (Valid rows) within stand) ∙ ap Some (ones rows))

pub false_row : (all : List Behind) (s u : Store) (k rows i : ℕ) → Shows u all s → i < rows → StandAt all k (only_rows rows (Blank flags rows)) → row_value (one_leaf k flags rows) u i ≡ boolean false
false_row all s u k rows i h within stand =
    filled_row flags (bool_val false) k rows i u (flags_fill false) within (h k (Blank flags rows) (first_stands all k rows i (Blank flags rows) within stand))

blank_null : (t : DataType) → is_scalar_type t ≡ true → is_nullable t ≡ true → blank_val t ≡ null_val
blank_null (bool_type Nullable) s e = refl
blank_null (int_type p Nullable) s e = refl
blank_null (utf8_type Nullable) s e = refl
blank_null (bool_type NonNullable) s e = absurd cc
blank_null (int_type p NonNullable) s e = absurd cc
blank_null (utf8_type NonNullable) s e = absurd cc
blank_null (list_type d n) s e = absurd cc
blank_null (struct_type fs n) s e = absurd cc

pub null_row : (t : DataType) (all : List Behind) (s u : Store) (k rows i : ℕ) → is_scalar_type t ≡ true → is_nullable t ≡ true → Shows u all s → i < rows → StandAt all k (only_rows rows (Blank t rows)) → row_value (one_leaf k t rows) u i ≡ null
null_row t all s u k rows i scalar nullable h within stand =
    filled_row t null_val k rows i u (null_fills t scalar nullable) within
    (h k (Blank t rows) (first_stands all k rows i (Blank t rows) within stand) ∙ ap (λ v. Some (spelled One t (replicate rows v))) (blank_null t scalar nullable))
