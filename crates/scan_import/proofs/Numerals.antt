-- Numerals by a test, and numbers of a dtype that fit an i128.
use Rattle.std.proofs.Common.{◌≡◌, ℕ, ◌<◌, ◌^◌, List, [], ◌∷◌, None, Some, true, false, Bool, ℤ, pos, negsuc, refl, sym, ap, ◌∙◌, arith}
use Rattle.std.proofs.lemmas.Bool.Decides.{nat_tests}
use Rattle.std.specs.Prelude.{ltb, ◌&&◌, cond, option_and_then}
use Rattle.std.specs.Char.{digit_value}
use Rattle.std.specs.List.{list_all}
use Rattle.std.specs.Str.Parse.{AllDigits, IsNumeral, without_leading_sign, signed_digits_value}
use Rattle.std.specs.Int.RustNames.{FitsSigned, unsigned_abs}
use Rattle.std.proofs.lemmas.Int.{fits_signed_from_abs}
use mir.Syntax.{w128}
use Rattle.scan_values.specs.Ranges.{in_range}
use Rattle.scan_values.specs.Val.{int_val}
use Rattle.scan_values.specs.declared.ptype.PType.{PType}
use Rattle.scan_values.specs.declared.ptype.PType.TheVariants.{U8, U16, U32, U64, I8, I16, I32, I64}
use Rattle.scan_values.specs.DataType.{DataType, bool_type, int_type, utf8_type, list_type, struct_type}
use Rattle.scan_values.specs.Fits.{fits_int}
use Rattle.scan_import.specs.Cells.{is_numeral, number_in}
use Rattle.scan_import.specs.Meaning.{int_in}

digits_test : (bs : List ℕ) → AllDigits 10 bs → list_all (λ c. ltb (digit_value c) 10) bs ≡ true
digits_test [] h = refl
digits_test (c ∷ cs) h = let first : ltb (digit_value c) 10 ≡ true = grind (arith, nat_tests, h.0) in rw first (digits_test cs h.1)

both : (a b : Bool) → (a && b) ≡ true → (a ≡ true) × (b ≡ true)
both true b h = (refl, h)
both false b h = absurd cc

digits_of : (bs : List ℕ) → list_all (λ c. ltb (digit_value c) 10) bs ≡ true → AllDigits 10 bs
digits_of [] h = tt
digits_of (c ∷ cs) h =
    let p = both (ltb (digit_value c) 10) (list_all (λ b. ltb (digit_value b) 10) cs) h in
    let below : digit_value c < 10 = grind (arith, nat_tests, p.0) in
    (below, digits_of cs p.1)

pub numeral_test : (bs : List ℕ) → IsNumeral 10 bs → is_numeral bs ≡ true
numeral_test [] h = absurd (omega (arith, h.0))
numeral_test (c ∷ cs) h = digits_test (c ∷ cs) h.1

numeral_of : (bs : List ℕ) → is_numeral bs ≡ true → IsNumeral 10 bs
numeral_of [] h = cc
numeral_of (c ∷ cs) h = (omega arith, digits_of (c ∷ cs) h)

is_below : (n m : ℕ) → ltb n m ≡ true → n < m
is_below n m h = grind (arith, nat_tests, h)

range_below : (p : PType) (z : ℤ) → in_range p z ≡ true → unsigned_abs z < 2 ^ 65
range_below U8 (pos n) h = omega (arith, is_below n (2 ^ 8) h)
range_below U8 (negsuc n) h = cc
range_below U16 (pos n) h = omega (arith, is_below n (2 ^ 16) h)
range_below U16 (negsuc n) h = cc
range_below U32 (pos n) h = omega (arith, is_below n (2 ^ 32) h)
range_below U32 (negsuc n) h = cc
range_below U64 (pos n) h = omega (arith, is_below n (2 ^ 64) h)
range_below U64 (negsuc n) h = cc
range_below I8 (pos n) h = omega (arith, is_below n (2 ^ 7) h)
range_below I8 (negsuc n) h = omega (arith, is_below n (2 ^ 7) h)
range_below I16 (pos n) h = omega (arith, is_below n (2 ^ 15) h)
range_below I16 (negsuc n) h = omega (arith, is_below n (2 ^ 15) h)
range_below I32 (pos n) h = omega (arith, is_below n (2 ^ 31) h)
range_below I32 (negsuc n) h = omega (arith, is_below n (2 ^ 31) h)
range_below I64 (pos n) h = omega (arith, is_below n (2 ^ 63) h)
range_below I64 (negsuc n) h = omega (arith, is_below n (2 ^ 63) h)

-- a number of a dtype is one of an i128
fits_wide : (d : DataType) (z : ℤ) → fits_int d z ≡ true → FitsSigned w128 z
fits_wide (bool_type n) z h = cc
fits_wide (int_type p n) z h = let below : unsigned_abs z < 2 ^ 127 = omega (arith, range_below p z h) in fits_signed_from_abs w128 z below
fits_wide (utf8_type n) z h = cc
fits_wide (list_type d n) z h = cc
fits_wide (struct_type fs n) z h = cc

-- what is no number of an i128 means none of a dtype
pub number_none : (d : DataType) (bs : List ℕ) → ¬ (IsNumeral 10 (without_leading_sign bs) × FitsSigned w128 (signed_digits_value 10 bs)) → None ≡ option_and_then (int_in d) (number_in bs)
number_none d bs h = numeral (is_numeral (without_leading_sign bs)) refl
  where
    held : (b : Bool) → is_numeral (without_leading_sign bs) ≡ true → fits_int d (signed_digits_value 10 bs) ≡ b → None ≡ cond b (Some (int_val (signed_digits_value 10 bs))) None
    held true e g = absurd (h (numeral_of (without_leading_sign bs) e, fits_wide d (signed_digits_value 10 bs) g))
    held false e g = refl

    numeral : (b : Bool) → is_numeral (without_leading_sign bs) ≡ b → None ≡ option_and_then (int_in d) (cond b (Some (signed_digits_value 10 bs)) None)
    numeral true e = held (fits_int d (signed_digits_value 10 bs)) e refl
    numeral false e = refl

-- a number of an i128 is what its digits write
pub number_some : (bs : List ℕ) (z : ℤ) → IsNumeral 10 (without_leading_sign bs) → z ≡ signed_digits_value 10 bs → number_in bs ≡ Some z
number_some bs z n e = ap (λ b. cond b (Some (signed_digits_value 10 bs)) None) (numeral_test (without_leading_sign bs) n) ∙ ap Some (sym e)
