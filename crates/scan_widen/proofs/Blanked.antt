-- The bytes of blank rows.
use Rattle.std.proofs.Common.{◌≡◌, ℕ, zero, suc, ◌+◌, ◌*◌, List, [], ◌∷◌, ◌++◌, length, replicate, refl, sym, subst, ap, ◌∙◌, Bool, true, false, arith, append_assoc}
use Rattle.scan_values.specs.declared.ptype.PType.{PType}
use Rattle.scan_values.specs.declared.ptype.PType.TheVariants.{U8, U16, U32, U64, I8, I16, I32, I64}
use Rattle.scan_values.specs.declared.ptype.Nullability.{Nullability}
use Rattle.scan_values.specs.declared.ptype.Nullability.TheVariants.{NonNullable, Nullable}
use Rattle.scan_values.specs.declared.dtype.DTypeKind.{DTypeKind}
use Rattle.scan_values.specs.DataType.{DataType, bool_type, int_type, utf8_type, list_type, struct_type, nullability_of}
use Rattle.scan_values.specs.Kinds.{kind_of}
use Rattle.scan_values.specs.Val.{Val, null_val}
use Rattle.scan_spelling.specs.declared.spelling.Spelling.TheVariants.{One}
use Rattle.scan_spelling.specs.Written.{spelled, slots, flags, slot_bytes, spelling_under}
use Rattle.scan_widen.specs.Blanks.{blank_val, slot_size, row_size}

joined : (a b x : ℕ) → replicate a x ++ replicate b x ≡ replicate (a + b) x
joined zero b x = ap (λ n. replicate n x) (let e : b ≡ 0 + b = omega arith in e)
joined (suc a) b x = ap (λ xs. x ∷ xs) (joined a b x) ∙ ap (λ n. replicate n x) (let e : suc (a + b) ≡ suc a + b = omega arith in e)

-- the slot of a blank row is zeros
zeros : (t : DataType) → slot_bytes (kind_of t) (blank_val t) ≡ replicate (slot_size (kind_of t)) 0
zeros (bool_type NonNullable) = refl
zeros (bool_type Nullable) = refl
zeros (utf8_type NonNullable) = refl
zeros (utf8_type Nullable) = refl
zeros (int_type p Nullable) = refl
zeros (int_type U8 NonNullable) = refl
zeros (int_type U16 NonNullable) = refl
zeros (int_type U32 NonNullable) = refl
zeros (int_type U64 NonNullable) = refl
zeros (int_type I8 NonNullable) = refl
zeros (int_type I16 NonNullable) = refl
zeros (int_type I32 NonNullable) = refl
zeros (int_type I64 NonNullable) = refl
zeros (list_type d n) = refl
zeros (struct_type fs n) = refl

zero_slots : (kind : DTypeKind) (v : Val) (size n : ℕ) → slot_bytes kind v ≡ replicate size 0 → slots kind (replicate n v) ≡ replicate (n * size) 0
zero_slots kind v size zero h = ap (λ m. replicate m 0) (let e : 0 ≡ 0 * size = omega arith in e)
zero_slots kind v size (suc n) h =
    (λ i. h i ++ zero_slots kind v size n h i) ∙ joined size (n * size) 0 ∙ ap (λ m. replicate m 0) (let e : size + n * size ≡ suc n * size = omega arith in e)

zero_flags : (n : ℕ) → flags (replicate n null_val) ≡ replicate n 0
zero_flags zero = refl
zero_flags (suc n) = ap (λ bs. 0 ∷ bs) (zero_flags n)

-- what may be null is null
blank_null : (t : DataType) → nullability_of t ≡ Nullable → blank_val t ≡ null_val
blank_null (bool_type Nullable) e = refl
blank_null (int_type p Nullable) e = refl
blank_null (utf8_type Nullable) e = refl
blank_null (bool_type NonNullable) e = absurd cc
blank_null (int_type p NonNullable) e = absurd cc
blank_null (utf8_type NonNullable) e = absurd cc
blank_null (list_type d n) e = refl
blank_null (struct_type fs n) e = refl

by_null : (t : DataType) (rows : ℕ) (n : Nullability) → nullability_of t ≡ n → spelling_under One n (kind_of t) (replicate rows (blank_val t)) ≡ replicate (rows * row_size (kind_of t) n) 0
by_null t rows NonNullable e = zero_slots (kind_of t) (blank_val t) (slot_size (kind_of t)) rows (zeros t)
by_null t rows Nullable e =
    let size : ℕ = slot_size (kind_of t) in
    (λ i. flags (replicate rows (blank_null t e i)) ++ zero_slots (kind_of t) (blank_val t) size rows (zeros t) i)
    ∙ ap (λ bs. bs ++ replicate (rows * size) 0) (zero_flags rows) ∙ joined rows (rows * size) 0
    ∙ ap (λ m. replicate m 0) (let sum : rows + rows * size ≡ rows * (size + 1) = omega arith in sum)

pub blank_bytes : (t : DataType) (rows : ℕ) → replicate (rows * row_size (kind_of t) (nullability_of t)) 0 ≡ spelled One t (replicate rows (blank_val t))
blank_bytes t rows = sym (by_null t rows (nullability_of t) refl)
