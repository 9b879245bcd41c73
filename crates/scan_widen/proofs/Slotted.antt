-- What fits a scalar dtype has a slot. After Encoding of scan_layout, where two of these are private.
use Rattle.std.proofs.Common.{◌≡◌, ℕ, ◌^◌, List, [], ◌∷◌, length, arith, refl, sym, subst, Bool, false, true, ◌&&◌, Some, ℤ, pos, negsuc, map, All}
use Rattle.std.specs.List.{AllByRecursion}
use Rattle.std.proofs.lemmas.Int.{ints}
use Rattle.std.proofs.lemmas.Bool.{ltb-true}
use Rattle.std.proofs.lemmas.List.Elements.{recursion_from_All, All-from_recursion}
use Rattle.scan_values.specs.declared.ptype.PType.{PType}
use Rattle.scan_values.specs.declared.ptype.PType.TheVariants.{U8, U16, U32, U64, I8, I16, I32, I64}
use Rattle.scan_values.specs.declared.ptype.Nullability.{Nullability}
use Rattle.scan_values.specs.declared.ptype.Nullability.TheVariants.{NonNullable, Nullable}
use Rattle.scan_values.specs.declared.value.Value.{Value}
use Rattle.scan_values.specs.declared.dtype.DTypeKind.{DTypeKind}
use Rattle.scan_values.specs.DataType.{DataType, bool_type, int_type, utf8_type, list_type, struct_type, nullability_of}
use Rattle.scan_values.specs.Kinds.{kind_of, is_scalar_type}
use Rattle.scan_values.specs.Ranges.{in_range}
use Rattle.scan_values.specs.Fits.{fits, fits_all}
use Rattle.scan_values.specs.Val.{Val, null_val, bool_val, int_val, text_val, list_val, struct_val, marked, marked_all, vals_of}
use Rattle.scan_values.specs.Values.{val_of}
use Rattle.scan_spelling.specs.declared.spelling.Spelling.{Spelling}
use Rattle.scan_spelling.specs.Spelling.{decode, are_bytes}
use Rattle.scan_spelling.specs.Written.{IntFits, HasSlot, IsOfKind, IsText, TextFits, spelled}
use Rattle.scan_spelling.proofs.RoundTrip.{HereWhere, read_again}

and_parts : (a b : Bool) → (a && b) ≡ true → (a ≡ true) × (b ≡ true)
and_parts true b e = (refl, e)
and_parts false b e = absurd cc

-- a test of scalars is false of lists and structs
no_scalar : {P : Type 0} → false ≡ true → P
no_scalar e = absurd cc

int_fits : (p : PType) (z : ℤ) → in_range p z ≡ true → IntFits p z
int_fits U8 (pos n) e = let h = ltb-true n (2 ^ 8) e in (omega (arith, ints, h), omega (arith, ints, h))
int_fits U16 (pos n) e = let h = ltb-true n (2 ^ 16) e in (omega (arith, ints, h), omega (arith, ints, h))
int_fits U32 (pos n) e = let h = ltb-true n (2 ^ 32) e in (omega (arith, ints, h), omega (arith, ints, h))
int_fits U64 (pos n) e = let h = ltb-true n (2 ^ 64) e in (omega (arith, ints, h), omega (arith, ints, h))
int_fits U8 (negsuc n) e = no_scalar e
int_fits U16 (negsuc n) e = no_scalar e
int_fits U32 (negsuc n) e = no_scalar e
int_fits U64 (negsuc n) e = no_scalar e
int_fits I8 (pos n) e = let h = ltb-true n (2 ^ 7) e in record { sfits = omega (arith, ints, h) }
int_fits I16 (pos n) e = let h = ltb-true n (2 ^ 15) e in record { sfits = omega (arith, ints, h) }
int_fits I32 (pos n) e = let h = ltb-true n (2 ^ 31) e in record { sfits = omega (arith, ints, h) }
int_fits I64 (pos n) e = let h = ltb-true n (2 ^ 63) e in record { sfits = omega (arith, ints, h) }
int_fits I8 (negsuc n) e = let h = ltb-true n (2 ^ 7) e in record { sfits = omega (arith, ints, h) }
int_fits I16 (negsuc n) e = let h = ltb-true n (2 ^ 15) e in record { sfits = omega (arith, ints, h) }
int_fits I32 (negsuc n) e = let h = ltb-true n (2 ^ 31) e in record { sfits = omega (arith, ints, h) }
int_fits I64 (negsuc n) e = let h = ltb-true n (2 ^ 63) e in record { sfits = omega (arith, ints, h) }

kind_where : (t : DataType) (v : Val) → is_scalar_type t ≡ true → fits (marked v) t ≡ true → IsOfKind (kind_of t) v
kind_where (list_type d n) v s e = no_scalar s
kind_where (struct_type fs n) v s e = no_scalar s
kind_where (bool_type n) null_val s e = tt
kind_where (int_type p n) null_val s e = tt
kind_where (utf8_type n) null_val s e = tt
kind_where (bool_type n) (bool_val b) s e = tt
kind_where (bool_type n) (int_val z) s e = no_scalar e
kind_where (bool_type n) (text_val bytes) s e = no_scalar e
kind_where (bool_type n) (list_val vs) s e = no_scalar e
kind_where (bool_type n) (struct_val vs) s e = no_scalar e
kind_where (int_type p n) (bool_val b) s e = no_scalar e
kind_where (int_type p n) (int_val z) s e = int_fits p z e
kind_where (int_type p n) (text_val bytes) s e = no_scalar e
kind_where (int_type p n) (list_val vs) s e = no_scalar e
kind_where (int_type p n) (struct_val vs) s e = no_scalar e
kind_where (utf8_type n) (bool_val b) s e = no_scalar e
kind_where (utf8_type n) (int_val z) s e = no_scalar e
kind_where (utf8_type n) (text_val bytes) s e = tt
kind_where (utf8_type n) (list_val vs) s e = no_scalar e
kind_where (utf8_type n) (struct_val vs) s e = no_scalar e

pub kinds_where : (t : DataType) (vs : List Val) → is_scalar_type t ≡ true → fits_all (marked_all (vals_of vs)) t ≡ true → AllByRecursion (IsOfKind (kind_of t)) vs
kinds_where t [] s e = tt
kinds_where t (v ∷ vs) s e =
    let both = and_parts (fits (marked v) t) (fits_all (marked_all (vals_of vs)) t) e in
    (kind_where t v s both.0, kinds_where t vs s both.1)

unmapped : (P : Val → Type 0) (vs : List Value) → AllByRecursion P (map val_of vs) → AllByRecursion (λ v. P (val_of v)) vs
unmapped P [] h = tt
unmapped P (v ∷ vs) h = (h.0, unmapped P vs h.1)

pub all_unmapped : (P : Val → Type 0) (vs : List Value) (us : List Val) → map val_of vs ≡ us → All P us → All (λ v. P (val_of v)) vs
all_unmapped P vs us e h = All-from_recursion (λ v. P (val_of v)) vs (unmapped P vs (recursion_from_All P (map val_of vs) (subst (All P) (sym e) h)))

pub of_kind : (t : DataType) (vs : List Value) (us : List Val) → map val_of vs ≡ us → is_scalar_type t ≡ true → fits_all (marked_all (vals_of us)) t ≡ true → All (λ v. IsOfKind (kind_of t) (val_of v)) vs
of_kind t vs us e s f = all_unmapped (IsOfKind (kind_of t)) vs us e (All-from_recursion (IsOfKind (kind_of t)) us (kinds_where t us s f))

has_slot : (kind : DTypeKind) (v : Val) → IsOfKind kind v → IsText v → HasSlot kind v
has_slot DTypeKind.List v h g = absurd h
has_slot DTypeKind.Struct v h g = absurd h
has_slot DTypeKind.Bool null_val h g = tt
has_slot DTypeKind.Bool (bool_val b) h g = tt
has_slot DTypeKind.Bool (int_val z) h g = absurd h
has_slot DTypeKind.Bool (text_val bytes) h g = absurd h
has_slot DTypeKind.Bool (list_val vs) h g = absurd h
has_slot DTypeKind.Bool (struct_val vs) h g = absurd h
has_slot (DTypeKind.Primitive p) null_val h g = tt
has_slot (DTypeKind.Primitive p) (bool_val b) h g = absurd h
has_slot (DTypeKind.Primitive p) (int_val z) h g = h
has_slot (DTypeKind.Primitive p) (text_val bytes) h g = absurd h
has_slot (DTypeKind.Primitive p) (list_val vs) h g = absurd h
has_slot (DTypeKind.Primitive p) (struct_val vs) h g = absurd h
has_slot DTypeKind.Utf8 null_val h g = tt
has_slot DTypeKind.Utf8 (bool_val b) h g = absurd h
has_slot DTypeKind.Utf8 (int_val z) h g = absurd h
has_slot DTypeKind.Utf8 (text_val bytes) h g = g
has_slot DTypeKind.Utf8 (list_val vs) h g = absurd h
has_slot DTypeKind.Utf8 (struct_val vs) h g = absurd h

pub have_slots : (kind : DTypeKind) (vs : List Val) → AllByRecursion (IsOfKind kind) vs → AllByRecursion IsText vs → AllByRecursion (HasSlot kind) vs
have_slots kind [] h g = tt
have_slots kind (v ∷ vs) h g = (has_slot kind v h.0 g.0, have_slots kind vs h.1 g.1)

here_where : (t : DataType) (v : Val) → fits (marked v) t ≡ true → HereWhere (nullability_of t) v
here_where t v e = go (nullability_of t) v refl e
  where
    go : (n : Nullability) (u : Val) → nullability_of t ≡ n → fits (marked u) t ≡ true → HereWhere n u
    go Nullable u p e = tt
    go NonNullable null_val p e = let f : false ≡ true = rw p at e in no_scalar f
    go NonNullable (bool_val b) p e = tt
    go NonNullable (int_val z) p e = tt
    go NonNullable (text_val bytes) p e = tt
    go NonNullable (list_val vs) p e = tt
    go NonNullable (struct_val vs) p e = tt

all_here : (t : DataType) (vs : List Val) → fits_all (marked_all (vals_of vs)) t ≡ true → AllByRecursion (HereWhere (nullability_of t)) vs
all_here t [] e = tt
all_here t (v ∷ vs) e =
    let both = and_parts (fits (marked v) t) (fits_all (marked_all (vals_of vs)) t) e in
    (here_where t v both.0, all_here t vs both.1)

-- what was written is read again
pub again : (s : Spelling) (t : DataType) (vs : List Val) (bytes : List ℕ) → is_scalar_type t ≡ true → fits_all (marked_all (vals_of vs)) t ≡ true → All TextFits vs → All IsText vs → are_bytes bytes ≡ true → bytes ≡ spelled s t vs → decode s t (length vs) bytes ≡ Some vs
again s t vs bytes is f short text small e =
    rw small (rw e (read_again s (nullability_of t) (kind_of t) vs (have_slots (kind_of t) vs (kinds_where t vs is f) (recursion_from_All IsText vs text)) (all_here t vs f) (recursion_from_All TextFits vs short)))
