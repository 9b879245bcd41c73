-- The values of a leaf, as ones of another dtype.
use Rattle.std.proofs.Common.{◌≡◌, ℕ, zero, suc, ◌<◌, ◌^◌, List, [], ◌∷◌, ◌++◌, length, replicate, arith, refl, sym, subst, ap, ◌∙◌, Bool, true, false, ◌&&◌, Some, None, All, get_or}
use Rattle.std.specs.Prelude.{ℤ, pos, negsuc}
use Rattle.scan_values.specs.declared.ptype.PType.{PType}
use Rattle.scan_values.specs.declared.ptype.PType.TheVariants.{U8, U16, U32, U64, I8, I16, I32, I64}
use Rattle.scan_values.specs.declared.ptype.Nullability.{Nullability}
use Rattle.scan_values.specs.declared.ptype.Nullability.TheVariants.{NonNullable, Nullable}
use Rattle.scan_values.specs.DataType.{DataType, bool_type, int_type, utf8_type, list_type, struct_type, is_null_kind, is_nullable}
use Rattle.scan_values.specs.Kinds.{is_scalar_type}
use Rattle.scan_values.specs.Ranges.{in_range}
use Rattle.scan_values.specs.Fits.{fits, fits_all}
use Rattle.scan_values.specs.Val.{Val, null_val, bool_val, int_val, text_val, list_val, struct_val, marked, marked_all, vals_of}
use Rattle.scan_widen.specs.FitsUnder.{null_fits, least_of, greatest_of, holds_all, fits_under}

and_parts : (a b : Bool) → (a && b) ≡ true → (a ≡ true) × (b ≡ true)
and_parts true b e = (refl, e)
and_parts false b e = absurd cc

null_goes : (n m : Nullability) → null_fits n m ≡ true → is_null_kind n ≡ true → is_null_kind m ≡ true
null_goes NonNullable m f e = absurd cc
null_goes Nullable NonNullable f e = absurd cc
null_goes Nullable Nullable f e = refl

pub range_goes : (p q : PType) (z : ℤ) → holds_all p q ≡ true → in_range p z ≡ true → in_range q z ≡ true
range_goes p q z h k = Prim.search (arith)

pub val_goes : (from to : DataType) (v : Val) → is_scalar_type from ≡ true → fits_under from to ≡ true → fits (marked v) from ≡ true → fits (marked v) to ≡ true
val_goes (bool_type n) (bool_type m) null_val s f e = null_goes n m f e
val_goes (bool_type n) (bool_type m) (bool_val b) s f e = refl
val_goes (utf8_type n) (utf8_type m) null_val s f e = null_goes n m f e
val_goes (utf8_type n) (utf8_type m) (text_val b) s f e = refl
val_goes (int_type p n) (int_type q m) null_val s f e = null_goes n m (and_parts (null_fits n m) (holds_all p q) f).0 e
val_goes (int_type p n) (int_type q m) (int_val z) s f e = range_goes p q z (and_parts (null_fits n m) (holds_all p q) f).1 e
val_goes from to v s f e = absurd cc

pub vals_go : (from to : DataType) (vs : List Val) → is_scalar_type from ≡ true → fits_under from to ≡ true → fits_all (marked_all (vals_of vs)) from ≡ true → fits_all (marked_all (vals_of vs)) to ≡ true
vals_go from to [] s f e = refl
vals_go from to (v ∷ vs) s f e =
    let both = and_parts (fits (marked v) from) (fits_all (marked_all (vals_of vs)) from) e in
    rw (val_goes from to v s f both.0) (vals_go from to vs s f both.1)

pub scalar_goes : (from to : DataType) → is_scalar_type from ≡ true → fits_under from to ≡ true → is_scalar_type to ≡ true
scalar_goes (bool_type n) (bool_type m) s f = refl
scalar_goes (utf8_type n) (utf8_type m) s f = refl
scalar_goes (int_type p n) (int_type q m) s f = refl
scalar_goes from to s f = absurd cc
