-- What is read fits its dtype, and what fits has a slot.
use Rattle.std.proofs.Common.{◌≡◌, ℕ, zero, suc, ◌^◌, List, [], ◌∷◌, replicate, arith, refl, sym, subst, true, Some, ℤ, pos, negsuc, Bool, false, ◌<◌, ◌&&◌, length, get_or}
use Rattle.std.proofs.lemmas.Int.{ints}
use Rattle.std.proofs.lemmas.Bool.{lt-ltb}
use Rattle.scan_values.specs.declared.ptype.PType.{PType}
use Rattle.scan_values.specs.declared.ptype.PType.TheVariants.{U8, U16, U32, U64, I8, I16, I32, I64}
use Rattle.scan_values.specs.declared.ptype.Nullability.{Nullability}
use Rattle.scan_values.specs.declared.ptype.Nullability.TheVariants.{NonNullable, Nullable}
use Rattle.scan_values.specs.DataType.{DataType, bool_type, int_type, utf8_type, list_type, struct_type, nullability_of}
use Rattle.scan_values.specs.Kinds.{kind_of}
use Rattle.scan_values.specs.Ranges.{in_range}
use Rattle.scan_values.specs.Fits.{fits, fits_all}
use Rattle.scan_values.specs.Val.{Val, null_val, bool_val, int_val, text_val, list_val, struct_val, marked, marked_all, vals_of}
use Rattle.scan_spelling.specs.declared.spelling.Spelling.{Spelling}
use Rattle.scan_spelling.specs.Spelling.{decode}
use Rattle.scan_spelling.specs.Written.{IntFits, HasSlot, IsHere}
use Rattle.scan_spelling.specs.Spells.{SpellsCells, SpellsUnder, Spells}
use Rattle.scan_spelling.proofs.Lengths.{decode_parts}
use Rattle.scan_spelling.proofs.Relation.{under_is, under_read}
use Rattle.scan_spelling.proofs.Bytes.{bytes_small}

pub in_range_where : (p : PType) (z : ℤ) → IntFits p z → in_range p z ≡ true
in_range_where U8 (pos n) h = lt-ltb n (2 ^ 8) (omega (arith, ints, h.0, h.1))
in_range_where U16 (pos n) h = lt-ltb n (2 ^ 16) (omega (arith, ints, h.0, h.1))
in_range_where U32 (pos n) h = lt-ltb n (2 ^ 32) (omega (arith, ints, h.0, h.1))
in_range_where U64 (pos n) h = lt-ltb n (2 ^ 64) (omega (arith, ints, h.0, h.1))
in_range_where U8 (negsuc n) h = absurd (omega (arith, ints, h.0))
in_range_where U16 (negsuc n) h = absurd (omega (arith, ints, h.0))
in_range_where U32 (negsuc n) h = absurd (omega (arith, ints, h.0))
in_range_where U64 (negsuc n) h = absurd (omega (arith, ints, h.0))
in_range_where I8 (pos n) h = lt-ltb n (2 ^ 7) (omega (arith, ints, h.sfits))
in_range_where I16 (pos n) h = lt-ltb n (2 ^ 15) (omega (arith, ints, h.sfits))
in_range_where I32 (pos n) h = lt-ltb n (2 ^ 31) (omega (arith, ints, h.sfits))
in_range_where I64 (pos n) h = lt-ltb n (2 ^ 63) (omega (arith, ints, h.sfits))
in_range_where I8 (negsuc n) h = lt-ltb n (2 ^ 7) (omega (arith, ints, h.sfits))
in_range_where I16 (negsuc n) h = lt-ltb n (2 ^ 15) (omega (arith, ints, h.sfits))
in_range_where I32 (negsuc n) h = lt-ltb n (2 ^ 31) (omega (arith, ints, h.sfits))
in_range_where I64 (negsuc n) h = lt-ltb n (2 ^ 63) (omega (arith, ints, h.sfits))

-- a value that has a slot, and null only where it may be, fits
pub slot_fits : (t : DataType) (v : Val) → HasSlot (kind_of t) v → IsHere v → fits (marked v) t ≡ true
slot_fits t null_val h g = absurd g
slot_fits (bool_type n) (bool_val b) h g = refl
slot_fits (bool_type n) (int_val z) h g = absurd h
slot_fits (bool_type n) (text_val s) h g = absurd h
slot_fits (bool_type n) (list_val vs) h g = absurd h
slot_fits (bool_type n) (struct_val vs) h g = absurd h
slot_fits (int_type p n) (bool_val b) h g = absurd h
slot_fits (int_type p n) (int_val z) h g = in_range_where p z h
slot_fits (int_type p n) (text_val s) h g = absurd h
slot_fits (int_type p n) (list_val vs) h g = absurd h
slot_fits (int_type p n) (struct_val vs) h g = absurd h
slot_fits (utf8_type n) (bool_val b) h g = absurd h
slot_fits (utf8_type n) (int_val z) h g = absurd h
slot_fits (utf8_type n) (text_val s) h g = refl
slot_fits (utf8_type n) (list_val vs) h g = absurd h
slot_fits (utf8_type n) (struct_val vs) h g = absurd h
slot_fits (list_type d n) v h g = absurd h
slot_fits (struct_type fs n) v h g = absurd h

-- under the flags of so many values that are there
plain_fit : (t : DataType) (n : ℕ) (vs : List Val) (bytes : List ℕ) → SpellsCells (kind_of t) (replicate n 1) vs bytes → fits_all (marked_all (vals_of vs)) t ≡ true
plain_fit t n [] bytes h = refl
plain_fit t zero (v ∷ vs) bytes h = absurd h
plain_fit t (suc n) (v ∷ vs) bytes h = rw (slot_fits t v h.3.0 h.3.1) (plain_fit t n vs h.1 h.4)

flagged_fit : (t : DataType) (flags : List ℕ) (vs : List Val) (bytes : List ℕ) → nullability_of t ≡ Nullable → SpellsCells (kind_of t) flags vs bytes → fits_all (marked_all (vals_of vs)) t ≡ true
flagged_fit t flags [] bytes n h = refl
flagged_fit t [] (v ∷ vs) bytes n h = absurd h
flagged_fit t (zero ∷ flags) (v ∷ vs) bytes n h =
    let null : fits (marked v) t ≡ true = subst (λ u. fits (marked u) t ≡ true) (sym h.3.0) (rw n refl) in
    rw null (flagged_fit t flags vs h.1 n h.4)
flagged_fit t (suc zero ∷ flags) (v ∷ vs) bytes n h = rw (slot_fits t v h.3.0 h.3.1) (flagged_fit t flags vs h.1 n h.4)
flagged_fit t (suc (suc flag) ∷ flags) (v ∷ vs) bytes n h = absurd h.3

under_fit : (s : Spelling) (t : DataType) (m : Nullability) (n : ℕ) (vs : List Val) (bytes : List ℕ) → nullability_of t ≡ m → SpellsUnder s m (kind_of t) n vs bytes → fits_all (marked_all (vals_of vs)) t ≡ true
under_fit s t NonNullable n vs bytes e h = plain_fit t n vs h.0 h.2
under_fit s t Nullable n vs bytes e h = flagged_fit t h.3.0 vs h.3.2.0 e h.3.2.2

pub decode_spells : (s : Spelling) (t : DataType) (n : ℕ) (bytes : List ℕ) (vs : List Val) → decode s t n bytes ≡ Some vs → Spells s t n vs bytes
decode_spells s t n bytes vs e =
    let both = decode_parts s t n bytes vs e in
    (both.0, under_is s (nullability_of t) (kind_of t) n vs bytes (bytes_small bytes both.0) both.1)

pub decoded_fit : (s : Spelling) (t : DataType) (n : ℕ) (bytes : List ℕ) (vs : List Val) → decode s t n bytes ≡ Some vs → fits_all (marked_all (vals_of vs)) t ≡ true
decoded_fit s t n bytes vs e = under_fit s t (nullability_of t) n vs bytes refl (decode_spells s t n bytes vs e).1

pub spells_decode : (s : Spelling) (t : DataType) (n : ℕ) (bytes : List ℕ) (vs : List Val) → Spells s t n vs bytes → decode s t n bytes ≡ Some vs
spells_decode s t n bytes vs h = rw h.0 (under_read s (nullability_of t) (kind_of t) n vs bytes h.1)

pub and_true : (a b : Bool) → (a && b) ≡ true → (a ≡ true) × (b ≡ true)
and_true true b e = (refl, e)
and_true false b e = absurd cc

pub fits_at : (vs : List Val) (t : DataType) (i : ℕ) → fits_all (marked_all (vals_of vs)) t ≡ true → i < length vs → fits (marked (get_or vs i null_val)) t ≡ true
fits_at [] t i e h = absurd (omega arith)
fits_at (v ∷ vs) t zero e h = (and_true (fits (marked v) t) (fits_all (marked_all (vals_of vs)) t) e).0
fits_at (v ∷ vs) t (suc i) e h = fits_at vs t i (and_true (fits (marked v) t) (fits_all (marked_all (vals_of vs)) t) e).1 (omega arith)
