-- Whether a value is one of a dtype, through the operators on fields.
use Rattle.std.proofs.Common.{◌≡◌, Bool, true, false, cond, ◌&&◌, Some, bytes_eq, refl, ◌∙◌}
use Rattle.scan_values.specs.DataType.{DataType, bool_type, int_type, utf8_type, list_type, struct_type, Fields, no_fields, field, Name, nullability_of, is_nullable, with_nullability}
use Rattle.scan_values.specs.FieldLists.{dtype_named}
use Rattle.scan_values.specs.declared.ptype.Nullability.{Nullability}
use Rattle.scan_values.specs.declared.ptype.Nullability.TheVariants.{NonNullable, Nullable}
use Rattle.scan_values.specs.Fits.{fits, fits_fields}
use Rattle.scan_values.specs.Marked.{Marked, lost, null, gone, boolean, integer, text, list, struct, Markeds, none, more}
use Rattle.scan_expr.specs.Infer.{either}
use Rattle.scan_expr.specs.Eval.{pick}

pub and_left : (a b : Bool) → (a && b) ≡ true → a ≡ true
and_left true b h = refl
and_left false b h = h

pub and_right : (a b : Bool) → (a && b) ≡ true → b ≡ true
and_right true b h = h
and_right false b h = cc

pub is_nullable-with : (d : DataType) → is_nullable (with_nullability Nullable d) ≡ true
is_nullable-with (bool_type k) = refl
is_nullable-with (int_type p k) = refl
is_nullable-with (utf8_type k) = refl
is_nullable-with (list_type e k) = refl
is_nullable-with (struct_type fs k) = refl

-- a value that is neither null nor lost fits by the kind alone
abbrev IsHere : Marked → Type 0
IsHere lost = ⊥
IsHere null = ⊥
IsHere gone = Unit {0}
IsHere (boolean b) = Unit {0}
IsHere (integer z) = Unit {0}
IsHere (text s) = Unit {0}
IsHere (list ms) = Unit {0}
IsHere (struct ms) = Unit {0}

fits-with : (m : Marked) (d : DataType) (n : Nullability) → IsHere m → fits m (with_nullability n d) ≡ fits m d
fits-with lost d n h = absurd h
fits-with null d n h = absurd h
fits-with gone (bool_type k) n h = refl
fits-with gone (int_type p k) n h = refl
fits-with gone (utf8_type k) n h = refl
fits-with gone (list_type e k) n h = refl
fits-with gone (struct_type fs k) n h = refl
fits-with (boolean b) (bool_type k) n h = refl
fits-with (boolean b) (int_type p k) n h = refl
fits-with (boolean b) (utf8_type k) n h = refl
fits-with (boolean b) (list_type e k) n h = refl
fits-with (boolean b) (struct_type fs k) n h = refl
fits-with (integer z) (bool_type k) n h = refl
fits-with (integer z) (int_type p k) n h = refl
fits-with (integer z) (utf8_type k) n h = refl
fits-with (integer z) (list_type e k) n h = refl
fits-with (integer z) (struct_type fs k) n h = refl
fits-with (text s) (bool_type k) n h = refl
fits-with (text s) (int_type p k) n h = refl
fits-with (text s) (utf8_type k) n h = refl
fits-with (text s) (list_type e k) n h = refl
fits-with (text s) (struct_type fs k) n h = refl
fits-with (list ms) (bool_type k) n h = refl
fits-with (list ms) (int_type p k) n h = refl
fits-with (list ms) (utf8_type k) n h = refl
fits-with (list ms) (list_type e k) n h = refl
fits-with (list ms) (struct_type fs k) n h = refl
fits-with (struct ms) (bool_type k) n h = refl
fits-with (struct ms) (int_type p k) n h = refl
fits-with (struct ms) (utf8_type k) n h = refl
fits-with (struct ms) (list_type e k) n h = refl
fits-with (struct ms) (struct_type fs k) n h = refl

pub fits-nullable : (m : Marked) (d : DataType) → fits m d ≡ true → fits m (with_nullability Nullable d) ≡ true
fits-nullable lost d h = is_nullable-with d
fits-nullable null d h = is_nullable-with d
fits-nullable gone d h = fits-with gone d Nullable tt ∙ h
fits-nullable (boolean b) d h = fits-with (boolean b) d Nullable tt ∙ h
fits-nullable (integer z) d h = fits-with (integer z) d Nullable tt ∙ h
fits-nullable (text s) d h = fits-with (text s) d Nullable tt ∙ h
fits-nullable (list ms) d h = fits-with (list ms) d Nullable tt ∙ h
fits-nullable (struct ms) d h = fits-with (struct ms) d Nullable tt ∙ h

with-own : (d : DataType) → with_nullability (nullability_of d) d ≡ d
with-own (bool_type k) = refl
with-own (int_type p k) = refl
with-own (utf8_type k) = refl
with-own (list_type e k) = refl
with-own (struct_type fs k) = refl

-- a value keeps its dtype where that becomes nullable by another
pub fits-either : (m : Marked) (d : DataType) (n : Nullability) → fits m d ≡ true → fits m (with_nullability (either n (nullability_of d)) d) ≡ true
fits-either m d NonNullable h = rw (with-own d) h
fits-either m d Nullable h = fits-nullable m d h

pub pick_fits : (n : Name) (fs : Fields) (ms : Markeds) (t : DataType) → fits_fields ms fs ≡ true → dtype_named n fs ≡ Some t → fits (pick n fs ms) t ≡ true
pick_fits n no_fields ms t h e = cc
pick_fits n (field m d fs) none t h e = cc
pick_fits n (field m d fs) (more v vs) t h e = first (bytes_eq n m) e (pick_fits n fs vs t (and_right (fits v d) (fits_fields vs fs) h))
  where
    first : (b : Bool) → cond b (Some d) (dtype_named n fs) ≡ Some t → (dtype_named n fs ≡ Some t → fits (pick n fs vs) t ≡ true) → fits (cond b v (pick n fs vs)) t ≡ true
    first true e rest = let same : d ≡ t = cc in rw (← same) (and_left (fits v d) (fits_fields vs fs) h)
    first false e rest = rest e
