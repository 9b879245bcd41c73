-- What a row of a leaf's segment holds, by its dtype.
use Rattle.std.proofs.Common.{◌≡◌, ℕ, ◌<◌, List, length, get_or, sym, subst, true, false, Option, Some, is_some, slice_get, ◌∙◌, refl}
use Rattle.std.proofs.lemmas.Option.{slice_get-get_or}
use Rattle.scan_values.specs.DataType.{DataType, bool_type, int_type, utf8_type, list_type, struct_type}
use Rattle.scan_values.specs.Kinds.{kind_of, ptype_of}
use Rattle.scan_values.specs.Fits.{fits, is_bool_type, is_utf8_type}
use Rattle.scan_values.specs.Val.{Val, null_val, marked}
use Rattle.scan_spelling.specs.declared.spelling.Spelling.{Spelling}
use Rattle.scan_spelling.specs.declared.slot.SlotValue.{SlotValue}
use Rattle.scan_spelling.specs.declared.slot.SlotValue.TheVariants.{Null, Bool, Int}
use Rattle.scan_spelling.specs.Spelling.{decode}
use Rattle.scan_spelling.specs.LeafColumns.{has_width, int_or_null, bool_or_null}
use Rattle.scan_spelling.specs.SlotValues.{slot_val, slot_int, slot_bool}
use Rattle.scan_spelling.proofs.Fitting.{decoded_fit, fits_at}

some_is : (v w : Val) → Some v ≡ Some w → v ≡ w
some_is v w e = cc

pub value_fits : (s : Spelling) (t : DataType) (n : ℕ) (bytes : List ℕ) (vs : List Val) (i : ℕ) (v : Val) → decode s t n bytes ≡ Some vs → i < length vs → Some v ≡ slice_get vs i → fits (marked v) t ≡ true
value_fits s t n bytes vs i v h low is =
    let same : v ≡ get_or vs i null_val = some_is v (get_or vs i null_val) (is ∙ slice_get-get_or vs i null_val low) in
    subst (λ u. fits (marked u) t ≡ true) (sym same) (fits_at vs t i (decoded_fit s t n bytes vs h) low)

-- ---- which dtypes have a width
pub int_width : (t : DataType) → is_some (ptype_of t) ≡ true → has_width (kind_of t) ≡ true
int_width (int_type p n) k = refl
int_width (bool_type n) k = absurd cc
int_width (utf8_type n) k = absurd cc
int_width (list_type d n) k = absurd cc
int_width (struct_type fs n) k = absurd cc

pub bool_width : (t : DataType) → is_bool_type t ≡ true → has_width (kind_of t) ≡ true
bool_width (bool_type n) k = refl
bool_width (int_type p n) k = absurd cc
bool_width (utf8_type n) k = absurd cc
bool_width (list_type d n) k = absurd cc
bool_width (struct_type fs n) k = absurd cc

pub text_width : (t : DataType) → is_utf8_type t ≡ true → has_width (kind_of t) ≡ false
text_width (utf8_type n) k = refl
text_width (bool_type n) k = absurd cc
text_width (int_type p n) k = absurd cc
text_width (list_type d n) k = absurd cc
text_width (struct_type fs n) k = absurd cc

-- ---- what stands in a slot of such a dtype
pub int_is : (t : DataType) (v : SlotValue) (o : Option Val) → is_some (ptype_of t) ≡ true → fits (marked (slot_val v)) t ≡ true → Some (slot_val v) ≡ o → Some (int_or_null (slot_int v)) ≡ o
int_is t Null o k f h = h
int_is t (Int z) o k f h = h
int_is (int_type p n) (Bool b) o k f h = absurd cc
int_is (bool_type n) (Bool b) o k f h = absurd cc
int_is (utf8_type n) (Bool b) o k f h = absurd cc
int_is (list_type d n) (Bool b) o k f h = absurd cc
int_is (struct_type fs n) (Bool b) o k f h = absurd cc

pub bool_is : (t : DataType) (v : SlotValue) (o : Option Val) → is_bool_type t ≡ true → fits (marked (slot_val v)) t ≡ true → Some (slot_val v) ≡ o → Some (bool_or_null (slot_bool v)) ≡ o
bool_is t Null o k f h = h
bool_is t (Bool b) o k f h = h
bool_is (bool_type n) (Int z) o k f h = absurd cc
bool_is (int_type p n) (Int z) o k f h = absurd cc
bool_is (utf8_type n) (Int z) o k f h = absurd cc
bool_is (list_type d n) (Int z) o k f h = absurd cc
bool_is (struct_type fs n) (Int z) o k f h = absurd cc
