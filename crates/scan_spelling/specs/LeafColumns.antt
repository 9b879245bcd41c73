-- What a contract sees of a leaf's segment that is read in place.
use Rattle.std.specs.Prelude.{ℕ, zero, suc, ℤ, List, [], ◌∷◌, take, Bool, true, false, ◌&&◌, nat_lt, Option, Some, None, is_some}
use Rattle.scan_values.specs.declared.dtype.DTypeKind.{DTypeKind}
use Rattle.scan_values.specs.DataType.{DataType}
use Rattle.scan_values.specs.Val.{Val, null_val, bool_val, int_val, text_val}
use Rattle.scan_spelling.specs.declared.spelling.Spelling.{Spelling}
use Rattle.scan_spelling.specs.declared.spelling.Spelling.TheVariants.{One, Two}
use Rattle.scan_spelling.specs.Spelling.{width, bool_of, under_flag, bits_of, decode}

-- each slot has so many bytes
abbrev pub slot_width : DTypeKind → ℕ
slot_width DTypeKind.Bool = 1
slot_width (DTypeKind.Primitive p) = width p
slot_width DTypeKind.Utf8 = 0
slot_width DTypeKind.List = 0
slot_width DTypeKind.Struct = 0

-- all slots of the kind are of one width
abbrev pub has_width : DTypeKind → Bool
has_width DTypeKind.Bool = true
has_width (DTypeKind.Primitive p) = true
has_width DTypeKind.Utf8 = false
has_width DTypeKind.List = false
has_width DTypeKind.Struct = false

-- the values that were read, if any
abbrev pub or_none : Option (List Val) → List Val
or_none None = []
or_none (Some vs) = vs

-- the values that the bytes spell
abbrev pub spelled : Spelling → DataType → ℕ → List ℕ → List Val
spelled s t n bytes = or_none (decode s t n bytes)

-- the flags of so many rows, a byte each
abbrev pub spread : Spelling → ℕ → List ℕ → List ℕ
spread One n flags = flags
spread Two n flags = take n (bits_of flags)

-- each byte is 0 or 1
abbrev pub are_flags : List ℕ → Bool
are_flags [] = true
are_flags (b ∷ bytes) = nat_lt b 2 && are_flags bytes

-- the byte of a Bool under its flag
abbrev pub is_row : ℕ → ℕ → Bool
is_row flag byte = is_some (under_flag flag (bool_of byte))

-- each Bool's byte may stand under its flag
abbrev pub are_rows : List ℕ → List ℕ → Bool
are_rows [] bytes = true
are_rows (flag ∷ flags) [] = false
are_rows (flag ∷ flags) (b ∷ bytes) = is_row flag b && are_rows flags bytes

-- no null
abbrev pub is_here : Val → Bool
is_here null_val = false
is_here _ = true

-- a flag that is not 0
abbrev pub is_set : ℕ → Bool
is_set zero = false
is_set (suc flag) = true

-- a number, or null
abbrev pub int_or_null : Option ℤ → Val
int_or_null None = null_val
int_or_null (Some z) = int_val z

-- a truth value, or null
abbrev pub bool_or_null : Option Bool → Val
bool_or_null None = null_val
bool_or_null (Some b) = bool_val b

-- a text, or null
abbrev pub text_or_null : Option (List ℕ) → Val
text_or_null None = null_val
text_or_null (Some s) = text_val s
