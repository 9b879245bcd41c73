-- How values are written into a segment.
use Rattle.std.specs.Prelude.{ℕ, zero, suc, ℤ, ◌+◌, ◌*◌, ◌<◌, ◌^◌, List, [], ◌∷◌, ◌++◌, length, take, drop, replicate, Bool, true, false}
use Rattle.std.specs.Str.{IsUtf8}
use Rattle.std.specs.Int.{w8, w16, w32, w64, to_le_bytes, cast_unsigned, FitsUnsigned}
use Rattle.std.specs.Int.RustNames.{FitsSigned}
use Rattle.scan_values.specs.declared.ptype.PType.{PType}
use Rattle.scan_values.specs.declared.ptype.PType.TheVariants.{U8, U16, U32, U64, I8, I16, I32, I64}
use Rattle.scan_values.specs.declared.dtype.DTypeKind.{DTypeKind}
use Rattle.scan_values.specs.declared.ptype.Nullability.{Nullability}
use Rattle.scan_values.specs.declared.ptype.Nullability.TheVariants.{NonNullable, Nullable}
use Rattle.scan_values.specs.DataType.{DataType, nullability_of}
use Rattle.scan_values.specs.Kinds.{kind_of}
use Rattle.scan_values.specs.Val.{Val, null_val, bool_val, int_val, text_val, list_val, struct_val}
use Rattle.scan_spelling.specs.declared.spelling.Spelling.{Spelling}
use Rattle.scan_spelling.specs.declared.spelling.Spelling.TheVariants.{One, Two}
use Rattle.scan_spelling.specs.declared.write.Bit.{Bit}
use Rattle.scan_spelling.specs.declared.write.Bit.TheVariants.{There, True}
use Rattle.scan_spelling.specs.Spelling.{width, bytes_for}

abbrev pub IntFits : PType → ℤ → Type 0
IntFits U8 z = FitsUnsigned w8 z
IntFits U16 z = FitsUnsigned w16 z
IntFits U32 z = FitsUnsigned w32 z
IntFits U64 z = FitsUnsigned w64 z
IntFits I8 z = FitsSigned w8 z
IntFits I16 z = FitsSigned w16 z
IntFits I32 z = FitsSigned w32 z
IntFits I64 z = FitsSigned w64 z

-- a number in its width, the lowest byte first, in two's complement
abbrev pub int_bytes : PType → ℤ → List ℕ
int_bytes U8 z = cast_unsigned w8 z ∷ []
int_bytes U16 z = to_le_bytes w16 (cast_unsigned w16 z)
int_bytes U32 z = to_le_bytes w32 (cast_unsigned w32 z)
int_bytes U64 z = to_le_bytes w64 (cast_unsigned w64 z)
int_bytes I8 z = cast_unsigned w8 z ∷ []
int_bytes I16 z = to_le_bytes w16 (cast_unsigned w16 z)
int_bytes I32 z = to_le_bytes w32 (cast_unsigned w32 z)
int_bytes I64 z = to_le_bytes w64 (cast_unsigned w64 z)

-- what has a slot of the kind
abbrev pub HasSlot : DTypeKind → Val → Type 0
HasSlot DTypeKind.List v = ⊥
HasSlot DTypeKind.Struct v = ⊥
HasSlot kind null_val = Unit {0}
HasSlot DTypeKind.Bool (bool_val b) = Unit {0}
HasSlot (DTypeKind.Primitive p) (int_val z) = IntFits p z
HasSlot DTypeKind.Utf8 (text_val bytes) = IsUtf8 bytes
HasSlot _ _ = ⊥

-- The same, where a text need not be UTF-8: the list of bytes that contracts see of a text does not say that it is.
abbrev pub IsOfKind : DTypeKind → Val → Type 0
IsOfKind DTypeKind.List v = ⊥
IsOfKind DTypeKind.Struct v = ⊥
IsOfKind kind null_val = Unit {0}
IsOfKind DTypeKind.Bool (bool_val b) = Unit {0}
IsOfKind (DTypeKind.Primitive p) (int_val z) = IntFits p z
IsOfKind DTypeKind.Utf8 (text_val bytes) = Unit {0}
IsOfKind _ _ = ⊥

abbrev pub IsText : Val → Type 0
IsText (text_val bytes) = IsUtf8 bytes
IsText _ = Unit {0}

abbrev pub IsHere : Val → Type 0
IsHere null_val = ⊥
IsHere _ = Unit {0}

-- a slot of zeros
abbrev pub blank : DTypeKind → List ℕ
blank DTypeKind.Bool = 0 ∷ []
blank (DTypeKind.Primitive p) = replicate (width p) 0
blank DTypeKind.Utf8 = replicate 4 0
blank _ = []

abbrev pub bit_of : Bool → ℕ
bit_of true = 1
bit_of false = 0

abbrev pub ints_of : DTypeKind → ℤ → List ℕ
ints_of (DTypeKind.Primitive p) z = int_bytes p z
ints_of _ z = []

-- the slot of a value
abbrev pub slot_bytes : DTypeKind → Val → List ℕ
slot_bytes kind null_val = blank kind
slot_bytes kind (bool_val b) = bit_of b ∷ []
slot_bytes kind (int_val z) = ints_of kind z
slot_bytes kind (text_val bytes) = to_le_bytes w32 (length bytes) ++ bytes
slot_bytes kind (list_val vs) = []
slot_bytes kind (struct_val vs) = []

abbrev pub flag_of : Val → ℕ
flag_of null_val = 0
flag_of _ = 1

abbrev pub slots : DTypeKind → List Val → List ℕ
slots kind [] = []
slots kind (v ∷ vs) = slot_bytes kind v ++ slots kind vs

abbrev pub flags : List Val → List ℕ
flags [] = []
flags (v ∷ vs) = flag_of v ∷ flags vs

-- the number of these bits, the least significant first
abbrev pub number : List ℕ → ℕ
number [] = 0
number (b ∷ bits) = b + 2 * number bits

-- bits in so many bytes, eight in each
abbrev pub in_bytes : ℕ → List ℕ → List ℕ
in_bytes zero bits = []
in_bytes (suc k) bits = number (take 8 bits) ∷ in_bytes k (drop 8 bits)

-- bits in as many bytes as they take
abbrev pub gathered : List ℕ → List ℕ
gathered bits = in_bytes (bytes_for (length bits)) bits

-- what a bit of a value tells: that it is there, or that it is true
abbrev pub bit_in : Bit → Val → ℕ
bit_in There v = flag_of v
bit_in True (bool_val b) = bit_of b
bit_in True _ = 0

-- flags, a byte each or a bit each
abbrev pub flags_as : Spelling → List ℕ → List ℕ
flags_as One bytes = bytes
flags_as Two bytes = gathered bytes

-- slots, where that of a Bool is a byte or a bit
abbrev pub slots_as : Spelling → DTypeKind → List ℕ → List ℕ
slots_as One kind bytes = bytes
slots_as Two DTypeKind.Bool bytes = gathered bytes
slots_as Two (DTypeKind.Primitive p) bytes = bytes
slots_as Two DTypeKind.Utf8 bytes = bytes
slots_as Two DTypeKind.List bytes = bytes
slots_as Two DTypeKind.Struct bytes = bytes

-- the one way in which values are written: null slots as zeros
abbrev pub spelling_under : Spelling → Nullability → DTypeKind → List Val → List ℕ
spelling_under s NonNullable kind vs = slots_as s kind (slots kind vs)
spelling_under s Nullable kind vs = flags_as s (flags vs) ++ slots_as s kind (slots kind vs)

abbrev pub spelled : Spelling → DataType → List Val → List ℕ
spelled s t vs = spelling_under s (nullability_of t) (kind_of t) vs

-- a text of which four bytes say the length
abbrev pub TextFits : Val → Type 0
TextFits (text_val bytes) = length bytes < 2 ^ 32
TextFits _ = Unit {0}
