-- The values that a segment's bytes spell.
use Rattle.std.specs.Prelude.{◌≡◌, ℕ, zero, suc, ◌+◌, ◌/◌, ℤ, pos, ◌&&◌, ◌==◌, ◌++◌, nat_lt, List, [], ◌∷◌, length, take, drop, replicate, Bool, true, false, if◌then◌else◌, Option, Some, None, option_and_then, option_map, slice_index}
use Rattle.std.specs.Str.{is_utf8}
use Rattle.std.specs.Int.{w8, w16, w32, w64, from_le_bytes, cast_signed, bit_at}
use Rattle.scan_values.specs.declared.ptype.PType.{PType}
use Rattle.scan_values.specs.declared.ptype.PType.TheVariants.{U8, U16, U32, U64, I8, I16, I32, I64}
use Rattle.scan_values.specs.declared.ptype.Nullability.{Nullability}
use Rattle.scan_values.specs.declared.ptype.Nullability.TheVariants.{NonNullable, Nullable}
use Rattle.scan_values.specs.declared.dtype.DTypeKind.{DTypeKind}
use Rattle.scan_values.specs.DataType.{DataType, nullability_of}
use Rattle.scan_values.specs.Kinds.{kind_of}
use Rattle.scan_values.specs.Val.{Val, null_val, bool_val, int_val, text_val}
pub use Rattle.scan_segments.specs.TextEnds.{part, framed, byte_bits, bits_of, are_zero, bytes_for, bit_group}
use Rattle.scan_spelling.specs.declared.spelling.Spelling.{Spelling}
use Rattle.scan_spelling.specs.declared.spelling.Spelling.TheVariants.{One, Two}

abbrev pub are_bytes : List ℕ → Bool
are_bytes [] = true
are_bytes (b ∷ bytes) = nat_lt b 256 && are_bytes bytes

abbrev pub width : PType → ℕ
width U8 = 1
width U16 = 2
width U32 = 4
width U64 = 8
width I8 = 1
width I16 = 2
width I32 = 4
width I64 = 8

-- the number that these bytes are, the lowest first, in two's complement where it is signed
abbrev pub int_of : PType → List ℕ → ℤ
int_of U8 bytes = pos (slice_index bytes 0)
int_of U16 bytes = pos (from_le_bytes w16 bytes)
int_of U32 bytes = pos (from_le_bytes w32 bytes)
int_of U64 bytes = pos (from_le_bytes w64 bytes)
int_of I8 bytes = cast_signed w8 (slice_index bytes 0)
int_of I16 bytes = cast_signed w16 (from_le_bytes w16 bytes)
int_of I32 bytes = cast_signed w32 (from_le_bytes w32 bytes)
int_of I64 bytes = cast_signed w64 (from_le_bytes w64 bytes)

abbrev pub bool_of : ℕ → Option Val
bool_of zero = Some (bool_val false)
bool_of (suc zero) = Some (bool_val true)
bool_of (suc (suc n)) = None

-- the bytes of one slot, and those after them
abbrev pub slot : DTypeKind → List ℕ → Option (List ℕ × List ℕ)
slot DTypeKind.Bool bytes = part 1 bytes
slot (DTypeKind.Primitive p) bytes = part (width p) bytes
slot DTypeKind.Utf8 bytes = framed bytes
slot DTypeKind.List bytes = None
slot DTypeKind.Struct bytes = None

-- bytes that are as long as a slot of a fixed width
abbrev pub IsSlot : DTypeKind → List ℕ → Type 0
IsSlot DTypeKind.Bool bytes = length bytes ≡ 1
IsSlot (DTypeKind.Primitive p) bytes = length bytes ≡ width p
IsSlot DTypeKind.Utf8 bytes = Unit {0}
IsSlot DTypeKind.List bytes = Unit {0}
IsSlot DTypeKind.Struct bytes = Unit {0}

-- the value that a slot's bytes are
abbrev pub content : DTypeKind → List ℕ → Option Val
content DTypeKind.Bool bytes = bool_of (slice_index bytes 0)
content (DTypeKind.Primitive p) bytes = Some (int_val (int_of p bytes))
content DTypeKind.Utf8 bytes = if is_utf8 bytes then Some (text_val bytes) else None
content DTypeKind.List bytes = None
content DTypeKind.Struct bytes = None

-- a value under its flag: 0 says that it is null, and 1 that it is there
abbrev pub under_flag : ℕ → Option Val → Option Val
under_flag zero value = Some null_val
under_flag (suc zero) value = value
under_flag (suc (suc n)) value = None

-- the value of the first cell, and the bytes after it
abbrev pub cell : DTypeKind → ℕ → List ℕ → Option (Val × List ℕ)
cell kind flag bytes = option_and_then (λ p. option_map (λ v. (v, p.1)) (under_flag flag (content kind p.0))) (slot kind bytes)

-- nothing is left
abbrev pub no_more : List ℕ → Option (List Val)
no_more [] = Some []
no_more (b ∷ bytes) = None

-- the values of all cells, one for each flag, after which nothing follows
abbrev pub cells : DTypeKind → List ℕ → List ℕ → Option (List Val)
cells kind [] bytes = no_more bytes
cells kind (flag ∷ flags) bytes = option_and_then (λ x. option_map (λ vs. x.0 ∷ vs) (cells kind flags x.1)) (cell kind flag bytes)

-- a flag or a Bool of each of so many rows is a byte, or in spelling 2 a bit
abbrev pub group_size : Spelling → ℕ → ℕ
group_size One n = n
group_size Two n = bytes_for n

-- the flags of so many rows, a byte each
abbrev pub flags_in : Spelling → ℕ → List ℕ → Option (List ℕ)
flags_in One n bytes = Some bytes
flags_in Two n bytes = bit_group n bytes

-- the slots of so many rows, where that of a Bool is a byte
abbrev pub slots_in : Spelling → DTypeKind → ℕ → List ℕ → Option (List ℕ)
slots_in One kind n bytes = Some bytes
slots_in Two DTypeKind.Bool n bytes = bit_group n bytes
slots_in Two (DTypeKind.Primitive p) n bytes = Some bytes
slots_in Two DTypeKind.Utf8 n bytes = Some bytes
slots_in Two DTypeKind.List n bytes = Some bytes
slots_in Two DTypeKind.Struct n bytes = Some bytes

-- the values of the slots under these flags
abbrev pub decode_slots : Spelling → DTypeKind → ℕ → List ℕ → List ℕ → Option (List Val)
decode_slots s kind n flags bytes = option_and_then (cells kind flags) (slots_in s kind n bytes)

-- where a value may be null the flags of all rows stand first
abbrev pub decode_under : Spelling → Nullability → DTypeKind → ℕ → List ℕ → Option (List Val)
decode_under s NonNullable kind n bytes = decode_slots s kind n (replicate n 1) bytes
decode_under s Nullable kind n bytes =
    option_and_then (λ p. option_and_then (λ flags. decode_slots s kind n flags p.1) (flags_in s n p.0)) (part (group_size s n) bytes)

-- The values of n rows of a dtype that these bytes spell, or nothing where there are none. Spelling 2 is spelling 1
-- after its groups of bits are spread to bytes.
abbrev pub decode : Spelling → DataType → ℕ → List ℕ → Option (List Val)
decode s t n bytes = if are_bytes bytes then decode_under s (nullability_of t) (kind_of t) n bytes else None
