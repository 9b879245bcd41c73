-- Which bytes spell which values.
use Rattle.std.specs.Prelude.{◌≡◌, ℕ, zero, suc, ◌-◌, ◌*◌, ◌<◌, ◌^◌, List, [], ◌∷◌, ◌++◌, length, replicate, true}
use Rattle.std.specs.Int.{w32, to_le_bytes}
use Rattle.scan_values.specs.declared.dtype.DTypeKind.{DTypeKind}
use Rattle.scan_values.specs.declared.ptype.Nullability.{Nullability}
use Rattle.scan_values.specs.declared.ptype.Nullability.TheVariants.{NonNullable, Nullable}
use Rattle.scan_values.specs.DataType.{DataType, nullability_of}
use Rattle.scan_values.specs.Kinds.{kind_of}
use Rattle.scan_values.specs.Val.{Val, null_val}
use Rattle.scan_spelling.specs.declared.spelling.Spelling.{Spelling}
use Rattle.scan_spelling.specs.declared.spelling.Spelling.TheVariants.{One, Two}
use Rattle.scan_spelling.specs.Spelling.{width, are_bytes, bits_of, bytes_for}
use Rattle.scan_spelling.specs.Written.{HasSlot, IsHere, TextFits, slot_bytes}

-- bytes that can stand in a slot, whatever they mean
abbrev pub FillsSlot : DTypeKind → List ℕ → Type 0
FillsSlot DTypeKind.Bool bytes = length bytes ≡ 1
FillsSlot (DTypeKind.Primitive p) bytes = length bytes ≡ width p
FillsSlot DTypeKind.Utf8 bytes = (text : List ℕ) × (length text < 2 ^ 32) × (bytes ≡ to_le_bytes w32 (length text) ++ text)
FillsSlot DTypeKind.List bytes = ⊥
FillsSlot DTypeKind.Struct bytes = ⊥

-- a slot and its flag: of a null the content is ignored
abbrev pub SpellsCell : DTypeKind → ℕ → Val → List ℕ → Type 0
SpellsCell kind zero v bytes = (v ≡ null_val) × FillsSlot kind bytes
SpellsCell kind (suc zero) v bytes = HasSlot kind v × IsHere v × TextFits v × (bytes ≡ slot_bytes kind v)
SpellsCell kind (suc (suc flag)) v bytes = ⊥

-- slots one after another, and nothing after them
abbrev pub SpellsCells : DTypeKind → List ℕ → List Val → List ℕ → Type 0
SpellsCells kind [] [] bytes = bytes ≡ []
SpellsCells kind [] (v ∷ vs) bytes = ⊥
SpellsCells kind (flag ∷ flags) [] bytes = ⊥
SpellsCells kind (flag ∷ flags) (v ∷ vs) bytes = (slot : List ℕ) × (rest : List ℕ) × (bytes ≡ slot ++ rest)
    × SpellsCell kind flag v slot × SpellsCells kind flags vs rest

-- bytes whose bits are these, one for each of so many rows, and then zeros up to the end of a byte
abbrev pub AreBits : ℕ → List ℕ → List ℕ → Type 0
AreBits n bits bytes = (length bits ≡ n) × (length bytes ≡ bytes_for n) × (bits_of bytes ≡ bits ++ replicate (8 * bytes_for n - n) 0)

-- bytes that have these flags, a byte each or a bit each
abbrev pub AreFlags : Spelling → ℕ → List ℕ → List ℕ → Type 0
AreFlags One n flags bytes = (length flags ≡ n) × (bytes ≡ flags)
AreFlags Two n flags bytes = AreBits n flags bytes

-- bytes that have these slots, where that of a Bool is a byte or a bit
abbrev pub AreSlots : Spelling → DTypeKind → ℕ → List ℕ → List ℕ → Type 0
AreSlots One kind n slots bytes = bytes ≡ slots
AreSlots Two DTypeKind.Bool n slots bytes = AreBits n slots bytes
AreSlots Two (DTypeKind.Primitive p) n slots bytes = bytes ≡ slots
AreSlots Two DTypeKind.Utf8 n slots bytes = bytes ≡ slots
AreSlots Two DTypeKind.List n slots bytes = bytes ≡ slots
AreSlots Two DTypeKind.Struct n slots bytes = bytes ≡ slots

-- the bytes spell the values of the slots under these flags
abbrev pub SpellsSlots : Spelling → DTypeKind → ℕ → List ℕ → List Val → List ℕ → Type 0
SpellsSlots s kind n flags vs bytes = (slots : List ℕ) × AreSlots s kind n slots bytes × SpellsCells kind flags vs slots

-- where a value may be null the flags of all rows stand first
abbrev pub SpellsUnder : Spelling → Nullability → DTypeKind → ℕ → List Val → List ℕ → Type 0
SpellsUnder s NonNullable kind n vs bytes = SpellsSlots s kind n (replicate n 1) vs bytes
SpellsUnder s Nullable kind n vs bytes =
    (front : List ℕ) × (rest : List ℕ) × (bytes ≡ front ++ rest) × ((flags : List ℕ) × AreFlags s n flags front × SpellsSlots s kind n flags vs rest)

-- the bytes spell the values of n rows of a dtype
abbrev pub Spells : Spelling → DataType → ℕ → List Val → List ℕ → Type 0
Spells s t n vs bytes = (are_bytes bytes ≡ true) × SpellsUnder s (nullability_of t) (kind_of t) n vs bytes
