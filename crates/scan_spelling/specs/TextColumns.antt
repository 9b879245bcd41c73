-- Where the texts of a segment end.
use Rattle.std.specs.Prelude.{ℕ, ◌+◌, ◌-◌, List, [], ◌∷◌, length, take, drop, replicate, get_or, Option, Some, None, option_and_then, option_map}
use Rattle.scan_values.specs.declared.dtype.DTypeKind.{DTypeKind}
use Rattle.scan_values.specs.declared.ptype.Nullability.{Nullability}
use Rattle.scan_values.specs.declared.ptype.Nullability.TheVariants.{NonNullable, Nullable}
use Rattle.scan_segments.specs.declared.text_ends.FlagGroup.{FlagGroup}
use Rattle.scan_segments.specs.declared.text_ends.FlagGroup.TheVariants.{Absent, Bytes, Bits}
use Rattle.scan_spelling.specs.declared.spelling.Spelling.{Spelling}
use Rattle.scan_spelling.specs.declared.spelling.Spelling.TheVariants.{One, Two}
use Rattle.scan_spelling.specs.Spelling.{part, framed, content, under_flag, group_size, flags_in}
use Rattle.scan_spelling.specs.LeafColumns.{spread}

-- nothing is left
abbrev pub no_ends : List ℕ → Option (List ℕ)
no_ends [] = Some []
no_ends (b ∷ bytes) = None

-- where each slot ends, for bytes that begin at a place
abbrev pub ends_of : ℕ → List ℕ → List ℕ → Option (List ℕ)
ends_of at [] bytes = no_ends bytes
ends_of at (flag ∷ flags) bytes =
    option_and_then (λ p. option_and_then (λ v. option_map (λ es. (at + 4 + length p.0) ∷ es)
    (ends_of (at + 4 + length p.0) flags p.1)) (under_flag flag (content DTypeKind.Utf8 p.0))) (framed bytes)

-- where a slot begins, by where each ends
abbrev pub start_of : List ℕ → ℕ → ℕ
start_of ends i = get_or (0 ∷ ends) i 0

-- the text of a slot
abbrev pub text_at : List ℕ → List ℕ → ℕ → List ℕ
text_at ends bytes i = take (get_or ends i 0 - (start_of ends i + 4)) (drop (start_of ends i + 4) bytes)

-- the flags of so many rows, by the bytes that hold them where a row may be null
abbrev pub row_flags : Spelling → Nullability → ℕ → List ℕ → List ℕ
row_flags s NonNullable n bytes = replicate n 1
row_flags s Nullable n bytes = spread s n bytes

-- how many bytes hold them
abbrev pub flag_bytes : Spelling → Nullability → ℕ → ℕ
flag_bytes s NonNullable n = 0
flag_bytes s Nullable n = group_size s n

-- where each text of a segment ends, after the flags
abbrev pub ends_under : Spelling → Nullability → ℕ → List ℕ → Option (List ℕ)
ends_under s NonNullable n bytes = ends_of 0 (replicate n 1) bytes
ends_under s Nullable n bytes = option_and_then (λ p. option_and_then (λ flags. ends_of 0 flags p.1) (flags_in s n p.0)) (part (group_size s n) bytes)

-- how the flags of rows stand before their texts
abbrev pub flag_group : Spelling → Nullability → FlagGroup
flag_group s NonNullable = Absent
flag_group One Nullable = Bytes
flag_group Two Nullable = Bits
