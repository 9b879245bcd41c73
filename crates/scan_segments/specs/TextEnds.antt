-- Where texts end that stand one after another, each under the flag of its row.
use Rattle.std.specs.Prelude.{◌≡◌, ℕ, zero, suc, ◌+◌, ◌/◌, ◌==◌, ◌&&◌, ◌++◌, nat_lt, List, [], ◌∷◌, length, take, drop, replicate, Bool, true, false, if◌then◌else◌, Option, Some, None, option_and_then, option_map}
use Rattle.std.specs.Str.{is_utf8}
use Rattle.std.specs.Int.{w32, from_le_bytes, bit_at}
use Rattle.scan_segments.specs.declared.text_ends.FlagGroup.{FlagGroup}
use Rattle.scan_segments.specs.declared.text_ends.FlagGroup.TheVariants.{Absent, Bytes, Bits}

-- so many bytes, and those after them
abbrev pub part : ℕ → List ℕ → Option (List ℕ × List ℕ)
part n bytes = if nat_lt (length bytes) n then None else Some (take n bytes, drop n bytes)

-- a text: its length in four bytes, and so many bytes
abbrev pub framed : List ℕ → Option (List ℕ × List ℕ)
framed bytes = option_and_then (λ p. part (from_le_bytes w32 p.0) p.1) (part 4 bytes)

-- the bits of a byte, the least significant first
abbrev pub byte_bits : ℕ → List ℕ
byte_bits b = bit_at b 0 ∷ bit_at b 1 ∷ bit_at b 2 ∷ bit_at b 3 ∷ bit_at b 4 ∷ bit_at b 5 ∷ bit_at b 6 ∷ bit_at b 7 ∷ []

-- the bits of bytes, one byte after another
abbrev pub bits_of : List ℕ → List ℕ
bits_of [] = []
bits_of (b ∷ bytes) = byte_bits b ++ bits_of bytes

abbrev pub are_zero : List ℕ → Bool
are_zero [] = true
are_zero (b ∷ bits) = (b == 0) && are_zero bits

-- how many bytes have so many bits
abbrev pub bytes_for : ℕ → ℕ
bytes_for n = (n + 7) / 8

-- so many bits, each as a byte 0 or 1: the bytes are as many as they take, and the bits after them are 0
abbrev pub bit_group : ℕ → List ℕ → Option (List ℕ)
bit_group n bytes = if (length bytes == bytes_for n) && are_zero (drop n (bits_of bytes)) then Some (take n (bits_of bytes)) else None

-- what may stand under a flag: anything where the row is null, else a text
abbrev pub may_stand : ℕ → List ℕ → Bool
may_stand zero text = true
may_stand (suc zero) text = is_utf8 text
may_stand (suc (suc flag)) text = false

-- nothing is left
abbrev pub ended : List ℕ → Option (List ℕ)
ended [] = Some []
ended (b ∷ bytes) = None

-- where each text ends, for bytes that begin at a place
abbrev pub ends_from : ℕ → List ℕ → List ℕ → Option (List ℕ)
ends_from at [] bytes = ended bytes
ends_from at (flag ∷ flags) bytes =
    option_and_then (λ p. if may_stand flag p.0 then option_map (λ es. (at + 4 + length p.0) ∷ es)
    (ends_from (at + 4 + length p.0) flags p.1) else None) (framed bytes)

-- where each text ends, after the flags of so many rows
abbrev pub ends_after : FlagGroup → ℕ → List ℕ → Option (List ℕ)
ends_after Absent n bytes = ends_from 0 (replicate n 1) bytes
ends_after Bytes n bytes = option_and_then (λ p. ends_from 0 p.0 p.1) (part n bytes)
ends_after Bits n bytes = option_and_then (λ p. option_and_then (λ flags. ends_from 0 flags p.1) (bit_group n p.0)) (part (bytes_for n) bytes)

-- the numbers that are there, if any
abbrev pub or_empty : Option (List ℕ) → List ℕ
or_empty None = []
or_empty (Some es) = es
