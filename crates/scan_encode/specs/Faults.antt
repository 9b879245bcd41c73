-- Why rows are not encoded.
use Rattle.std.specs.Prelude.{◌≡◌, ℕ, ◌^◌, ◌≤◌, List, length, false}
use Rattle.scan_values.specs.Val.{Val, vals_of}
use Rattle.scan_spelling.specs.declared.spelling.EncodeFault.{EncodeFault}
use Rattle.scan_spelling.specs.declared.spelling.EncodeFault.TheVariants as encode
use Rattle.scan_encode.specs.Rows.{all_texts_fit}
use Rattle.scan_encode.specs.declared.fault.RowsFault.{RowsFault}
use Rattle.scan_encode.specs.declared.fault.RowsFault.TheVariants.{TooLong, Segments, NoMemory}

abbrev pub encode_fault : EncodeFault → RowsFault
encode_fault encode.TooLong = TooLong
encode_fault encode.NoMemory = NoMemory

-- why rows whose texts fit are not encoded, where there are these segments then
abbrev pub IsFull : List (List ℕ) → RowsFault → Type 0
IsFull segments TooLong = ⊥
IsFull segments Segments = 2 ^ 32 ≤ length segments
IsFull segments NoMemory = Unit {0}

-- the same, where a text may be too long
abbrev pub IsUnwritten : List Val → List (List ℕ) → RowsFault → Type 0
IsUnwritten rows segments TooLong = all_texts_fit (vals_of rows) ≡ false
IsUnwritten rows segments Segments = 2 ^ 32 ≤ length segments
IsUnwritten rows segments NoMemory = Unit {0}
