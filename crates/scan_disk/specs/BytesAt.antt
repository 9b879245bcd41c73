-- What a read of a file at a place may answer.
use Rattle.std.specs.Prelude.{◌≡◌, ℕ, ◌+◌, List, length, take, drop, Bool, true, Option, None, Some, IfSome, Result, Ok, Err, ⊤, nat_le, if◌then◌else◌}
use Rattle.scan_disk.specs.declared.bytes_at.ReadFault.{ReadFault}
use Rattle.scan_disk.specs.declared.bytes_at.ReadFault.TheVariants.{Outside, Failed}

-- so many bytes from a place on, where there are so many
abbrev pub part_at : ℕ → ℕ → List ℕ → Option (List ℕ)
part_at offset n bytes = if nat_le (offset + n) (length bytes) then Some (take n (drop offset bytes)) else None

-- the number of a file's bytes, as far as the file tells
abbrev pub IsSize : Option (List ℕ) → Bool → Result ℕ ReadFault → Type 0
IsSize told can_fail (Ok n) = IfSome told (λ bytes. n ≡ length bytes)
IsSize told can_fail (Err Outside) = ⊥
IsSize told can_fail (Err Failed) = can_fail ≡ true

-- what fills a buffer, as far as the file tells
abbrev pub IsFilled : Option (List ℕ) → Bool → ℕ → List ℕ → Result ⊤ ReadFault → Type 0
IsFilled told can_fail offset buffer (Ok done) = IfSome told (λ bytes. part_at offset (length buffer) bytes ≡ Some buffer)
IsFilled told can_fail offset buffer (Err Outside) = IfSome told (λ bytes. part_at offset (length buffer) bytes ≡ None)
IsFilled told can_fail offset buffer (Err Failed) = can_fail ≡ true
