-- What the bytes of a file say.
use Rattle.std.specs.Prelude.{ℕ, ◌+◌, ◌-◌, List, length, take, drop, Bool, ◌&&◌, Option, None, Some, Result, Ok, Err, ⊤, nat_le, nat_lt, if◌then◌else◌, codes}
use Rattle.std.specs.Int.{w64, from_le_bytes}
use Rattle.std.specs.Map.{values_of}
use Rattle.std.specs.List.{list_all}
use Rattle.std.specs.Str.{bytes_eq}
use Rattle.sha2.specs.Sha256.{sha256}
use Rattle.scan_disk.specs.Given.{step}
use Rattle.scan_disk.specs.Footers.{footer_of}
use Rattle.scan_disk.specs.declared.fault.DiskFault.{DiskFault}
use Rattle.scan_disk.specs.declared.fault.DiskFault.TheVariants as fault
use Rattle.scan_disk.specs.declared.footer.Footer.{Footer}
use Rattle.scan_disk.specs.declared.place.Place.{Place}

-- what a file begins and ends with
abbrev pub magic : List ℕ
magic = codes "SIBLAG02"

-- eight bytes from a place on
abbrev pub word_at : ℕ → List ℕ → List ℕ
word_at offset bytes = take 8 (drop offset bytes)

-- the file has both of its magics, and room between them for a footer's digest and its length
abbrev pub marks_of : List ℕ → Result ⊤ DiskFault
marks_of bytes = if nat_lt (length bytes) 56 then Err fault.Short else
    (if bytes_eq (word_at 0 bytes) magic && bytes_eq (word_at (length bytes - 8) bytes) magic then Ok tt else Err fault.Magic)

-- how long the footer is said to be: it stands in front of its digest, that in front of this number
abbrev pub stated_length : List ℕ → ℕ
stated_length bytes = from_le_bytes w64 (word_at (length bytes - 16) bytes)

-- where the footer begins, which is where the segments end
abbrev pub footer_start : List ℕ → Result ℕ DiskFault
footer_start bytes = if nat_lt (length bytes - 56) (stated_length bytes) then Err fault.FooterLength else
    Ok (length bytes - 48 - stated_length bytes)

-- the bytes of the footer, and those of its digest behind them
abbrev pub sealed_bytes : List ℕ → ℕ → List ℕ
sealed_bytes bytes start = take (length bytes - 16 - start) (drop start bytes)

-- a footer, where this is its digest
abbrev pub with_digest : List ℕ → List ℕ → Result (List ℕ) DiskFault
with_digest digest footer = if bytes_eq (sha256 footer) digest then Ok footer else Err fault.FooterDigest

-- the footer of which the last 32 bytes are the digest
abbrev pub unsealed : List ℕ → Result (List ℕ) DiskFault
unsealed bytes = with_digest (drop (length bytes - 32) bytes) (take (length bytes - 32) bytes)

-- a segment's bytes stand between the first magic and the footer
abbrev pub is_within : ℕ → Place → Bool
is_within end p = nat_le 8 p.offset && nat_le (p.offset + p.length) end

abbrev pub with_places : ℕ → Option Footer → Result Footer DiskFault
with_places end None = Err fault.Footer
with_places end (Some f) = if list_all (is_within end) (values_of f.places) then Ok f else Err fault.Place

-- what a footer with its digest says that begins here
abbrev pub footer_from : ℕ → List ℕ → Result Footer DiskFault
footer_from start bytes = step (λ footer. with_places start (footer_of footer)) (unsealed bytes)

-- the footer of a file
abbrev pub content_of : List ℕ → Result Footer DiskFault
content_of bytes = step (λ _. step (λ start. footer_from start (sealed_bytes bytes start)) (footer_start bytes)) (marks_of bytes)
