-- The segments of a file.
use Rattle.std.specs.Prelude.{ℕ, ◌&&◌, not, List, Bool, Option, None, Some, option_map, Result, Ok, Err, ⊤, if◌then◌else◌}
use Rattle.std.specs.Result.{result_ok}
use Rattle.scan_disk.specs.Given.{step}
use Rattle.std.specs.Str.{bytes_eq}
use Rattle.sha2.specs.Sha256.{sha256}
use Rattle.scan_segments.specs.Source.{Store}
use Rattle.scan_disk.specs.BytesAt.{part_at}
use Rattle.scan_disk.specs.Contents.{content_of}
use Rattle.scan_disk.specs.Places.{place_at}
use Rattle.scan_disk.specs.declared.fault.DiskFault.{DiskFault}
use Rattle.scan_disk.specs.declared.fault.DiskFault.TheVariants as fault
use Rattle.scan_disk.specs.declared.place.Place.{Place}

-- the bytes of a place, where there are such
abbrev pub or_place : Option (List ℕ) → Result (List ℕ) DiskFault
or_place None = Err fault.Place
or_place (Some bytes) = Ok bytes

-- the bytes of a segment, where their digest is the one that is told, if it is asked for
abbrev pub checked : Bool → List ℕ → List ℕ → Result (List ℕ) DiskFault
checked checks digest bytes = if checks && not (bytes_eq (sha256 bytes) digest) then Err fault.Digest else Ok bytes

abbrev pub at_place : Bool → List ℕ → Option Place → Result (List ℕ) DiskFault
at_place checks bytes None = Err fault.NoSegment
at_place checks bytes (Some p) = step (checked checks p.digest) (or_place (part_at p.offset p.length bytes))

-- the places of a file, where they are not known yet
abbrev pub places_of : Option (List (ℕ × Place)) → List ℕ → Result (List (ℕ × Place)) DiskFault
places_of (Some places) bytes = Ok places
places_of None bytes = step (λ f. Ok f.places) (content_of bytes)

-- whether they are known
abbrev pub known_of : Result (List (ℕ × Place)) DiskFault → Result ⊤ DiskFault
known_of r = step (λ _. Ok tt) r

-- a segment of a file
abbrev pub segment_of : Bool → Option (List (ℕ × Place)) → ℕ → List ℕ → Result (List ℕ) DiskFault
segment_of checks known id bytes = step (λ places. at_place checks bytes (place_at places id)) (places_of known bytes)

-- the segments of a file, where the file tells
abbrev pub store_of : Bool → Option (List (ℕ × Place)) → Option (List ℕ) → Option Store
store_of checks known told = option_map (λ bytes id. result_ok (segment_of checks known id bytes)) told
