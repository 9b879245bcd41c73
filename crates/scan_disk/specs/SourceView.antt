-- A source over a file, as contracts see it.
use Rattle.std.specs.Prelude.{◌≡◌, ℕ, List, Bool, Option, Some, IfSome, Err, refl}
use Rattle.std.specs.Coded.{Coded, code_by, coded_list, coded×, coded_ℕ, coded_bool, coded_option}
use Rattle.scan_segments.specs.Requests.{Requested, source_of}
use Rattle.scan_segments.specs.Source.{SourceState}
use Rattle.scan_segments.specs.declared.source.Polled.{Polled}
use Rattle.scan_segments.specs.declared.source.Polled.TheVariants as polled
use Rattle.scan_disk.specs.Faults.{fault_code}
use Rattle.scan_disk.specs.Places.{places_code}
use Rattle.scan_disk.specs.Segments.{segment_of, store_of}
use Rattle.scan_disk.specs.declared.fault.DiskFault.{DiskFault}
use Rattle.scan_disk.specs.declared.place.Place.{Place}

pub record SourceView (F : Type 0) : Type 0 where
  pub file : F
  -- whether a segment is given only where it has the digest that the footer tells
  pub checks : Bool
  -- where the segments stand, if that is known
  pub known : Option (List (ℕ × Place))
  -- the segment that was refused last, and why
  pub refused : Option (ℕ × DiskFault)
  pub requests : Requested
  -- how often a read failed, up to the greatest number that is kept
  pub faults : ℕ

abbrev pub Parts : Type 0 → Type 0
Parts F = (F × (Bool × Option (List (ℕ × Place)))) × (Option (ℕ × DiskFault) × ((List ℕ × List ℕ) × ℕ))

abbrev pub parts : {F : Type 0} → SourceView F → Parts F
parts s = ((s.file, (s.checks, s.known)), (s.refused, ((s.requests.asked, s.requests.live), s.faults)))

abbrev pub of_parts : {F : Type 0} → Parts F → SourceView F
of_parts p = record {
  file = p.0.0;
  checks = p.0.1.0;
  known = p.0.1.1;
  refused = p.1.0;
  requests = record { asked = p.1.1.0.0; live = p.1.1.0.1 };
  faults = p.1.1.1;
}

abbrev pub source_code : {F : Type 0} → Coded F → Coded (SourceView F)
source_code {F} f = code_by (Parts F) (coded× (coded× f (coded× coded_bool (coded_option places_code)))
    (coded× (coded_option (coded× coded_ℕ fault_code)) (coded× (coded× (coded_list coded_ℕ) (coded_list coded_ℕ)) coded_ℕ)))
    parts of_parts (λ _. refl)

module _ {F : Type 0} (bytes : F → Option (List ℕ)) (can_fail : F → Bool) where
  -- it holds what its file tells, and puts no answer off
  abbrev pub state_of : SourceView F → SourceState
  state_of s = source_of s.requests (store_of s.checks s.known (bytes s.file)) s.faults 0 (can_fail s.file)

  -- why a segment is not given, as far as the file tells
  abbrev pub IsRefusal : ℕ → SourceView F → DiskFault → Type 0
  IsRefusal id s e = IfSome (bytes s.file) (λ told. segment_of s.checks s.known id told ≡ Err e)

  -- a segment that is missing has its cause beside it
  abbrev pub TellsCause : ℕ → SourceView F → SourceView F → Polled → Type 0
  TellsCause id old new polled.Missing = (e : DiskFault) × (new.refused ≡ Some (id, e)) × IsRefusal id old e
  TellsCause id old new polled.Pending = ⊥
  TellsCause id old new (polled.Bytes found) = new.refused ≡ old.refused
  TellsCause id old new polled.Failed = new.refused ≡ old.refused
  TellsCause id old new polled.NoMemory = new.refused ≡ old.refused
