-- How a fault of a file is kept.
use Rattle.std.specs.Prelude.{◌≡◌, ℕ, ◌==◌, refl, if◌then◌else◌}
use Rattle.std.specs.Coded.{Coded, code_by, coded_ℕ}
use Rattle.scan_disk.specs.declared.fault.DiskFault.{DiskFault}
use Rattle.scan_disk.specs.declared.fault.DiskFault.TheVariants.{Short, Magic, FooterLength, FooterDigest, Footer, Place, NoSegment, Digest, Failed, NoMemory}

abbrev pub number_of_fault : DiskFault → ℕ
number_of_fault Short = 0
number_of_fault Magic = 1
number_of_fault FooterLength = 2
number_of_fault FooterDigest = 3
number_of_fault Footer = 4
number_of_fault Place = 5
number_of_fault NoSegment = 6
number_of_fault Digest = 7
number_of_fault Failed = 8
number_of_fault NoMemory = 9

abbrev pub fault_numbered : ℕ → DiskFault
fault_numbered n =
    if n == 0 then Short else (if n == 1 then Magic else (if n == 2 then FooterLength else (if n == 3 then FooterDigest else (if n == 4 then Footer else
    (if n == 5 then Place else (if n == 6 then NoSegment else (if n == 7 then Digest else (if n == 8 then Failed else NoMemory))))))))

pub fault-again : (f : DiskFault) → fault_numbered (number_of_fault f) ≡ f
fault-again Short = refl
fault-again Magic = refl
fault-again FooterLength = refl
fault-again FooterDigest = refl
fault-again Footer = refl
fault-again Place = refl
fault-again NoSegment = refl
fault-again Digest = refl
fault-again Failed = refl
fault-again NoMemory = refl

abbrev pub fault_code : Coded DiskFault
fault_code = code_by ℕ coded_ℕ number_of_fault fault_numbered fault-again
