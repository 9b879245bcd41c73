-- What reading a part of a file may answer, by what the file's bytes say.
use Rattle.std.specs.Prelude.{◌≡◌, ℕ, List, Bool, true, Option, IfSome, Result, Ok, Err}
use Rattle.scan_disk.specs.declared.fault.DiskFault.{DiskFault}
use Rattle.scan_disk.specs.declared.fault.DiskFault.TheVariants.{Short, Magic, FooterLength, FooterDigest, Footer, Place, NoSegment, Digest, Failed, NoMemory}

-- what the bytes say, as far as the file tells; a read fails only where one can, and want of memory may come at any time
abbrev pub IsGiven : {T : Type 0} → Option (List ℕ) → Bool → (List ℕ → Result T DiskFault) → Result T DiskFault → Type 0
IsGiven told can_fail says (Ok x) = IfSome told (λ bytes. says bytes ≡ Ok x)
IsGiven told can_fail says (Err Short) = IfSome told (λ bytes. says bytes ≡ Err Short)
IsGiven told can_fail says (Err Magic) = IfSome told (λ bytes. says bytes ≡ Err Magic)
IsGiven told can_fail says (Err FooterLength) = IfSome told (λ bytes. says bytes ≡ Err FooterLength)
IsGiven told can_fail says (Err FooterDigest) = IfSome told (λ bytes. says bytes ≡ Err FooterDigest)
IsGiven told can_fail says (Err Footer) = IfSome told (λ bytes. says bytes ≡ Err Footer)
IsGiven told can_fail says (Err Place) = IfSome told (λ bytes. says bytes ≡ Err Place)
IsGiven told can_fail says (Err NoSegment) = IfSome told (λ bytes. says bytes ≡ Err NoSegment)
IsGiven told can_fail says (Err Digest) = IfSome told (λ bytes. says bytes ≡ Err Digest)
IsGiven told can_fail says (Err Failed) = can_fail ≡ true
IsGiven told can_fail says (Err NoMemory) = Unit {0}

-- what the next step says, where the one before it says something
abbrev pub step : {A B : Type 0} → (A → Result B DiskFault) → Result A DiskFault → Result B DiskFault
step f (Ok x) = f x
step f (Err e) = Err e
