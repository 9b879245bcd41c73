-- What reading a part of a file answers, carried over to the whole.
use Rattle.std.proofs.Common.{◌≡◌, ℕ, List, Bool, true, false, ◌∙◌}
use Rattle.std.specs.Prelude.{Option, None, Some, IfSome, Result, Ok, Err}
use Rattle.scan_disk.specs.Given.{IsGiven}
use Rattle.scan_disk.specs.declared.fault.DiskFault.{DiskFault}
use Rattle.scan_disk.specs.declared.fault.DiskFault.TheVariants.{Short, Magic, FooterLength, FooterDigest, Footer, Place, NoSegment, Digest, Failed, NoMemory}

-- a fact of what is told
pub told_by : {T : Type 0} (o : Option T) (P Q : T → Type 0) → ((x : T) → P x → Q x) → IfSome o P → IfSome o Q
told_by None P Q h p = tt
told_by (Some x) P Q h p = h x p

-- one that follows from four
pub told_four : {T : Type 0} (o : Option T) (P Q R S U : T → Type 0) → ((x : T) → P x → Q x → R x → S x → U x) → IfSome o P → IfSome o Q → IfSome o R → IfSome o S → IfSome o U
told_four None P Q R S U h p q r s = tt
told_four (Some x) P Q R S U h p q r s = h x p q r s

says : {A : Type 0} (told : Option (List ℕ)) (g : List ℕ → Result A DiskFault) (x y : Result A DiskFault) → x ≡ y → IfSome told (λ all. g all ≡ x) → IfSome told (λ all. g all ≡ y)
says told g x y e h = told_by told (λ all. g all ≡ x) (λ all. g all ≡ y) (λ all q. q ∙ e) h

-- what some bytes say is what the file says, where that is so as far as it tells
pub given_of : {A : Type 0} (told : Option (List ℕ)) (can_fail : Bool) (bytes : List ℕ) (f g : List ℕ → Result A DiskFault) (r : Result A DiskFault)
    → IfSome told (λ all. g all ≡ f bytes) → IsGiven (Some bytes) false f r → IsGiven told can_fail g r
given_of told b bytes f g (Ok x) h p = says told g (f bytes) (Ok x) p h
given_of told b bytes f g (Err Short) h p = says told g (f bytes) (Err Short) p h
given_of told b bytes f g (Err Magic) h p = says told g (f bytes) (Err Magic) p h
given_of told b bytes f g (Err FooterLength) h p = says told g (f bytes) (Err FooterLength) p h
given_of told b bytes f g (Err FooterDigest) h p = says told g (f bytes) (Err FooterDigest) p h
given_of told b bytes f g (Err Footer) h p = says told g (f bytes) (Err Footer) p h
given_of told b bytes f g (Err Place) h p = says told g (f bytes) (Err Place) p h
given_of told b bytes f g (Err NoSegment) h p = says told g (f bytes) (Err NoSegment) p h
given_of told b bytes f g (Err Digest) h p = says told g (f bytes) (Err Digest) p h
given_of told b bytes f g (Err Failed) h p = let same : false ≡ true = p in cc
given_of told b bytes f g (Err NoMemory) h p = tt
