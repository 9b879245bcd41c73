-- A poll of an opener of a file, by what was read.
use Rattle.std.proofs.Common.{◌≡◌, ◌≢◌, ℕ, ◌≤◌, List, Bool, true, false, refl, ap, subst}
use Rattle.std.specs.Prelude.{◌||◌, not, is_some, Option, None, Some, Err}
use Rattle.std.proofs.Math.Nat.{le_refl}
use Rattle.scan_segments.specs.Faults.{RaisedBy}
use Rattle.scan_opener.specs.Opener.{PolledOnce}
use Rattle.scan_disk.specs.Contents.{content_of}
use Rattle.scan_disk.specs.Given.{IsGiven}
use Rattle.scan_disk.specs.OpenerView.{OpenerView, given_by, given_in, opener_state}
use Rattle.scan_disk.specs.declared.fault.DiskFault.{DiskFault}
use Rattle.scan_disk.specs.declared.fault.DiskFault.TheVariants.{Failed, NoMemory}
use Rattle.scan_disk.specs.declared.footer.Footer.{Footer as Content}
use Rattle.scan_disk.proofs.Polls.{refusal_of}

-- a file is refused only where a read can fail, or where it is not whole as far as it tells
pub refused_can : (told : Option (List ℕ)) (b : Bool) (e : DiskFault) → e ≢ NoMemory → IsGiven {T = Content} told b content_of (Err e) → (b || not (is_some (given_in told))) ≡ true
refused_can told true e room h = refl
refused_can None false e room h = refl
refused_can (Some bytes) false e room h =
    let read : e ≢ Failed = λ q. (let no' : false ≡ true = subst (λ z. IsGiven {T = Content} (Some bytes) false content_of (Err z)) q h in absurd cc) in
    let refused : content_of bytes ≡ Err e = refusal_of (Some bytes) false content_of e read room h in
    ap (λ r. not (is_some (given_by r))) refused

module _ {F : Type 0} (bytes : F → Option (List ℕ)) (can_fail : F → Bool) where
  -- nothing else changed than the last refusal and the counts
  pub polled : (s v : OpenerView F) (refused : Option DiskFault) (faults polls : ℕ) → v ≡ s → s.faults ≤ faults → RaisedBy 1 s.polls polls → s.polls ≤ polls
      → PolledOnce (opener_state bytes can_fail s) (opener_state bytes can_fail (record v { refused = refused; faults = faults; polls = polls }))
  polled s v refused faults polls e more raised grows = record {
    gives = ap (λ (u : OpenerView F). given_in (bytes u.file)) e;
    faults = more;
    turns = le_refl 0;
    polled = raised;
    polled_grows = grows;
    can_fail = ap (λ (u : OpenerView F). can_fail u.file || not (is_some (given_in (bytes u.file)))) e;
  }
