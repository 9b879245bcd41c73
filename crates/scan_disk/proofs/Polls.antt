-- What a poll of a source of a file does to it, by what was read.
use Rattle.std.proofs.Common.{◌≡◌, ℕ, ◌≤◌, List, Bool, refl, ap, ◌∙◌, subst}
use Rattle.std.specs.Prelude.{Option, None, Some, IfSome, Result, Ok, Err}
use Rattle.std.specs.Result.{result_ok}
use Rattle.std.proofs.Math.Nat.{le_refl}
use Rattle.scan_segments.specs.Requests.{Requested, is_live, without_request}
use Rattle.scan_segments.specs.Source.{Stays, Ends, without_live}
use Rattle.scan_disk.specs.Given.{IsGiven, step}
use Rattle.scan_disk.specs.Places.{place_at}
use Rattle.scan_disk.specs.Segments.{at_place, places_of, segment_of, store_of}
use Rattle.scan_disk.specs.SourceView.{SourceView, state_of}
use Rattle.scan_disk.specs.declared.fault.DiskFault.{DiskFault}
use Rattle.scan_disk.specs.declared.fault.DiskFault.TheVariants.{Short, Magic, FooterLength, FooterDigest, Footer, Place, NoSegment, Digest, Failed, NoMemory}
use Rattle.scan_disk.specs.declared.place.Place.{Place as Entry}

-- places that mean the same hold the same
store_same : (checks : Bool) (k k' : Option (List (ℕ × Entry))) (told : Option (List ℕ)) → IfSome told (λ bytes. places_of k' bytes ≡ places_of k bytes) → store_of checks k' told ≡ store_of checks k told
store_same checks k k' None h = refl
store_same checks k k' (Some bytes) h = ap (λ r. Some (λ id. result_ok (step (λ places. at_place checks bytes (place_at places id)) r))) h

-- a segment that is given is held
pub tells_bytes : (checks : Bool) (k : Option (List (ℕ × Entry))) (told : Option (List ℕ)) (id : ℕ) (found : List ℕ) → IfSome told (λ bytes. segment_of checks k id bytes ≡ Ok found) → IfSome (store_of checks k told) (λ store. store id ≡ Some found)
tells_bytes checks k None id found h = tt
tells_bytes checks k (Some bytes) id found h = ap result_ok h

-- one that is refused is not
pub tells_none : (checks : Bool) (k : Option (List (ℕ × Entry))) (told : Option (List ℕ)) (id : ℕ) (e : DiskFault) → IfSome told (λ bytes. segment_of checks k id bytes ≡ Err e) → IfSome (store_of checks k told) (λ store. store id ≡ None)
tells_none checks k None id e h = tt
tells_none checks k (Some bytes) id e h = ap result_ok h

-- a refusal that is neither a failed read nor want of memory is what the bytes say
pub refusal_of : {T : Type 0} (told : Option (List ℕ)) (b : Bool) (f : List ℕ → Result T DiskFault) (e : DiskFault) → (e ≡ Failed → ⊥) → (e ≡ NoMemory → ⊥) → IsGiven told b f (Err e) → IfSome told (λ bytes. f bytes ≡ Err e)
refusal_of told b f Short read room h = h
refusal_of told b f Magic read room h = h
refusal_of told b f FooterLength read room h = h
refusal_of told b f FooterDigest read room h = h
refusal_of told b f Footer read room h = h
refusal_of told b f Place read room h = h
refusal_of told b f NoSegment read room h = h
refusal_of told b f Digest read room h = h
refusal_of told b f Failed read room h = absurd (read refl)
refusal_of told b f NoMemory read room h = absurd (room refl)

module _ {F : Type 0} (bytes : F → Option (List ℕ)) (can_fail : F → Bool) where
  -- the places may have been learnt, and nothing else happened
  pub stays : (s t : SourceView F) (k : Option (List (ℕ × Entry))) → t ≡ record s { known = k } → IfSome (bytes s.file) (λ told. places_of k told ≡ places_of s.known told) → Stays (state_of bytes can_fail s) (state_of bytes can_fail t)
  stays s t k e same = rw e (record {
    holds = store_same s.checks s.known k (bytes s.file) same;
    asked = refl;
    live = refl;
    faults = le_refl s.faults;
    turns = le_refl 0;
    can_fail = refl;
  })

  -- after that a request ended
  pub ends : (id : ℕ) (s v : SourceView F) (k : Option (List (ℕ × Entry))) (r : Requested) (refused : Option (ℕ × DiskFault)) (faults : ℕ)
      → v ≡ record s { known = k } → IfSome (bytes s.file) (λ told. places_of k told ≡ places_of s.known told) → r ≡ without_request id v.requests
      → is_live r ≡ without_live id (is_live v.requests) → v.faults ≤ faults → Ends id (state_of bytes can_fail s) (state_of bytes can_fail (record v { requests = r; refused = refused; faults = faults }))
  ends id s v k r refused faults e same ended live more = record {
    holds = ap (λ (u : SourceView F). store_of u.checks u.known (bytes u.file)) e ∙ store_same s.checks s.known k (bytes s.file) same;
    asked = ap (λ (q : Requested). q.asked) ended ∙ ap (λ (u : SourceView F). u.requests.asked) e;
    live = live ∙ ap (λ (u : SourceView F). without_live id (is_live u.requests)) e;
    faults = subst (λ (u : SourceView F). u.faults ≤ faults) e more;
    turns = le_refl 0;
    can_fail = ap (λ (u : SourceView F). can_fail u.file) e;
  }
