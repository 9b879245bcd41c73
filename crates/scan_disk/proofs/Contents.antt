-- What the whole of a file says, by its parts.
use Rattle.std.proofs.Common.{◌≡◌, ℕ, ◌+◌, ◌-◌, ◌≤◌, List, length, take, drop, Bool, true, false, sym, ap, ◌∙◌, arith, cond}
use Rattle.std.specs.Prelude.{Option, None, Some, IfSome, Result, Ok, Err, nat_le}
use Rattle.std.specs.Str.{bytes_eq}
use Rattle.std.proofs.lemmas.Bool.Decides.{nat_tests}
use Rattle.sha2.specs.Sha256.{sha256}
use Rattle.scan_disk.specs.BytesAt.{part_at}
use Rattle.scan_disk.specs.Contents.{marks_of, footer_start, sealed_bytes, with_digest, with_places, footer_from, content_of}
use Rattle.scan_disk.specs.Footers.{footer_of}
use Rattle.scan_disk.specs.Given.{IsGiven, step}
use Rattle.scan_disk.specs.Segments.{or_place}
use Rattle.scan_disk.specs.declared.fault.DiskFault.{DiskFault}
use Rattle.scan_disk.specs.declared.fault.DiskFault.TheVariants as fault
use Rattle.scan_disk.specs.declared.footer.Footer.{Footer as Content}
use Rattle.scan_disk.proofs.Givens.{told_by, told_four, given_of}

-- a part that is within the file is there
part_within : (offset n : ℕ) (bytes : List ℕ) → offset + n ≤ length bytes → part_at offset n bytes ≡ Some (take n (drop offset bytes))
part_within offset n bytes h =
    let yes : nat_le (offset + n) (length bytes) ≡ true = grind (arith, nat_tests) in
    ap (λ b. cond b (Some (take n (drop offset bytes))) None) yes

-- a file whose magics are there goes on with its footer
content_marked : (bytes : List ℕ) → marks_of bytes ≡ Ok tt → content_of bytes ≡ step (λ start. footer_from start (sealed_bytes bytes start)) (footer_start bytes)
content_marked bytes h = ap (step (λ _. step (λ start. footer_from start (sealed_bytes bytes start)) (footer_start bytes))) h

-- what the footer's bytes say, with those of its digest, is what the file says
content_from : (bytes found : List ℕ) (start : ℕ) → marks_of bytes ≡ Ok tt → footer_start bytes ≡ Ok start
    → or_place (part_at start (length bytes - 16 - start) bytes) ≡ Ok found → start ≤ length bytes - 16
    → content_of bytes ≡ footer_from start found
content_from bytes found start m s p b =
    let there = part_within start (length bytes - 16 - start) bytes (omega arith) in
    let same : Ok (sealed_bytes bytes start) ≡ Ok found = sym (ap or_place there) ∙ p in
    let bytes_same : sealed_bytes bytes start ≡ found = cc in
    content_marked bytes m ∙ ap (step (λ k. footer_from k (sealed_bytes bytes k))) s ∙ ap (footer_from start) bytes_same

-- how many bytes it has
pub size_is : (told : Option (List ℕ)) (n : ℕ) → IfSome told (λ bytes. ◌≡◌ {A = Result ℕ DiskFault} (Ok (length bytes)) (Ok n)) → IfSome told (λ bytes. length bytes ≡ n)
size_is told n h = told_by told (λ bytes. ◌≡◌ {A = Result ℕ DiskFault} (Ok (length bytes)) (Ok n)) (λ bytes. length bytes ≡ n) (λ bytes e. cc) h

-- what is read of its footer's bytes is what it says
pub content_given : (told : Option (List ℕ)) (b : Bool) (size start : ℕ) (found : List ℕ) (r : Result Content DiskFault) → 56 ≤ size → start ≤ size - 48
    → IfSome told (λ bytes. length bytes ≡ size) → IfSome told (λ bytes. marks_of bytes ≡ Ok tt) → IfSome told (λ bytes. footer_start bytes ≡ Ok start)
    → IfSome told (λ bytes. or_place (part_at start (size - 16 - start) bytes) ≡ Ok found)
    → IsGiven {T = Content} (Some found) false (footer_from start) r → IsGiven {T = Content} told b content_of r
content_given told b size start found r f k s m t p h = given_of told b found (footer_from start) content_of r
    (told_four told (λ bytes. length bytes ≡ size) (λ bytes. marks_of bytes ≡ Ok tt) (λ bytes. footer_start bytes ≡ Ok start) (λ bytes. or_place (part_at start (size - 16 - start) bytes) ≡ Ok found)
    (λ bytes. content_of bytes ≡ footer_from start found)
    (λ bytes es em et ep. content_from bytes found start em et (ap (λ n. or_place (part_at start (n - 16 - start) bytes)) es ∙ ep) (omega arith)) s m t p) h

-- ---- a footer and its digest
module _ (bytes text digest : List ℕ) (start : ℕ) (t : text ≡ take (length bytes - 32) bytes) (d : digest ≡ drop (length bytes - 32) bytes) where
  sealed : with_digest digest text ≡ with_digest (drop (length bytes - 32) bytes) (take (length bytes - 32) bytes)
  sealed = ap (λ z. with_digest z text) d ∙ ap (with_digest (drop (length bytes - 32) bytes)) t

  -- another digest
  pub unsealed_not : bytes_eq (sha256 text) digest ≡ false → footer_from start bytes ≡ Err fault.FooterDigest
  unsealed_not no' = ap (step (λ footer. with_places start (footer_of footer))) (sym sealed ∙ ap (λ b. cond b (Ok text) (Err fault.FooterDigest)) no')

  -- its own
  pub unsealed_says : (r : Result Content DiskFault) → bytes_eq (sha256 text) digest ≡ true → IsGiven {T = Content} (Some text) false (λ z. with_places start (footer_of z)) r
      → IsGiven {T = Content} (Some bytes) false (footer_from start) r
  unsealed_says r yes' h =
      given_of (Some bytes) false text (λ z. with_places start (footer_of z)) (footer_from start) r
      (ap (step (λ footer. with_places start (footer_of footer))) (sym sealed ∙ ap (λ b. cond b (Ok text) (Err fault.FooterDigest)) yes')) h
