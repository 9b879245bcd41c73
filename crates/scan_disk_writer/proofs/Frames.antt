-- A file that is written, by its parts.
use Rattle.std.proofs.Common.{◌≡◌, ℕ, zero, suc, ◌+◌, ◌-◌, ◌^◌, ◌≤◌, ◌<◌, Bool, true, false, ◌&&◌, not, cond, List, [], ◌∷◌, ◌++◌, length, take, drop, refl, sym, ap, ap₂, ◌∙◌, arith, append_assoc, length-append}
use Rattle.std.specs.Prelude.{None, Some, slice_get, nat_le, nat_lt, Ok, Err}
use Rattle.std.specs.Int.{w64, to_le_bytes, from_le_bytes}
use Rattle.std.specs.List.{list_all}
use Rattle.std.specs.Map.{values_of}
use Rattle.std.specs.Str.{bytes_eq}
use Rattle.std.proofs.lemmas.Bool.Decides.{nat_tests}
use Rattle.std.proofs.lemmas.List.{take_at, drop_at}
use Rattle.std.proofs.lemmas.Nat.{from_le_bytes-to_le_bytes_8}
use Rattle.std.proofs.lemmas.Slice.Eq.{bytes_eq-Decides}
use Rattle.sha2.specs.Sha256.{sha256}
use Rattle.sha2.proofs.Facts256.{length-sha256}
use Rattle.scan_disk.specs.BytesAt.{part_at}
use Rattle.scan_disk.specs.Contents.{magic, word_at, marks_of, stated_length, footer_start, sealed_bytes, with_digest, unsealed, is_within, with_places, footer_from, content_of}
use Rattle.scan_disk.specs.Footers.{footer_of}
use Rattle.scan_disk.specs.Given.{step}
use Rattle.scan_disk.specs.Segments.{or_place, checked, at_place}
use Rattle.scan_disk.specs.declared.fault.DiskFault.TheVariants as fault
use Rattle.scan_disk.specs.declared.footer.Footer.{Footer}
use Rattle.scan_disk_writer.specs.FileBytes.{joined, places_from, sealed, framed, numbered, or_none}

-- ---- segments at their places
same_bytes : (xs : List ℕ) → bytes_eq xs xs ≡ true
same_bytes xs = (bytes_eq-Decides xs xs).1 refl

checked_same : (checks : Bool) (s : List ℕ) → checked checks (sha256 s) s ≡ Ok s
checked_same true s = ap (λ b. cond (not b) (Err fault.Digest) (Ok s)) (same_bytes (sha256 s))
checked_same false s = refl

part_here : (bytes front s rest : List ℕ) (at : ℕ) → bytes ≡ front ++ (s ++ rest) → at ≡ length front → part_at at (length s) bytes ≡ Some s
part_here bytes front s rest at e a =
    let d : drop at bytes ≡ s ++ rest = ap (drop at) e ∙ drop_at front (s ++ rest) at (sym a) in
    let t : take (length s) (drop at bytes) ≡ s = ap (take (length s)) d ∙ take_at s rest (length s) refl in
    let n = ap length e in
    let yes : nat_le (at + length s) (length bytes) ≡ true =
    let q : at + length s ≤ length bytes = omega (arith, n, a, length-append front (s ++ rest), length-append s rest) in grind (arith, nat_tests) in
    ap (λ b. cond b (Some (take (length s) (drop at bytes))) None) yes ∙ ap Some t

-- each segment is found at its place
pub segment_here : (segments : List (List ℕ)) (bytes front rest : List ℕ) (at : ℕ) (checks : Bool) (id : ℕ) → bytes ≡ front ++ (joined segments ++ rest) → at ≡ length front
    → at_place checks bytes (slice_get (places_from at segments) id) ≡ or_none (slice_get segments id)
segment_here [] bytes front rest at checks id e a = refl
segment_here (s ∷ segments) bytes front rest at checks zero e a =
    let there = e ∙ ap (λ z. front ++ z) (append_assoc s (joined segments) rest) in
    ap (λ o. step (checked checks (sha256 s)) (or_place o)) (part_here bytes front s (joined segments ++ rest) at there a) ∙ checked_same checks s
segment_here (s ∷ segments) bytes front rest at checks (suc id) e a =
    segment_here segments bytes (front ++ s) rest (at + length s) checks id
    (e ∙ (ap (λ z. front ++ z) (append_assoc s (joined segments) rest) ∙ sym (append_assoc front s (joined segments ++ rest)))) (omega (arith, a, length-append front s))

-- ---- each place is within the body
places_within : (segments : List (List ℕ)) (at id end : ℕ) → 8 ≤ at → at + length (joined segments) ≤ end → list_all (is_within end) (values_of (numbered id (places_from at segments))) ≡ true
places_within [] at id end h l = refl
places_within (s ∷ segments) at id end h l =
    let n = length-append s (joined segments) in
    let a : nat_le 8 at ≡ true = grind (arith, nat_tests) in
    let b : nat_le (at + length s) end ≡ true = let q : at + length s ≤ end = omega (arith, n, l) in grind (arith, nat_tests) in
    let c = places_within segments (at + length s) (suc id) end (omega (arith, h)) (omega (arith, n, l)) in
    let d : (nat_le 8 at && nat_le (at + length s) end) ≡ true = ap (λ z. z && nat_le (at + length s) end) a ∙ b in
    ap (λ z. z && list_all (is_within end) (values_of (numbered (suc id) (places_from (at + length s) segments)))) d ∙ c

-- ---- a footer and its digest
unsealed_again : (footer : List ℕ) → unsealed (sealed footer) ≡ Ok footer
unsealed_again footer =
    let n = length-append footer (sha256 footer) in
    let l : length footer ≡ length (sealed footer) - 32 = omega (arith, n, length-sha256 footer) in
    let t : take (length (sealed footer) - 32) (sealed footer) ≡ footer = take_at footer (sha256 footer) (length (sealed footer) - 32) l in
    let d : drop (length (sealed footer) - 32) (sealed footer) ≡ sha256 footer = drop_at footer (sha256 footer) (length (sealed footer) - 32) l in
    ap₂ with_digest d t ∙ ap (λ b. cond b (Ok footer) (Err fault.FooterDigest)) (same_bytes (sha256 footer))

-- ---- the frame, of a body, of what ends it, and of the word before the last magic
module _ (body end word : List ℕ) (word_length : length word ≡ 8) (n : ℕ) (end_length : length end ≡ n + 32) (told : from_le_bytes w64 word ≡ n) where
  abbrev whole : List ℕ
  whole = magic ++ (body ++ (end ++ (word ++ magic)))

  size_is : length whole ≡ length body + n + 56
  size_is =
      omega (
        arith,
        length-append magic (body ++ (end ++ (word ++ magic))),
        length-append body (end ++ (word ++ magic)),
        length-append end (word ++ magic),
        length-append word magic,
        word_length,
        end_length,
      )

  -- split before the footer, behind its digest, and before the last magic
  at_footer : whole ≡ (magic ++ body) ++ (end ++ (word ++ magic))
  at_footer = sym (append_assoc magic body (end ++ (word ++ magic)))

  at_word : whole ≡ ((magic ++ body) ++ end) ++ (word ++ magic)
  at_word = at_footer ∙ sym (append_assoc (magic ++ body) end (word ++ magic))

  at_magic : whole ≡ (((magic ++ body) ++ end) ++ word) ++ magic
  at_magic = at_word ∙ sym (append_assoc ((magic ++ body) ++ end) word magic)

  first_word : word_at 0 whole ≡ magic
  first_word = take_at magic (body ++ (end ++ (word ++ magic))) 8 refl

  last_word : word_at (length whole - 8) whole ≡ magic
  last_word =
      let front = (((magic ++ body) ++ end) ++ word) in
      let s = ap length at_magic in
      let l : length front ≡ length whole - 8 = omega (arith, s, length-append front magic) in
      ap (λ z. take 8 (drop (length whole - 8) z)) at_magic ∙ ap (take 8) (drop_at front magic (length whole - 8) l)

  marks_are : marks_of whole ≡ Ok tt
  marks_are =
      let s = size_is in
      let no' : nat_lt (length whole) 56 ≡ false = grind (arith, nat_tests) in
      let a : bytes_eq (word_at 0 whole) magic ≡ true = ap (λ z. bytes_eq z magic) first_word in
      let b : bytes_eq (word_at (length whole - 8) whole) magic ≡ true = ap (λ z. bytes_eq z magic) last_word in
      let both : (bytes_eq (word_at 0 whole) magic && bytes_eq (word_at (length whole - 8) whole) magic) ≡ true =
      ap (λ z. z && bytes_eq (word_at (length whole - 8) whole) magic) a ∙ b in
      ap (λ z. cond z (Err fault.Short) (cond (bytes_eq (word_at 0 whole) magic && bytes_eq (word_at (length whole - 8) whole) magic) (Ok tt) (Err fault.Magic))) no'
      ∙ ap (λ z. cond z (Ok tt) (Err fault.Magic)) both

  stated_is : stated_length whole ≡ n
  stated_is =
      let front = (magic ++ body) ++ end in
      let s = ap length at_word in
      let l : length front ≡ length whole - 16 = omega (arith, s, length-append front (word ++ magic), length-append word magic, word_length) in
      let d : drop (length whole - 16) whole ≡ word ++ magic =
      ap (drop (length whole - 16)) at_word ∙ drop_at front (word ++ magic) (length whole - 16) l in
      ap (λ z. from_le_bytes w64 (take 8 z)) d ∙ (ap (from_le_bytes w64) (take_at word magic 8 word_length) ∙ told)

  start_is : footer_start whole ≡ Ok (8 + length body)
  start_is =
      let s = size_is in
      let m = stated_is in
      let no' : nat_lt (length whole - 56) (stated_length whole) ≡ false =
      let q : stated_length whole ≤ length whole - 56 = omega (arith, s, m) in grind (arith, nat_tests) in
      let k : length whole - 48 - stated_length whole ≡ 8 + length body = omega (arith, s, m) in
      ap (λ z. cond z (Err fault.FooterLength) (Ok (length whole - 48 - stated_length whole))) no' ∙ ap Ok k

  end_is : sealed_bytes whole (8 + length body) ≡ end
  end_is =
      let s = size_is in
      let l : length (magic ++ body) ≡ 8 + length body = length-append magic body in
      let d : drop (8 + length body) whole ≡ end ++ (word ++ magic) =
      ap (drop (8 + length body)) at_footer ∙ drop_at (magic ++ body) (end ++ (word ++ magic)) (8 + length body) l in
      let k : length whole - 16 - (8 + length body) ≡ length end = omega (arith, s, end_length) in
      ap₂ take k d ∙ take_at end (word ++ magic) (length end) refl

  content_whole : content_of whole ≡ footer_from (8 + length body) end
  content_whole =
      let bytes = magic ++ (body ++ (end ++ (word ++ magic))) in
      ap (step (λ _. step (λ start. footer_from start (sealed_bytes bytes start)) (footer_start bytes))) marks_are
      ∙ (ap (step (λ start. footer_from start (sealed_bytes bytes start))) start_is
      ∙ ap (footer_from (8 + length body)) end_is)

-- what a file says is what its footer says
pub content_is : (body footer : List ℕ) → length footer < 2 ^ 64 → content_of (framed body footer) ≡ with_places (8 + length body) (footer_of footer)
content_is body footer short =
    content_whole body (sealed footer) (to_le_bytes w64 (length footer)) refl (length footer) (omega (arith, length-append footer (sha256 footer), length-sha256 footer)) (from_le_bytes-to_le_bytes_8 (length footer) short)
    ∙ ap (step (λ z. with_places (8 + length body) (footer_of z))) (unsealed_again footer)

-- a footer that names the segments in order
pub all_within : (segments : List (List ℕ)) (f : Footer) → f.places ≡ numbered 0 (places_from 8 segments) → with_places (8 + length (joined segments)) (Some f) ≡ Ok f
all_within segments f e =
    let yes : list_all (is_within (8 + length (joined segments))) (values_of f.places) ≡ true =
    ap (λ z. list_all (is_within (8 + length (joined segments))) (values_of z)) e ∙ places_within segments 8 0 (8 + length (joined segments)) (omega arith) (omega arith) in
    ap (λ b. cond b (Ok f) (Err fault.Place)) yes
