-- Where segments stand, written as JSON and read again.
use Rattle.std.proofs.Common.{◌≡◌, ℕ, zero, suc, ◌+◌, ◌-◌, ◌^◌, ◌≤◌, ◌<◌, true, cond, List, [], ◌∷◌, ◌++◌, length, refl, sym, ap, ◌∙◌, arith, append-nil, append_assoc}
use Rattle.std.specs.Prelude.{Option, None, Some, option_map, option_and_then, is_some, slice_get, slice_index, nat_le, Ok}
use Rattle.std.specs.Ordering.{nat_cmp, is_eq, match_ordering}
use Rattle.std.specs.declared.cmp.Ordering.TheVariants.{Equal, Greater}
use Rattle.std.specs.Cmp.{nat_cmp_is}
use Rattle.std.specs.Int.{w32, to_be_bytes}
use Rattle.std.specs.Result.{result_ok}
use Rattle.std.specs.BTreeMap.{insert_entry}
use Rattle.std.proofs.lemmas.Bool.Decides.{nat_tests}
use Rattle.serde_json.specs.Data.{number, unsigned, string}
use Rattle.serde_json.specs.View.{items_of}
use Rattle.hex.specs.Hex.{IsBytes, encode_lower, lower_digits, decode_sized}
use Rattle.hex.proofs.HexLemmas.{length-encode_with, decode_of-encode_lower, decode_sized-twice}
use Rattle.sha2.specs.Sha256.{sha256, digest_bytes, final_hash, initial_hash_256}
use Rattle.sha2.proofs.Facts256.{length-sha256}
use Rattle.scan_disk.specs.Places.{segment_in, place_of, place_at, segments_from}
use Rattle.scan_disk.specs.declared.place.Place.{Place}
use Rattle.scan_disk_writer.specs.Json.{json_of_place, json_of_places}
use Rattle.scan_disk_writer.specs.FileBytes.{numbered, places_from}

-- ---- entries by rising numbers
abbrev pub AllBelow : ℕ → List (ℕ × Place) → Type 0
AllBelow n [] = Unit {0}
AllBelow n (e ∷ es) = (e.0 < n) × AllBelow n es

below_more : (n : ℕ) (es : List (ℕ × Place)) (p : Place) → AllBelow n es → AllBelow (suc n) (es ++ (n, p) ∷ [])
below_more n [] p h = (omega arith, tt)
below_more n (e ∷ es) p h = (omega (arith, h.0), below_more n es p h.1)

greater : (n m : ℕ) → m < n → nat_cmp n m ≡ Greater
greater n m h = sym (nat_cmp_is n m Greater h)

insert_last : (n : ℕ) (es : List (ℕ × Place)) (p : Place) → AllBelow n es → insert_entry nat_cmp es n p ≡ es ++ (n, p) ∷ []
insert_last n [] p h = refl
insert_last n (e ∷ es) p h =
    ap (λ o. match_ordering o ((n, p) ∷ e ∷ es) ((e.0, p) ∷ es) (e ∷ insert_entry nat_cmp es n p)) (greater n e.0 h.0) ∙ ap (λ z. e ∷ z) (insert_last n es p h.1)

none_at : (n : ℕ) (es : List (ℕ × Place)) → AllBelow n es → place_at es n ≡ None
none_at n [] h = refl
none_at n (e ∷ es) h = ap (λ o. cond (is_eq o) (Some e.1) (place_at es n)) (greater n e.0 h.0) ∙ none_at n es h.1

-- ---- one segment
abbrev pub IsDigested : Place → Type 0
IsDigested p = IsBytes p.digest × (length p.digest ≡ 32)

hex_again : (xs : List ℕ) → IsBytes xs → length xs ≡ 32 → decode_sized (encode_lower xs) 32 ≡ Ok xs
hex_again xs b l =
    let len = length-encode_with lower_digits xs in
    decode_sized-twice (encode_lower xs) 32 (omega (arith, len, l)) ∙ decode_of-encode_lower xs b

place_again : (id : ℕ) (p : Place) → id < 2 ^ 32 → IsDigested p → segment_in (json_of_place id p) ≡ Some (id, p)
place_again id p h d =
    let yes : nat_le id (2 ^ 32 - 1) ≡ true = let q : id ≤ 2 ^ 32 - 1 = omega (arith, h) in grind (arith, nat_tests) in
    let found : place_of (number (unsigned p.offset), (number (unsigned p.length), string (encode_lower p.digest))) ≡ Some p =
    ap (λ r. option_map (λ k. record { offset = p.offset; length = p.length; digest = k }) (result_ok r)) (hex_again p.digest d.0 d.1) in
    ap (λ b. option_and_then (λ n. option_map (λ place. (n, place)) (place_of (number (unsigned p.offset), (number (unsigned p.length), string (encode_lower p.digest)))))
    (cond b (Some id) None)) yes ∙ ap (option_map (λ place. (id, place))) found

-- ---- all of them
abbrev pub AllDigested : List Place → Type 0
AllDigested [] = Unit {0}
AllDigested (p ∷ ps) = IsDigested p × AllDigested ps

pub places_again : (ps : List Place) (id : ℕ) (found : List (ℕ × Place)) → AllBelow id found → id + length ps ≤ 2 ^ 32 → AllDigested ps
    → segments_from found (items_of (json_of_places id ps)) ≡ Some (found ++ numbered id ps)
places_again [] id found b h d = ap Some (sym (append-nil found))
places_again (p ∷ ps) id found b h d =
    let rest : ℕ × Place → Option (List (ℕ × Place)) = λ s. cond (is_some (place_at found s.0)) None (segments_from (insert_entry nat_cmp found s.0 s.1) (items_of (json_of_places (suc id) ps))) in
    ap (option_and_then rest) (place_again id p (omega (arith, h)) d.0)
    ∙ (ap (λ o. cond (is_some o) None (segments_from (insert_entry nat_cmp found id p) (items_of (json_of_places (suc id) ps)))) (none_at id found b)
    ∙ (ap (λ z. segments_from z (items_of (json_of_places (suc id) ps))) (insert_last id found p b)
    ∙ (places_again ps (suc id) (found ++ (id, p) ∷ []) (below_more id found p b) (omega (arith, h)) d.1
    ∙ ap Some (append_assoc found ((id, p) ∷ []) (numbered (suc id) ps)))))

-- each is found by its number
pub at_number : (ps : List Place) (i j k : ℕ) → k ≡ i + j → place_at (numbered i ps) k ≡ slice_get ps j
at_number [] i j k e = refl
at_number (p ∷ ps) i zero k e =
    let same : Equal ≡ nat_cmp k i = nat_cmp_is k i Equal (omega (arith, e)) in
    ap (λ o. cond (is_eq o) (Some p) (place_at (numbered (suc i) ps) k)) (sym same)
at_number (p ∷ ps) i (suc j) k e =
    ap (λ o. cond (is_eq o) (Some p) (place_at (numbered (suc i) ps) k)) (greater k i (omega (arith, e))) ∙ at_number ps (suc i) j k (omega (arith, e))

-- ---- digests
abbrev AreBytes : List ℕ → Type 0
AreBytes [] = Unit {0}
AreBytes (b ∷ bs) = (b < 256) × AreBytes bs

bytes_append : (xs ys : List ℕ) → AreBytes xs → AreBytes ys → AreBytes (xs ++ ys)
bytes_append [] ys h k = k
bytes_append (x ∷ xs) ys h k = (h.0, bytes_append xs ys h.1 k)

each_byte : (xs : List ℕ) → AreBytes xs → IsBytes xs
each_byte [] h i = omega arith
each_byte (x ∷ xs) h zero = h.0
each_byte (x ∷ xs) h (suc i) = each_byte xs h.1 i

word_bytes : (n : ℕ) → AreBytes (to_be_bytes w32 n)
word_bytes n = (omega arith, (omega arith, (omega arith, (omega arith, tt))))

hash_bytes : (h : List ℕ) (n : ℕ) → AreBytes (digest_bytes h n)
unfolding digest_bytes
hash_bytes h zero = tt
hash_bytes h (suc n) = bytes_append (digest_bytes h n) (to_be_bytes w32 (slice_index h n)) (hash_bytes h n) (word_bytes (slice_index h n))

sha_bytes : (m : List ℕ) → IsBytes (sha256 m)
unfolding sha256
sha_bytes m = each_byte (digest_bytes (final_hash initial_hash_256 m) 8) (hash_bytes (final_hash initial_hash_256 m) 8)

pub digested : (at : ℕ) (segments : List (List ℕ)) → AllDigested (places_from at segments)
digested at [] = tt
digested at (s ∷ segments) = ((sha_bytes s, length-sha256 s), digested (at + length s) segments)

pub places_length : (at : ℕ) (segments : List (List ℕ)) → length (places_from at segments) ≡ length segments
places_length at [] = refl
places_length at (s ∷ segments) = ap suc (places_length (at + length s) segments)
