-- Parts at places, and what they are.
use Rattle.std.proofs.Common.{◌≡◌, ℕ, ◌+◌, ◌<◌, ◌≤◌, List, [], ◌∷◌, true, false, drop, length, map, get_or, sym, ap, ◌∙◌, Result, Ok, Err, Some, arith}
use Rattle.std.specs.Prelude.{string_bytes, slice_get, IfOk}
use Rattle.std.specs.Str.{bytes_eq}
use Rattle.std.proofs.lemmas.List.{length-map}
use Rattle.scan_conditions.specs.declared.token.Kind.{Kind}
use Rattle.scan_conditions.specs.declared.token.Part.{Part}
use Rattle.scan_conditions.specs.Parts.{part_of}
use Rattle.scan_conditions.specs.Spelling.{Begins, begins, is_pair, is_single, part_as, sign}
use Rattle.scan_conditions.proofs.Lexing.{single_begins}
use Rattle.scan_conditions.proofs.Places.{mapped_item, same_bytes}

pub found : (ps : List Part) (i : ℕ) (p : Part) (k : Kind) (w : List ℕ) → i < length ps → p ≡ get_or ps i p → p.kind ≡ k → w ≡ string_bytes p.text
    → drop i (map part_of ps) ≡ part_as k w ∷ drop (i + 1) (map part_of ps)
found ps i p k w h e n b = mapped_item part_of ps i p h e ∙ ap (λ x. x ∷ drop (i + 1) (map part_of ps)) (ap (λ j. part_as j (string_bytes p.text)) n ∙ ap (part_as k) (sym b))

pub as_text : (ps : List Part) (i : ℕ) (k : Kind) (w t : List ℕ) → drop i (map part_of ps) ≡ part_as k w ∷ drop (i + 1) (map part_of ps) → bytes_eq w t ≡ true
    → drop i (map part_of ps) ≡ part_as k t ∷ drop (i + 1) (map part_of ps)
as_text ps i k w t h e = h ∙ ap (λ x. part_as k x ∷ drop (i + 1) (map part_of ps)) (same_bytes w t e)

pub single_part : {E : Type 0} (r : Result Part E) (c : ℕ) (bytes : List ℕ) (i : ℕ) → slice_get bytes i ≡ Some c → begins (is_pair c) (drop (i + 1) bytes) ≡ false
    → IfOk r (λ p. (part_of p ≡ sign (c ∷ [])) × (is_single c ≡ true) × (p.end ≡ i + 1)) → IfOk r (λ p. Begins (part_of p) (drop i bytes) (drop p.end bytes))
single_part (Ok p) c bytes i h k s = single_begins (part_of p) c bytes i p.end s.0 s.1 s.2 h k
single_part (Err e) c bytes i h k s = tt

pub past_parts : (ps : List Part) (end : ℕ) → length ps ≤ end → length (map part_of ps) ≤ end
past_parts ps end h = omega (arith, length-map ps part_of)
