-- Where texts end is what is kept beside the bytes.
use Rattle.std.proofs.Common.{◌≡◌, ℕ, zero, suc, ◌+◌, List, [], ◌∷◌, ◌∙◌, length, refl, ap, true, false, Bool, Option, Some, None, if◌then◌else◌}
use Rattle.std.specs.Prelude.{option_map, option_and_then, replicate}
use Rattle.std.specs.Str.{is_utf8}
use Rattle.scan_values.specs.declared.dtype.DTypeKind.{DTypeKind}
use Rattle.scan_values.specs.declared.ptype.Nullability.{Nullability}
use Rattle.scan_values.specs.declared.ptype.Nullability.TheVariants.{NonNullable, Nullable}
use Rattle.scan_values.specs.Val.{Val, text_val}
use Rattle.scan_segments.specs.TextEnds.{may_stand, ended, ends_from, ends_after}
use Rattle.scan_spelling.specs.declared.spelling.Spelling.{Spelling}
use Rattle.scan_spelling.specs.declared.spelling.Spelling.TheVariants.{One, Two}
use Rattle.scan_spelling.specs.Spelling.{part, framed, content, under_flag, bit_group, bytes_for}
use Rattle.scan_spelling.specs.TextColumns.{no_ends, ends_of, ends_under, flag_group}

-- a text under its flag is there where it may stand
module _ (more : Option (List ℕ)) (text : List ℕ) where
  tested : (b : Bool) → option_and_then (λ v. more) (if b then Some (text_val text) else None) ≡ (if b then more else None)
  tested true = refl
  tested false = refl

  stands : (flag : ℕ) → option_and_then (λ v. more) (under_flag flag (content DTypeKind.Utf8 text)) ≡ (if may_stand flag text then more else None)
  stands zero = refl
  stands (suc zero) = tested (is_utf8 text)
  stands (suc (suc flag)) = refl

nothing : (bytes : List ℕ) → no_ends bytes ≡ ended bytes
nothing [] = refl
nothing (b ∷ bytes) = refl

framed_ends : (at flag : ℕ) (flags : List ℕ) (o : Option (List ℕ × List ℕ)) → ((at : ℕ) (bytes : List ℕ) → ends_of at flags bytes ≡ ends_from at flags bytes) →
    option_and_then {T = List ℕ × List ℕ} (λ p. option_and_then (λ v. option_map (λ es. (at + 4 + length p.0) ∷ es) (ends_of (at + 4 + length p.0) flags p.1)) (under_flag flag (content DTypeKind.Utf8 p.0))) o
    ≡ option_and_then {T = List ℕ × List ℕ} (λ p. if may_stand flag p.0 then option_map (λ es. (at + 4 + length p.0) ∷ es) (ends_from (at + 4 + length p.0) flags p.1) else None) o
framed_ends at flag flags None h = refl
framed_ends at flag flags (Some p) h =
    stands (option_map (λ es. (at + 4 + length p.0) ∷ es) (ends_of (at + 4 + length p.0) flags p.1)) p.0 flag
    ∙ ap (λ o. if may_stand flag p.0 then option_map (λ es. (at + 4 + length p.0) ∷ es) o else None) (h (at + 4 + length p.0) p.1)

same_ends : (flags : List ℕ) (at : ℕ) (bytes : List ℕ) → ends_of at flags bytes ≡ ends_from at flags bytes
same_ends [] at bytes = nothing bytes
same_ends (flag ∷ flags) at bytes = framed_ends at flag flags (framed bytes) (λ n more. same_ends flags n more)

pub ends_known : (s : Spelling) (m : Nullability) (n : ℕ) (bytes : List ℕ) → ends_under s m n bytes ≡ ends_after (flag_group s m) n bytes
ends_known s NonNullable n bytes = same_ends (replicate n 1) 0 bytes
ends_known One Nullable n bytes = λ i. option_and_then (λ p. same_ends p.0 0 p.1 i) (part n bytes)
ends_known Two Nullable n bytes = λ i. option_and_then (λ p. option_and_then (λ flags. same_ends flags 0 p.1 i) (bit_group n p.0)) (part (bytes_for n) bytes)
