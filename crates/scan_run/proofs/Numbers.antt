-- Numbers that follow each other, and the slots of columns over them.
use Rattle.std.proofs.Common.{◌≡◌, ℕ, suc, ◌+◌, ◌-◌, ◌<◌, List, [], ◌∷◌, ◌++◌, map, refl, sym, ap, ◌∙◌, append_assoc, length, arith}
use Rattle.std.proofs.lemmas.List.FromFn.{length-map-range_with_len}
use Rattle.std.specs.List.{range_with_len}
use Rattle.scan_values.specs.declared.dtype.DTypeKind.{DTypeKind}
use Rattle.scan_values.specs.Selections.{numbers}
use Rattle.scan_values.specs.Val.{Val}
use Rattle.scan_spelling.specs.Written.{slots, slot_bytes}

pub numbers_step : (a b : ℕ) → a < b → numbers a b ≡ a ∷ numbers (a + 1) b
numbers_step a b h = let e : b - a ≡ suc (b - (a + 1)) = omega arith in ap (range_with_len a) e

-- what was written goes on with the first of what is left
pub carry : {A : Type 0} (old new here rest all whole : List A) → new ≡ old ++ here → all ≡ here ++ rest → old ++ all ≡ whole → new ++ rest ≡ whole
carry old new here rest all whole p q h =
    ap (λ xs. xs ++ rest) p ∙ (append_assoc old here rest ∙ (ap (λ xs. old ++ xs) (sym q) ∙ h))

-- the slots of two lists of values
pub slots_append : (k : DTypeKind) (us vs : List Val) → slots k (us ++ vs) ≡ slots k us ++ slots k vs
slots_append k [] vs = refl
slots_append k (u ∷ us) vs = ap (λ xs. slot_bytes k u ++ xs) (slots_append k us vs) ∙ sym (append_assoc (slot_bytes k u) (slots k us) (slots k vs))

-- a list of which each item is made of its number
pub map_step : {A : Type 0} (f : ℕ → A) (a b : ℕ) → a < b → map f (numbers a b) ≡ f a ∷ [] ++ map f (numbers (a + 1) b)
map_step f a b h = ap (map f) (numbers_step a b h)

pub count_numbers : {A : Type 0} (f : ℕ → A) (first n : ℕ) → length (map f (numbers first (first + n))) ≡ n
count_numbers f first n = length-map-range_with_len f first (first + n - first) ∙ omega arith

-- what was appended twice
pub more : (x y z a b : List ℕ) → y ≡ x ++ a → z ≡ y ++ b → z ≡ x ++ (a ++ b)
more x y z a b p q = q ∙ (ap (λ v. v ++ b) p ∙ append_assoc x a b)
