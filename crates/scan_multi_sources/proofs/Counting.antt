-- Numbers that are known, one by one.
use Rattle.std.proofs.Common.{◌≡◌, ◌+◌, ℕ, List, [], ◌∷◌, length, Option, Some, None, refl, ap, ◌∙◌, arith}
use Rattle.std.proofs.lemmas.List.Sums.{sum_by-cons}
use Rattle.std.specs.Prelude.{sum}
use Rattle.scan_multi_sources.specs.Known.{add_known, capped, known, known_data, known_of}
use Rattle.scan_multi_sources.specs.declared.known.Known.{Known}

-- what is known with several further numbers
abbrev pub added : Known → List (Option ℕ) → Known
added k [] = k
added k (o ∷ os) = added (add_known k o) os

same_known : (a b c d : ℕ) → a ≡ b → c ≡ d → known_data a c ≡ known_data b d
same_known a b c d p q = rw (p, q) refl

added_is : (n k : ℕ) (os : List (Option ℕ)) → added (known_data (capped n) k) os ≡ known_data (capped (n + sum (known os))) (k + length (known os))
added_is n k [] = same_known (capped n) (capped (n + 0)) k (k + 0) (ap capped (omega arith)) (omega arith)
added_is n k (None ∷ os) = added_is n k os
added_is n k (Some m ∷ os) =
    ap (λ z. added (known_data z (k + 1)) os) (first n m) ∙ added_is (n + m) (k + 1) os
    ∙ same_known (capped (n + m + sum (known os))) (capped (n + sum (m ∷ known os))) (k + 1 + length (known os)) (k + length (m ∷ known os)) (ap capped (omega (arith, sum_cons m (known os)))) (omega arith)
  where
    first : (a b : ℕ) → capped (capped a + b) ≡ capped (a + b)
    first a b = grind arith

    sum_cons : (x : ℕ) (xs : List ℕ) → sum (x ∷ xs) ≡ x + sum xs
    sum_cons x xs = sum_by-cons (λ (n : ℕ). n) x xs

-- all are counted from nothing on
pub from_none : (os : List (Option ℕ)) → added (known_data 0 0) os ≡ known_of os
from_none os = added_is 0 0 os ∙ same_known (capped (0 + sum (known os))) (capped (sum (known os))) (0 + length (known os)) (length (known os)) (ap capped (omega arith)) (omega arith)
