-- Masks, as lists of truth values.
use Rattle.std.proofs.Common.{◌≡◌, ℕ, zero, suc, ◌+◌, ◌<◌, ◌≤◌, Bool, true, false, nat_eq, cond, List, [], ◌∷◌, length, take, get_or, Some, refl, ap, ◌∙◌, add-one, arith}
use Rattle.std.specs.List.{list_all}
use Rattle.std.proofs.lemmas.List.Sums.{sum_by-cons, count_by-le-length}
use Rattle.std.proofs.lemmas.Bool.Decides.{nat_tests}
use Rattle.scan_values.specs.Masks.{true_count, last_true, later, limited}

pub true_count-cons : (b : Bool) (bs : List Bool) → true_count (b ∷ bs) ≡ cond b 1 0 + true_count bs
true_count-cons b bs = sum_by-cons (λ c. cond c 1 0) b bs

pub true_count-true : (bs : List Bool) → true_count (true ∷ bs) ≡ 1 + true_count bs
true_count-true bs = true_count-cons true bs

pub true_count-false : (bs : List Bool) → true_count (false ∷ bs) ≡ true_count bs
true_count-false bs = omega (arith, true_count-cons false bs)

pub true_count-within : (bs : List Bool) → true_count bs ≤ length bs
true_count-within bs = count_by-le-length (λ b. b) bs

pub all_true-count : (bs : List Bool) → nat_eq (true_count bs) (length bs) ≡ list_all (λ b. b) bs
all_true-count [] = refl
all_true-count (true ∷ bs) = grind (arith, nat_tests, all_true-count bs, true_count-true bs)
all_true-count (false ∷ bs) = grind (arith, nat_tests, true_count-within bs, true_count-false bs)

pub limited-all : (n : ℕ) (bs : List Bool) → true_count bs ≤ n → limited n bs ≡ bs
limited-all n [] h = refl
limited-all n (false ∷ bs) h = ap (λ cs. false ∷ cs) (limited-all n bs (omega (arith, true_count-false bs)))
limited-all zero (true ∷ bs) h = absurd (omega (arith, true_count-true bs))
limited-all (suc n) (true ∷ bs) h = ap (λ cs. true ∷ cs) (limited-all n bs (omega (arith, true_count-true bs)))

pub true_count-limited : (n : ℕ) (bs : List Bool) → n ≤ true_count bs → true_count (limited n bs) ≡ n
true_count-limited zero [] h = refl
true_count-limited (suc n) [] h = absurd (omega arith)
true_count-limited n (false ∷ bs) h = omega (arith, true_count-false bs, true_count-false (limited n bs), true_count-limited n bs (omega (arith, true_count-false bs)))
true_count-limited zero (true ∷ bs) h = omega (arith, true_count-false (limited zero bs), true_count-limited zero bs (omega arith))
true_count-limited (suc n) (true ∷ bs) h = omega (arith, true_count-true bs, true_count-true (limited n bs), true_count-limited n bs (omega (arith, true_count-true bs)))

-- the last true row of one more row
pub last_true-take : (bs : List Bool) (i : ℕ) → i < length bs → last_true (take (i + 1) bs) ≡ cond (get_or bs i false) (Some i) (last_true (take i bs))
last_true-take bs i h = rw add-one (last bs i h)
  where
    last : (bs : List Bool) (i : ℕ) → i < length bs → last_true (take (suc i) bs) ≡ cond (get_or bs i false) (Some i) (last_true (take i bs))
    last [] i h = absurd (omega arith)
    last (true ∷ bs) zero h = refl
    last (false ∷ bs) zero h = refl
    last (b ∷ bs) (suc i) h = ap (later b) (last bs i (omega arith)) ∙ elim (get_or bs i false) as (λ c. later b (cond c (Some i) (last_true (take i bs))) ≡ cond c (Some (suc i)) (later b (last_true (take i bs)))) [ true ↦ refl | false ↦ refl ]
