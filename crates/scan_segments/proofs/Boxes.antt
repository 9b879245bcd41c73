-- What a box whose value's type is not known passes on.
use Rattle.std.proofs.Common.{◌≡◌, refl, subst}

-- what was done to the value that was lent was done to the value of the box
pub passed_on : {I : Type 0} {D : I → Type 0} (did : (i : I) → D i → D i → Type 0) (i j : I) (x n : D i) (y : D j)
    → ◌≡◌ {A = (k : I) × D k} (i, x) (j, y) → did i x n → (m : D j) × ◌≡◌ {A = (k : I) × D k} (i, n) (j, m) × did j y m
passed_on {I} {D} did i j x n y same done =
    subst (λ (w : (k : I) × D k). (m : D w.0) × ◌≡◌ {A = (k : I) × D k} (i, n) (w.0, m) × did w.0 w.1 m) same (n, refl, done)
