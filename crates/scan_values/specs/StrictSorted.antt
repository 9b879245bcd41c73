-- Numbers that rise.
use Rattle.std.specs.Prelude.{ℕ, List, [], ◌∷◌, Bool, true, ◌&&◌, nat_lt, count_by}

-- each number is above the one before
abbrev pub is_rising : List ℕ → Bool
is_rising [] = true
is_rising (x ∷ []) = true
is_rising (x ∷ y ∷ ys) = nat_lt x y && is_rising (y ∷ ys)

-- how many of the numbers are below n
abbrev pub rank : ℕ → List ℕ → ℕ
rank n xs = count_by (λ x. nat_lt x n) xs
