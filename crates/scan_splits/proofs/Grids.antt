-- The grid of a list's splits.
use Rattle.std.proofs.Common.{◌≡◌, ℕ, zero, suc, ◌+◌, ◌-◌, ◌*◌, ◌/◌, ◌%◌, ◌^◌, ◌<◌, ◌≤◌, true, false, max, min, nat_le, arith, ◌∙◌}
use Rattle.std.specs.Int.{IsPowerOfTwo}
use Rattle.std.proofs.lemmas.Bool.Decides.{nat_tests}
use Rattle.std.proofs.Math.Nat.{mul-le-mul_left}
use Rattle.scan_layout.specs.Edges.{power_from, list_split_grid_size}

within : (n p : ℕ) → n ≤ p → nat_le n p ≡ true
within n p h = grind (arith, nat_tests)

past : (n p : ℕ) → p < n → nat_le n p ≡ false
past n p h = grind (arith, nat_tests)

one_at_least : (m : ℕ) → 1 ≤ 2 ^ m
one_at_least zero = omega arith
one_at_least (suc m) = omega (arith, one_at_least m)

one_less : (m : ℕ) → suc m - 1 ≡ m
one_less m = omega arith

at_least : (p q : ℕ) → 1 ≤ q → p ≤ p * q
at_least p q h = let more : p * 1 ≤ p * q = mul-le-mul_left p h in omega (arith, more)

double : (p m : ℕ) → 2 * p * 2 ^ m ≡ p * 2 ^ suc m
double p m = grind arith

earlier : (p n m : ℕ) → 0 < m → p * 2 ^ m < n → 2 * p * 2 ^ (m - 1) < n
earlier p n zero z h = absurd (omega arith)
earlier p n (suc m) z h = rw (one_less m, double p m) h

-- the first power of two from p on that is at least n
pub power_is : (k p n m : ℕ) → n ≤ p * 2 ^ k → n ≤ p * 2 ^ m → (0 < m → p * 2 ^ (m - 1) < n) → power_from k p n ≡ p * 2 ^ m
power_is zero p n zero l h up = omega arith
power_is zero p n (suc m) l h up =
    let last : p * 2 ^ m < n = rw (one_less m) at (up (omega arith)) in
    let some : p ≤ p * 2 ^ m = at_least p (2 ^ m) (one_at_least m) in
    absurd (omega arith)
power_is (suc k) p n zero l h up = rw (within n p (omega (arith, h))) (omega arith)
power_is (suc k) p n (suc m) l h up =
    let last : p * 2 ^ m < n = rw (one_less m) at (up (omega arith)) in
    let some : p ≤ p * 2 ^ m = at_least p (2 ^ m) (one_at_least m) in
    rw (past n p (omega arith)) (power_is k (2 * p) n m (rw (double p k) l) (rw (double p m) h) (λ z. earlier p n m z last) ∙ double p m)

half_below : (m n : ℕ) → 2 ^ m / 2 < max 1 n → 0 < m → 1 * 2 ^ (m - 1) < n
half_below zero n h z = absurd (omega arith)
half_below (suc m) n h z = rw (one_less m) (let some = one_at_least m in omega (arith, h))

pub size_is : (rows cells : ℕ) → rows < 2 ^ 64 → IsPowerOfTwo cells → rows / 8192 + min 1 (rows % 8192) ≤ cells → cells / 2 < max 1 (rows / 8192 + min 1 (rows % 8192)) → max cells 64 ≡ list_split_grid_size rows
size_is rows cells small power low high =
    let n : ℕ = (rows + 8191) / 8192 in
    let same : rows / 8192 + min 1 (rows % 8192) ≡ n = omega arith in
    let fits : n ≤ 1 * 2 ^ 64 = omega arith in
    let enough : n ≤ 1 * 2 ^ power.0 = omega (arith, low, same, power.1) in
    let tight : 2 ^ power.0 / 2 < max 1 n = rw (← power.1, ← same) high in
    let is : power_from 64 1 n ≡ 1 * 2 ^ power.0 = power_is 64 1 n power.0 fits enough (half_below power.0 n tight) in
    omega (arith, is, power.1)
