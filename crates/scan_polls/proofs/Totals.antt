-- How many numbers stand in lists in which each below a number stands once, and no other does.
use Rattle.std.proofs.Common.{◌≡◌, ◌≤◌, ◌<◌, ◌+◌, ◌==◌, ℕ, zero, suc, Bool, true, false, nat_lt, List, [], ◌∷◌, ◌++◌, length, refl, sym, ◌∙◌, length-append, arith}
use Rattle.std.proofs.lemmas.Bool.Decides.{nat_tests}
use Rattle.scan_polls.specs.Due.{times}
use Rattle.scan_polls.proofs.Counting.{single, times_append, times_first}

-- how often the numbers below one stand in a list
abbrev below : ℕ → List ℕ → ℕ
below zero xs = 0
below (suc n) xs = times n xs + below n xs

below_none : (n : ℕ) → below n [] ≡ 0
below_none zero = refl
below_none (suc n) = let rest = below_none n in omega (arith, rest)

below_first : (n x : ℕ) (xs : List ℕ) → below n (x ∷ xs) ≡ below n (x ∷ []) + below n xs
below_first zero x xs = omega arith
below_first (suc n) x xs =
    let here = times_first n x xs in
    let rest = below_first n x xs in
    omega (arith, here, rest)

below_past : (n x : ℕ) → n ≤ x → below n (x ∷ []) ≡ 0
below_past zero x l = refl
below_past (suc n) x l =
    let none = (single x n).1 (λ same. absurd (omega (arith, same, l))) in
    let rest = below_past n x (omega (arith, l)) in
    omega (arith, none, rest)

below_one : (n x : ℕ) → x < n → below n (x ∷ []) ≡ 1
below_one zero x l = absurd (omega (arith, l))
below_one (suc n) x l = go (x == n) refl (λ m. below_one n x m)
  where
    go : (d : Bool) → (x == n) ≡ d → (x < n → below n (x ∷ []) ≡ 1) → times n (x ∷ []) + below n (x ∷ []) ≡ 1
    go true e ih =
        let same : x ≡ n = grind (arith, nat_tests, e) in
        let one = (single x n).0 same in
        let rest = below_past n x (omega (arith, same)) in
        omega (arith, one, rest)
    go false e ih =
        let apart : x ≡ n → ⊥ = λ same. absurd (grind (arith, nat_tests, e, same)) in
        let none = (single x n).1 apart in
        let rest = ih (grind (arith, nat_tests, e, l)) in
        omega (arith, none, rest)

below_all : (n : ℕ) (xs : List ℕ) → ((k : ℕ) → k < n → times k xs ≡ 1) → below n xs ≡ n
below_all zero xs h = refl
below_all (suc n) xs h =
    let one = h n (omega arith) in
    let rest = below_all n xs (λ k l. h k (omega (arith, l))) in
    omega (arith, one, rest)

-- the first is below, where no other stands there
inside : (n x : ℕ) (xs : List ℕ) → ((k : ℕ) → n ≤ k → times k (x ∷ xs) ≡ 0) → x < n
inside n x xs h = go (nat_lt x n) refl
  where
    go : (b : Bool) → nat_lt x n ≡ b → x < n
    go true e = grind (arith, nat_tests, e)
    go false e =
        let low : n ≤ x = grind (arith, nat_tests, e) in
        let none = h x low in
        let one = (single x x).0 refl in
        let all = times_first x x xs in
        absurd (omega (arith, none, one, all))

below_length : (n : ℕ) (xs : List ℕ) → ((k : ℕ) → n ≤ k → times k xs ≡ 0) → below n xs ≡ length xs
below_length n [] h = below_none n
below_length n (x ∷ xs) h =
    let first = below_first n x xs in
    let one = below_one n x (inside n x xs h) in
    let rest = below_length n xs (λ k l. let none = h k l in let all = times_first k x xs in omega (arith, none, all)) in
    omega (arith, first, one, rest)

as_many : (n : ℕ) (xs : List ℕ) → ((k : ℕ) → k < n → times k xs ≡ 1) → ((k : ℕ) → n ≤ k → times k xs ≡ 0) → n ≡ length xs
as_many n xs one none = sym (below_all n xs one) ∙ below_length n xs none

-- in three lists together
pub three_as_many : (n : ℕ) (xs ys zs : List ℕ) → ((k : ℕ) → k < n → times k xs + times k ys + times k zs ≡ 1) → ((k : ℕ) → n ≤ k → times k xs + times k ys + times k zs ≡ 0)
    → n ≡ length xs + length ys + length zs
three_as_many n xs ys zs one none =
    let all = as_many n ((xs ++ ys) ++ zs) (λ k l. let e = one k l in let f = three k in omega (arith, e, f)) (λ k l. let e = none k l in let f = three k in omega (arith, e, f)) in
    let both = length-append (xs ++ ys) zs in
    let two = length-append xs ys in
    omega (arith, all, both, two)
  where
    three : (k : ℕ) → times k ((xs ++ ys) ++ zs) ≡ times k xs + times k ys + times k zs
    three k =
        let both = times_append k (xs ++ ys) zs in
        let two = times_append k xs ys in
        omega (arith, both, two)
