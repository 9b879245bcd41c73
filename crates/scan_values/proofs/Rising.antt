-- Rising numbers: how many are below a number, and whether it is one of them.
use Rattle.std.proofs.Common.{◌≡◌, ℕ, zero, suc, ◌+◌, ◌-◌, ◌<◌, ◌≤◌, Bool, true, false, not, ◌&&◌, nat_eq, nat_lt, cond, List, [], ◌∷◌, length, get_or, map, count_by, replicate, refl, ap, sym, ◌∙◌, add-one, arith}
use Rattle.std.specs.List.{range_with_len}
use Rattle.std.specs.List.Sorted.{IsNonDecreasingBy}
use Rattle.std.proofs.lemmas.List.Sums.{sum_by-cons}
use Rattle.std.proofs.lemmas.List.Sorted.{IsNonDecreasingBy-from_all_adjacent}
use Rattle.std.proofs.lemmas.Bool.Decides.{nat_tests}
use Rattle.scan_values.specs.StrictSorted.{is_rising, rank}
use Rattle.scan_values.specs.Selections.{numbers, is_among}

and_left : (a b : Bool) → (a && b) ≡ true → a ≡ true
and_left true b h = refl
and_left false b h = h

and_right : (a b : Bool) → (a && b) ≡ true → b ≡ true
and_right true b h = h
and_right false b h = cc

-- every number of a list is above x
abbrev pub Above : ℕ → List ℕ → Type 0
Above x [] = Unit {0}
Above x (y ∷ ys) = (x < y) × Above x ys

Above-lower : (x y : ℕ) (ys : List ℕ) → x < y → Above y ys → Above x ys
Above-lower x y [] h a = tt
Above-lower x y (z ∷ zs) h a = (omega (arith, a.0), Above-lower x y zs h a.1)

is_rising-first : (x y : ℕ) (ys : List ℕ) → is_rising (x ∷ y ∷ ys) ≡ true → x < y
is_rising-first x y ys h = grind (arith, nat_tests, and_left (nat_lt x y) (is_rising (y ∷ ys)) h)

pub is_rising-rest : (x : ℕ) (xs : List ℕ) → is_rising (x ∷ xs) ≡ true → is_rising xs ≡ true
is_rising-rest x [] h = refl
is_rising-rest x (y ∷ ys) h = and_right (nat_lt x y) (is_rising (y ∷ ys)) h

pub Above-rest : (x : ℕ) (xs : List ℕ) → is_rising (x ∷ xs) ≡ true → Above x xs
Above-rest x [] h = tt
Above-rest x (y ∷ ys) h = (is_rising-first x y ys h, Above-lower x y ys (is_rising-first x y ys h) (Above-rest y ys (is_rising-rest x (y ∷ ys) h)))

pub rank-cons : (n x : ℕ) (xs : List ℕ) → rank n (x ∷ xs) ≡ cond (nat_lt x n) 1 0 + rank n xs
rank-cons n x xs = sum_by-cons (λ y. cond (nat_lt y n) 1 0) x xs

rank-below : (n x : ℕ) (xs : List ℕ) → nat_lt x n ≡ true → rank n (x ∷ xs) ≡ suc (rank n xs)
rank-below n x xs h = rank-cons n x xs ∙ ap (λ b. cond b 1 0 + rank n xs) h ∙ omega arith

lt_suc : (a b : ℕ) → nat_lt a b ≡ nat_lt (suc a) (suc b)
lt_suc a b = grind (arith, nat_tests)

rank-not_below : (n x : ℕ) (xs : List ℕ) → nat_lt x n ≡ false → rank n (x ∷ xs) ≡ rank n xs
rank-not_below n x xs h = rank-cons n x xs ∙ ap (λ b. cond b 1 0 + rank n xs) h ∙ omega arith

not_below : (x n : ℕ) → n ≤ x → nat_lt x n ≡ false
not_below x n h = grind (arith, nat_tests)

is_below : (x n : ℕ) → x < n → nat_lt x n ≡ true
is_below x n h = grind (arith, nat_tests)

rank-none : (n x : ℕ) (xs : List ℕ) → n ≤ x + 1 → Above x xs → rank n xs ≡ 0
rank-none n x [] h a = refl
rank-none n x (y ∷ ys) h a = rank-not_below n y ys (not_below y n (omega (arith, a.0))) ∙ rank-none n x ys h a.1

differs : (x n : ℕ) → n < x → nat_eq x n ≡ false
differs x n h = grind (arith, nat_tests)

is_among-none : (n x : ℕ) (xs : List ℕ) → n ≤ x → Above x xs → is_among xs n ≡ false
is_among-none n x [] h a = refl
is_among-none n x (y ∷ ys) h a = rw (differs y n (omega (arith, a.0))) (is_among-none n x ys h a.1)

-- which of the three orders
data Compared (x n : ℕ) : Type 0 where
  below : x < n → Compared x n
  same : x ≡ n → Compared x n
  above : n < x → Compared x n

compared : (x n : ℕ) → Compared x n
compared zero zero = same refl
compared zero (suc n) = below (omega arith)
compared (suc x) zero = above (omega arith)
compared (suc x) (suc n) = elim (compared x n) [ below h ↦ below (omega arith) | same h ↦ same (ap suc h) | above h ↦ above (omega arith) ]

same_eq : (x n : ℕ) → x ≡ n → nat_eq x n ≡ true
same_eq x n h = grind (arith, nat_tests)

differs_below : (x n : ℕ) → x < n → nat_eq x n ≡ false
differs_below x n h = grind (arith, nat_tests)

-- the number that stands at the rank of n is n, or n is not among them
pub is_among-at_rank : (n : ℕ) (xs : List ℕ) → is_rising xs ≡ true → is_among xs n ≡ (nat_lt (rank n xs) (length xs) && nat_eq (get_or xs (rank n xs) 0) n)
is_among-at_rank n [] h = refl
is_among-at_rank n (x ∷ xs) h = at (compared x n) (is_among-at_rank n xs (is_rising-rest x xs h))
  where
    at : Compared x n → is_among xs n ≡ (nat_lt (rank n xs) (length xs) && nat_eq (get_or xs (rank n xs) 0) n) → is_among (x ∷ xs) n ≡ (nat_lt (rank n (x ∷ xs)) (length (x ∷ xs)) && nat_eq (get_or (x ∷ xs) (rank n (x ∷ xs)) 0) n)
    at (below l) rest = rw (rank-below n x xs (is_below x n l), differs_below x n l) (rest ∙ ap (λ b. b && nat_eq (get_or xs (rank n xs) 0) n) (lt_suc (rank n xs) (length xs)))
    at (same e) rest = rw (rank-not_below n x xs (not_below x n (omega arith)), rank-none n x xs (omega arith) (Above-rest x xs h), same_eq x n e) (grind (arith, nat_tests))
    at (above l) rest = rw (rank-not_below n x xs (not_below x n (omega arith)), rank-none n x xs (omega arith) (Above-rest x xs h), differs x n l, is_among-none n x xs (omega arith) (Above-rest x xs h)) (grind (arith, nat_tests))

-- one more number below the next
pub rank-next : (n : ℕ) (xs : List ℕ) → is_rising xs ≡ true → rank (n + 1) xs ≡ rank n xs + cond (is_among xs n) 1 0
rank-next n [] h = refl
rank-next n (x ∷ xs) h = at (compared x n) (rank-next n xs (is_rising-rest x xs h))
  where
    at : Compared x n → rank (n + 1) xs ≡ rank n xs + cond (is_among xs n) 1 0 → rank (n + 1) (x ∷ xs) ≡ rank n (x ∷ xs) + cond (is_among (x ∷ xs) n) 1 0
    at (below l) rest = rw (rank-below (n + 1) x xs (is_below x (n + 1) (omega arith)), rank-below n x xs (is_below x n l), differs_below x n l) (omega (arith, rest))
    at (same e) rest = rw (rank-below (n + 1) x xs (is_below x (n + 1) (omega arith)), rank-not_below n x xs (not_below x n (omega arith)), same_eq x n e, rank-none n x xs (omega arith) (Above-rest x xs h), rank-none (n + 1) x xs (omega arith) (Above-rest x xs h)) refl
    at (above l) rest = rw (rank-not_below (n + 1) x xs (not_below x (n + 1) (omega arith)), rank-not_below n x xs (not_below x n (omega arith)), differs x n l) (omega (arith, rest))

count-cons : {X : Type 0} (p : X → Bool) (x : X) (xs : List X) → count_by p (x ∷ xs) ≡ cond (p x) 1 0 + count_by p xs
count-cons p x xs = sum_by-cons (λ y. cond (p y) 1 0) x xs

-- the numbers of a range that are among rising ones
pub count-within : (xs : List ℕ) (lo k : ℕ) → is_rising xs ≡ true → rank lo xs + count_by (is_among xs) (range_with_len lo k) ≡ rank (lo + k) xs
count-within xs lo zero h = let same : rank lo xs ≡ rank (lo + 0) xs = ap (λ n. rank n xs) (let e : lo ≡ lo + 0 = omega arith in e) in omega (arith, same)
count-within xs lo (suc k) h =
    let step = count-cons (is_among xs) lo (range_with_len (lo + 1) k) in
    let next = rank-next lo xs h in
    let rest = count-within xs (lo + 1) k h in
    let same : rank (lo + 1 + k) xs ≡ rank (lo + suc k) xs = ap (λ n. rank n xs) (let e : lo + 1 + k ≡ lo + suc k = omega arith in e) in
    omega (arith, step, next, rest, same)

pub count-between : (xs : List ℕ) (lo hi : ℕ) → is_rising xs ≡ true → lo ≤ hi → rank lo xs + count_by (is_among xs) (numbers lo hi) ≡ rank hi xs
count-between xs lo hi h l = count-within xs lo (hi - lo) h ∙ ap (λ n. rank n xs) (let e : lo + (hi - lo) ≡ hi = omega arith in e)

-- the same with the first number left out
point-rest : (n x : ℕ) (xs : List ℕ) (i : ℕ) → ((k d : ℕ) → k < suc i → nat_lt (get_or (x ∷ xs) k d) n ≡ true) → ((k d : ℕ) → suc i ≤ k → k < length (x ∷ xs) → nat_lt (get_or (x ∷ xs) k d) n ≡ false)
    → ((k d : ℕ) → k < i → nat_lt (get_or xs k d) n ≡ true) × ((k d : ℕ) → i ≤ k → k < length xs → nat_lt (get_or xs k d) n ≡ false)
point-rest n x xs i p q = (λ k d l. p (suc k) d (omega arith), λ k d l m. q (suc k) d (omega arith) (omega arith))

none_below : (n : ℕ) (xs : List ℕ) → ((k d : ℕ) → k < length xs → nat_lt (get_or xs k d) n ≡ false) → rank n xs ≡ 0
none_below n [] q = refl
none_below n (x ∷ xs) q = rank-not_below n x xs (q 0 x (omega arith)) ∙ none_below n xs (λ k d l. q (suc k) d (omega arith))

-- what a partition point says of a rank
pub rank-point : (n : ℕ) (xs : List ℕ) (i : ℕ) → i ≤ length xs → ((k d : ℕ) → k < i → nat_lt (get_or xs k d) n ≡ true) → ((k d : ℕ) → i ≤ k → k < length xs → nat_lt (get_or xs k d) n ≡ false) → i ≡ rank n xs
rank-point n xs zero h p q = sym (none_below n xs (λ k d l. q k d (omega arith) l))
rank-point n [] (suc i) h p q = absurd (omega arith)
rank-point n (x ∷ xs) (suc i) h p q =
    let r = point-rest n x xs i p q in
    let rest = rank-point n xs i (omega arith) r.0 r.1 in
    omega (arith, rest, rank-below n x xs (p 0 x (omega arith)))

pub non_decreasing : (xs : List ℕ) → is_rising xs ≡ true → IsNonDecreasingBy (λ x. x) xs
non_decreasing xs h = IsNonDecreasingBy-from_all_adjacent (λ x. x) xs (λ k d l. adjacent xs k d h l)
  where
    adjacent : (xs : List ℕ) (k d : ℕ) → is_rising xs ≡ true → k + 1 < length xs → get_or xs k d ≤ get_or xs (k + 1) d
    adjacent xs k d h l = rw add-one (go xs k h (omega arith))
      where
        go : (xs : List ℕ) (k : ℕ) → is_rising xs ≡ true → suc k < length xs → get_or xs k d ≤ get_or xs (suc k) d
        go [] k h l = absurd (omega arith)
        go (x ∷ []) k h l = absurd (omega arith)
        go (x ∷ y ∷ ys) zero h l = let r = is_rising-first x y ys h in omega arith
        go (x ∷ y ∷ ys) (suc k) h l = go (y ∷ ys) k (is_rising-rest x (y ∷ ys) h) (omega arith)

pub is_rising-short : (xs : List ℕ) → length xs ≤ 1 → is_rising xs ≡ true
is_rising-short [] h = refl
is_rising-short (x ∷ []) h = refl
is_rising-short (x ∷ y ∷ ys) h = absurd (omega arith)

-- ---- the contrary, and everything
pub count-not : {X : Type 0} (p : X → Bool) (xs : List X) → count_by (λ x. not (p x)) xs + count_by p xs ≡ length xs
count-not p [] = refl
count-not p (x ∷ xs) = first (p x) refl (count-not p xs)
  where
    first : (b : Bool) → p x ≡ b → count_by (λ y. not (p y)) xs + count_by p xs ≡ length xs → count_by (λ y. not (p y)) (x ∷ xs) + count_by p (x ∷ xs) ≡ suc (length xs)
    first true e rest = rw (count-cons (λ y. not (p y)) x xs, count-cons p x xs, e) (omega (arith, rest))
    first false e rest = rw (count-cons (λ y. not (p y)) x xs, count-cons p x xs, e) (omega (arith, rest))

pub count-all : {X : Type 0} (xs : List X) → count_by (λ x. true) xs ≡ length xs
count-all [] = refl
count-all (x ∷ xs) = omega (arith, count-cons (λ y. true) x xs, count-all xs)

pub replicate-all : (lo k : ℕ) → replicate k true ≡ map (λ n. true) (range_with_len lo k)
replicate-all lo zero = refl
replicate-all lo (suc k) = ap (λ bs. true ∷ bs) (replicate-all (lo + 1) k)

pub map-not : {X : Type 0} (p : X → Bool) (xs : List X) → map not (map p xs) ≡ map (λ x. not (p x)) xs
map-not p [] = refl
map-not p (x ∷ xs) = ap (λ bs. not (p x) ∷ bs) (map-not p xs)
