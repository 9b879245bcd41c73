-- Rows that do not fall, and rows that are sorted and each once.
use Rattle.std.proofs.Common.{◌≡◌, ℕ, zero, suc, ◌+◌, ◌-◌, ◌<◌, ◌≤◌, List, [], ◌∷◌, ◌++◌, length, get_or, Bool, true, false, ◌&&◌, Some, nat_le, nat_eq, arith, refl, sym, add-one}
use Rattle.std.specs.Prelude.{slice_get}
use Rattle.std.specs.List.{dedup}
use Rattle.std.specs.List.Sorted.{IsPermutation, IsSorted}
use Rattle.std.specs.Ordering.{nat_cmp, is_lt}
use Rattle.std.proofs.lemmas.Bool.Decides.{nat_tests}
use Rattle.std.proofs.lemmas.List.Sorted.{Contains-permutation, IsPermutation-sym}
use Rattle.std.proofs.lemmas.List.Kept.{Contains-dedup_nat, Contains-from_dedup}
use Rattle.scan_splits.specs.RowLists.{never_falls, SameNumbers}

and_left : (a b : Bool) → (a && b) ≡ true → a ≡ true
and_left true b h = refl
and_left false b h = h

and_right : (a b : Bool) → (a && b) ≡ true → b ≡ true
and_right true b h = h
and_right false b h = absurd cc

first_le : (x y : ℕ) (ys : List ℕ) → never_falls (x ∷ y ∷ ys) ≡ true → x ≤ y
first_le x y ys h = grind (arith, nat_tests, and_left (nat_le x y) (never_falls (y ∷ ys)) h)

rest_never_falls : (x y : ℕ) (ys : List ℕ) → never_falls (x ∷ y ∷ ys) ≡ true → never_falls (y ∷ ys) ≡ true
rest_never_falls x y ys h = and_right (nat_le x y) (never_falls (y ∷ ys)) h

le_test : (x y : ℕ) → x ≤ y → nat_le x y ≡ true
le_test x y h = grind (arith, nat_tests)

both : (a b : Bool) → a ≡ true → b ≡ true → (a && b) ≡ true
both true b p q = q
both false b p q = absurd cc

-- each row is at most the next
pub next_le : (xs : List ℕ) (k d : ℕ) → never_falls xs ≡ true → k + 1 < length xs → get_or xs k d ≤ get_or xs (k + 1) d
next_le [] k d h l = absurd (omega arith)
next_le (x ∷ []) k d h l = absurd (omega arith)
next_le (x ∷ y ∷ ys) zero d h l = first_le x y ys h
next_le (x ∷ y ∷ ys) (suc k) d h l =
    let more : get_or (y ∷ ys) k d ≤ get_or (y ∷ ys) (k + 1) d = next_le (y ∷ ys) k d (rest_never_falls x y ys h) (omega arith) in rw add-one (rw add-one at more)

not_less : (a b : ℕ) → b ≤ a → is_lt (nat_cmp a b) ≡ false
not_less a b h = grind (arith, nat_tests)

-- rows that do not fall are sorted
pub rises_already : (xs : List ℕ) → never_falls xs ≡ true → IsSorted nat_cmp xs
rises_already xs h k d low l = not_less (get_or xs (k + 1) d) (get_or xs k d) (next_le xs k d h l)

-- a sort keeps the numbers
pub moved : (xs ys : List ℕ) → IsPermutation xs ys → SameNumbers ys xs
moved xs ys p n = (Contains-permutation ys xs n (IsPermutation-sym xs ys p), Contains-permutation xs ys n p)

-- and so does the drop of repeats
pub same-dedup : (xs ys : List ℕ) → ys ≡ dedup nat_eq xs → SameNumbers ys xs
same-dedup xs ys e n = rw e (Contains-from_dedup nat_eq xs n, Contains-dedup_nat xs n)

-- one row more that is not below the last
pub goes_on : (xs : List ℕ) (i last row : ℕ) → slice_get xs i ≡ Some last → i + 1 ≡ length xs → last ≤ row → never_falls xs ≡ true → never_falls (xs ++ row ∷ []) ≡ true
goes_on [] i last row e h l up = absurd (omega arith)
goes_on (x ∷ []) zero last row e h l up = let same : x ≡ last = cc in both (nat_le x row) true (le_test x row (omega arith)) refl
goes_on (x ∷ []) (suc i) last row e h l up = absurd (omega arith)
goes_on (x ∷ y ∷ ys) zero last row e h l up = absurd (omega arith)
goes_on (x ∷ y ∷ ys) (suc i) last row e h l up =
    both (nat_le x y) (never_falls ((y ∷ ys) ++ row ∷ [])) (le_test x y (first_le x y ys up)) (goes_on (y ∷ ys) i last row e (omega arith) l (rest_never_falls x y ys up))

-- and rows after it
pub goes_on_with : (xs : List ℕ) (y : ℕ) (ys : List ℕ) → never_falls (xs ++ y ∷ []) ≡ true → never_falls (y ∷ ys) ≡ true → never_falls (xs ++ y ∷ ys) ≡ true
goes_on_with [] y ys up h = h
goes_on_with (x ∷ []) y ys up h = both (nat_le x y) (never_falls (y ∷ ys)) (and_left (nat_le x y) true up) h
goes_on_with (x ∷ z ∷ xs) y ys up h =
    both (nat_le x z) (never_falls ((z ∷ xs) ++ y ∷ ys)) (and_left (nat_le x z) (never_falls ((z ∷ xs) ++ y ∷ [])) up) (goes_on_with (z ∷ xs) y ys (and_right (nat_le x z) (never_falls ((z ∷ xs) ++ y ∷ [])) up) h)

pub goes_on_at : (xs ys : List ℕ) (first : ℕ) → Some first ≡ slice_get ys 0 → never_falls (xs ++ first ∷ []) ≡ true → never_falls ys ≡ true → never_falls (xs ++ ys) ≡ true
goes_on_at xs [] first e up h = absurd cc
goes_on_at xs (y ∷ ys) first e up h = let same : first ≡ y = cc in goes_on_with xs y ys (rw (← same) up) h

pub goes_on_last : (xs : List ℕ) (last row : ℕ) → Some last ≡ slice_get xs (length xs - 1) → nat_le last row ≡ true → never_falls xs ≡ true → never_falls (xs ++ row ∷ []) ≡ true
goes_on_last [] last row e t up = absurd cc
goes_on_last (x ∷ xs) last row e t up = goes_on (x ∷ xs) (length (x ∷ xs) - 1) last row (sym e) (omega arith) (grind (arith, nat_tests)) up

pub same-trans : (xs ys zs : List ℕ) → SameNumbers xs ys → SameNumbers ys zs → SameNumbers xs zs
same-trans xs ys zs p q n = (λ h. (q n).0 ((p n).0 h), λ h. (p n).1 ((q n).1 h))
