-- Tests of numbers, and numbers of which none stands twice.
use Rattle.std.proofs.Common.{◌≡◌, ◌≢◌, ℕ, zero, suc, ◌<◌, ◌==◌, Bool, true, false, not, ◌&&◌, ◌||◌, List, [], ◌∷◌, length, get_or, refl, ap, ◌∙◌, arith}
use Rattle.std.proofs.lemmas.Bool.Decides.{nat_tests}
use Rattle.scan_values.specs.Selections.{is_among}
use Rattle.scan_splits.specs.Wanted.{no_repeats}

-- ---- tests of numbers
pub same_numbers : (a b : ℕ) → a ≡ b → (a == b) ≡ true
same_numbers a b h = grind (arith, nat_tests, h)

pub other_numbers : (a b : ℕ) → a < b → (a == b) ≡ false
other_numbers a b h = grind (arith, nat_tests, h)

pub either_way : (a b : ℕ) → (a == b) ≡ (b == a)
either_way a b = go (a == b) (b == a) refl refl
  where
    go : (x y : Bool) → (a == b) ≡ x → (b == a) ≡ y → x ≡ y
    go true true p q = refl
    go false false p q = refl
    go true false p q = absurd (grind (arith, nat_tests))
    go false true p q = absurd (grind (arith, nat_tests))

-- ---- numbers of which none stands twice
pub among_at : (ids : List ℕ) (i e : ℕ) → i < length ids → is_among ids (get_or ids i e) ≡ true
among_at [] i e lt = absurd (omega arith)
among_at (x ∷ ids) zero e lt = let on : (x == x) ≡ true = grind (arith, nat_tests) in rw on refl
among_at (x ∷ ids) (suc i) e lt = go (x == get_or ids i e) (among_at ids i e (omega arith)) where
  go : (b : Bool) → is_among ids (get_or ids i e) ≡ true → (b || is_among ids (get_or ids i e)) ≡ true
  go true h = refl
  go false h = h

first-apart : (a b : Bool) → (not a && b) ≡ true → (a ≡ false) × (b ≡ true)
first-apart true b h = cc
first-apart false b h = (refl, h)

pub stand_once : (ids : List ℕ) → no_repeats ids ≡ true → (i j : ℕ) → i < j → j < length ids → get_or ids i 0 ≢ get_or ids j 0
stand_once [] h i j l m e = omega (arith, m)
stand_once (x ∷ ids) h i zero l m e = omega (arith, l)
stand_once (x ∷ ids) h zero (suc j) l m e =
    let here : is_among ids x ≡ true = ap (is_among ids) e ∙ among_at ids j 0 (omega arith) in
    let none : is_among ids x ≡ false = (first-apart (is_among ids x) (no_repeats ids) h).0 in
    cc
stand_once (x ∷ ids) h (suc i) (suc j) l m e = stand_once ids (first-apart (is_among ids x) (no_repeats ids) h).1 i j (omega arith) (omega arith) e
