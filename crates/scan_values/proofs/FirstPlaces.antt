-- The places of names, from the last to the first.
use Rattle.std.proofs.Common.{◌≡◌, ℕ, ◌+◌, ◌-◌, ◌<◌, ◌≤◌, suc, Bool, true, false, cond, not, nat_lt, List, [], ◌∷◌, length, get_or, drop, Option, Some, None, bytes_eq, refl, sym, ap, ◌∙◌, add-one, arith}
use Rattle.std.proofs.Math.Seq.{drop-cons}
use Rattle.std.specs.List.{position, position_from, position_or_len}
use Rattle.std.proofs.lemmas.Bool.Decides.{nat_tests}
use Rattle.scan_values.specs.DataType.{Name}
use Rattle.scan_values.proofs.Named.{same_bytes}

-- the test lifted from the first place on
from : (t : Name → Bool) (i : ℕ) (ns : List Name) → position_from t i ns ≡ cond (nat_lt (position_or_len t ns) (length ns)) (Some (i + position_or_len t ns)) None
from t i [] = refl
from t i (n ∷ ns) = first (t n) (from t (i + 1) ns)
  where
    p : ℕ
    p = position_or_len t ns

    less : nat_lt (1 + p) (suc (length ns)) ≡ nat_lt p (length ns)
    less = grind (arith, nat_tests)

    sum : i + 1 + p ≡ i + (1 + p)
    sum = omega arith

    here : nat_lt 0 (suc (length ns)) ≡ true
    here = grind (arith, nat_tests)

    first : (b : Bool) → position_from t (i + 1) ns ≡ cond (nat_lt p (length ns)) (Some (i + 1 + p)) None → cond b (Some i) (position_from t (i + 1) ns) ≡ cond (nat_lt (cond (not b) (1 + p) 0) (suc (length ns))) (Some (i + cond (not b) (1 + p) 0)) None
    first true h = rw here (ap Some (let e : i ≡ i + 0 = omega arith in e))
    first false h = h ∙ rw (less, sum) refl

-- one more name before those that have their places
pub place_turn : (ns : List Name) (k i : ℕ) (m : Name) (old new : Name → Option ℕ) → k < length ns → i ≡ length ns - 1 - k → m ≡ get_or ns i m
    → ((n : Name) → old n ≡ position_from (bytes_eq n) (length ns - k) (drop (length ns - k) ns)) → ((n : Name) → new n ≡ cond (bytes_eq m n) (Some i) (old n))
    → (n : Name) → new n ≡ position_from (bytes_eq n) (length ns - (k + 1)) (drop (length ns - (k + 1)) ns)
place_turn ns k i m old new h e at was is n =
    let a : length ns - (k + 1) ≡ i = omega (arith, e) in
    let b : length ns - k ≡ i + 1 = omega (arith, e) in
    let l : i < length ns = omega (arith, e) in
    is n ∙ rw (a, was n, b, same_bytes m n) (sym (rw (drop-cons ns i m, ← at) (ap (λ j. cond (bytes_eq n m) (Some i) (position_from (bytes_eq n) (i + 1) (drop j ns))) (sym (add-one i)))))

pub place_all : (ns : List Name) (k : ℕ) (n : Name) → length ns ≤ k → position_from (bytes_eq n) (length ns - k) (drop (length ns - k) ns) ≡ position (bytes_eq n) ns
place_all ns k n h =
    let e : length ns - k ≡ 0 = omega (arith, h) in
    let p : 0 + position_or_len (bytes_eq n) ns ≡ position_or_len (bytes_eq n) ns = omega arith in
    rw e (from (bytes_eq n) 0 ns ∙ rw p refl)
