-- Sums that are not far from nought.
use Rattle.std.proofs.Common.{◌≡◌, ℕ, ◌+◌, ◌*◌, ◌^◌, ◌<◌, ◌≤◌, Bool, true, false, ◌&&◌, List, ◌++◌, length, get_or, take, set, refl, sym, subst, arith, ℤ, pos, negsuc, ◌+ℤ◌, unsigned_abs}
use Rattle.std.specs.Prelude.{All, Option, None, Some, replicate}
use Rattle.std.proofs.lemmas.Int.{ints}
use Rattle.std.proofs.lemmas.List.Elements.{All-append, All-more, All-replicate, All-set, All-weaker}
use Rattle.scan_groups.specs.Totals.{no_sum}
use Rattle.scan_groups.specs.Within.{AreWithin, IsShort, IsWithin}
use Rattle.scan_groups.specs.declared.sum.Sum.{Sum}

-- further sums of no values
pub within_grown : (m : Option ℕ) (ss gs : List Sum) (n : ℕ) → gs ≡ ss ++ replicate n no_sum → AreWithin m ss → AreWithin m gs
within_grown None ss gs n e h = tt
within_grown (Some m) ss gs n e h = subst (All (IsWithin m)) (sym e) (All-append (IsWithin m) ss (replicate n no_sum) h (All-replicate (IsWithin m) n no_sum (omega arith)))

-- a sum and a short number
pub sum_within : (a b : ℤ) (k : ℕ) → unsigned_abs a ≤ k → unsigned_abs b ≤ 2 ^ 31 → unsigned_abs (a +ℤ b) ≤ k + 2 ^ 31
sum_within (pos a) (pos b) k h s = omega (arith, ints, h, s)
sum_within (pos a) (negsuc b) k h s = omega (arith, ints, h, s)
sum_within (negsuc a) (pos b) k h s = omega (arith, ints, h, s)
sum_within (negsuc a) (negsuc b) k h s = omega (arith, ints, h, s)

-- one more short number at a place
pub within_more : (ss : List Sum) (p i most : ℕ) (s : Sum) (z n : ℤ) → p < length ss → All (IsWithin (most + i * 2 ^ 31)) ss → s.near ≡ z +ℤ n → unsigned_abs z ≤ most + i * 2 ^ 31 → IsShort n
    → All (IsWithin (most + (i + 1) * 2 ^ 31)) (set ss p s)
within_more ss p i most s z n lt h is w short =
    All-set (IsWithin (most + (i + 1) * 2 ^ 31)) ss p s (let t = subst (λ x. unsigned_abs x ≤ (most + i * 2 ^ 31) + 2 ^ 31) (sym is) (sum_within z n (most + i * 2 ^ 31) w short) in omega (arith, t))
    (All-weaker (IsWithin (most + i * 2 ^ 31)) (IsWithin (most + (i + 1) * 2 ^ 31)) (λ (t : Sum) (le : IsWithin (most + i * 2 ^ 31) t). omega (arith, le)) ss h)

and_both : (a b : Bool) → (a && b) ≡ true → (a ≡ true) × (b ≡ true)
and_both true b h = (refl, h)
and_both false b h = absurd (let z : false ≡ true = h in cc)

-- one more number is looked at
pub short_more : (zs : List ℤ) (i : ℕ) (a b : Bool) → i < length zs → (a ≡ true → All IsShort (take i zs)) → (b ≡ true → IsShort (get_or zs i (pos 0))) → (a && b) ≡ true → All IsShort (take (i + 1) zs)
short_more zs i a b lt before one h = let e = and_both a b h in All-more IsShort zs i (pos 0) lt (before e.0) (one e.1)
