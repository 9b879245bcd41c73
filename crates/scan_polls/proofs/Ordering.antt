-- Lists with numbers left out, and numbers that rise.
use Rattle.std.proofs.Common.{◌≡◌, ◌≤◌, ℕ, zero, suc, List, [], ◌∷◌, ◌++◌, length, inl, inr, refl, subst, ◌∙◌, arith}
use Rattle.std.specs.List.{remove}
use Rattle.scan_multi_sources.specs.Files.{SlotData}
use Rattle.scan_polls.specs.Due.{IsPartOf, RiseFrom, RiseUpTo, places_begun}

pub part_self : (xs : List ℕ) → IsPartOf xs xs
part_self [] = tt
part_self (x ∷ xs) = inl (refl, part_self xs)

pub part_same : (xs ys : List ℕ) → xs ≡ ys → IsPartOf xs ys
part_same xs ys e = subst (IsPartOf xs) e (part_self xs)

-- one more in the second
pub part_over : (xs : List ℕ) (y : ℕ) (ys : List ℕ) → IsPartOf xs ys → IsPartOf xs (y ∷ ys)
part_over [] y ys h = tt
part_over (x ∷ xs) y ys h = inr h

-- the same before both
pub part_before : (ls xs ys : List ℕ) → IsPartOf xs ys → IsPartOf (ls ++ xs) (ls ++ ys)
part_before [] xs ys h = h
part_before (a ∷ ls) xs ys h = inl (refl, part_before ls xs ys h)

pub part_then : (xs ys zs : List ℕ) → IsPartOf xs ys → IsPartOf ys zs → IsPartOf xs zs
part_then [] ys zs h k = tt
part_then (x ∷ xs) [] zs h k = absurd h
part_then (x ∷ xs) (y ∷ ys) [] h k = absurd k
part_then (x ∷ xs) (y ∷ ys) (z ∷ zs) (inl h) (inl k) = inl (h.0 ∙ k.0, part_then xs ys zs h.1 k.1)
part_then (x ∷ xs) (y ∷ ys) (z ∷ zs) (inr h) (inl k) = inr (part_then (x ∷ xs) ys zs h k.1)
part_then (x ∷ xs) (y ∷ ys) (z ∷ zs) h (inr k) = inr (part_then (x ∷ xs) (y ∷ ys) zs h k)

-- without a file that was begun
pub part_removed : (ws : List SlotData) (i : ℕ) (rest : List ℕ) → IsPartOf (places_begun (remove ws i) ++ rest) (places_begun ws ++ rest)
part_removed [] zero rest = part_self rest
part_removed [] (suc i) rest = part_self rest
part_removed (w ∷ ws) zero rest = part_over (places_begun ws ++ rest) w.place (places_begun ws ++ rest) (part_self (places_begun ws ++ rest))
part_removed (w ∷ ws) (suc i) rest = inl (refl, part_removed ws i rest)

pub shorter : (ws : List SlotData) (i : ℕ) → length (remove ws i) ≤ length ws
shorter [] zero = omega arith
shorter [] (suc i) = omega arith
shorter (w ∷ ws) zero = omega arith
shorter (w ∷ ws) (suc i) = let rest = shorter ws i in omega (arith, rest)

-- ---- numbers that rise
pub rise_lower : (a b : ℕ) (xs : List ℕ) (m : ℕ) → a ≤ b → RiseUpTo b xs m → RiseUpTo a xs m
rise_lower a b [] m l h = omega (arith, l, h)
rise_lower a b (x ∷ xs) m l h = let first = h.0 in (omega (arith, l, first), h.1)

pub rise_then : (a b c : ℕ) (xs ys : List ℕ) → RiseUpTo a xs b → RiseUpTo b ys c → RiseUpTo a (xs ++ ys) c
rise_then a b c [] ys h k = rise_lower a b ys c h k
rise_then a b c (x ∷ xs) ys h k = (h.0, rise_then (suc x) b c xs ys h.1 k)

pub rise_from : (a b : ℕ) (xs : List ℕ) → RiseUpTo a xs b → RiseFrom a xs
rise_from a b [] h = tt
rise_from a b (x ∷ xs) h = (h.0, rise_from (suc x) b xs h.1)
