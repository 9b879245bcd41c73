-- The test for bytes and the fact.
use Rattle.std.proofs.Common.{◌≡◌, ℕ, zero, suc, ◌<◌, List, [], ◌∷◌, get_or, length, arith, refl, Bool, false, true, nat_lt, ◌&&◌}
use Rattle.std.proofs.lemmas.Bool.{ltb-true, lt-ltb}
use Rattle.scan_spelling.specs.Spelling.{are_bytes}
use Rattle.scan_spelling.proofs.Relation.{AreBytes}

and_parts : (a b : Bool) → (a && b) ≡ true → (a ≡ true) × (b ≡ true)
and_parts true b e = (refl, e)
and_parts false b e = absurd cc

pub bytes_small : (bytes : List ℕ) → are_bytes bytes ≡ true → AreBytes bytes
bytes_small [] e zero = omega arith
bytes_small [] e (suc i) = omega arith
bytes_small (b ∷ bytes) e zero = ltb-true b 256 (and_parts (nat_lt b 256) (are_bytes bytes) e).0
bytes_small (b ∷ bytes) e (suc i) = bytes_small bytes (and_parts (nat_lt b 256) (are_bytes bytes) e).1 i

pub small_bytes : (bytes : List ℕ) → AreBytes bytes → are_bytes bytes ≡ true
small_bytes [] h = refl
small_bytes (b ∷ bytes) h = rw (lt-ltb b 256 (h 0)) (small_bytes bytes (λ i. h (suc i)))

pub small_items : (bytes : List ℕ) → ((i : ℕ) → i < length bytes → get_or bytes i 0 < 256) → are_bytes bytes ≡ true
small_items [] h = refl
small_items (b ∷ bytes) h = rw (lt-ltb b 256 (h 0 (omega arith))) (small_items bytes (λ i below. h (suc i) (omega arith)))
