-- Groups of bits.
use Rattle.std.proofs.Common.{◌≡◌, ℕ, zero, suc, ◌-◌, ◌*◌, ◌/◌, ◌%◌, ◌^◌, ◌<◌, ◌≢◌, List, [], ◌∷◌, ◌++◌, length, get_or, take, drop, replicate, arith, refl, sym, ◌∙◌, ap, subst, Bool, false, true, ◌&&◌, Option, Some, None}
use Rattle.std.specs.Prelude.{◌==◌}
use Rattle.std.specs.Int.{bit_at}
use Rattle.std.proofs.lemmas.Nat.Bits.{bit_at-lt}
use Rattle.std.proofs.lemmas.Bool.{eqb-true, eq-eqb}
use Rattle.std.proofs.lemmas.List.{length-take-le, length-drop, take-append-drop, drop_all}
use Rattle.std.proofs.Math.Seq.{take-append_seam, drop-append_seam}
use Rattle.scan_spelling.specs.Spelling.{byte_bits, bits_of, are_zero, bytes_for, bit_group}
use Rattle.scan_spelling.specs.Spells.{AreBits}

-- the bit of a row
pub bit_here : (bytes : List ℕ) (i : ℕ) → i / 8 < length bytes → bit_at (get_or bytes (i / 8) 0) (i % 8) ≡ get_or (bits_of bytes) i 0
bit_here [] i h = absurd (omega arith)
bit_here (b ∷ bytes) zero h = refl
bit_here (b ∷ bytes) (suc zero) h = refl
bit_here (b ∷ bytes) (suc (suc zero)) h = refl
bit_here (b ∷ bytes) (suc (suc (suc zero))) h = refl
bit_here (b ∷ bytes) (suc (suc (suc (suc zero)))) h = refl
bit_here (b ∷ bytes) (suc (suc (suc (suc (suc zero))))) h = refl
bit_here (b ∷ bytes) (suc (suc (suc (suc (suc (suc zero)))))) h = refl
bit_here (b ∷ bytes) (suc (suc (suc (suc (suc (suc (suc zero))))))) h = refl
bit_here (b ∷ bytes) (suc (suc (suc (suc (suc (suc (suc (suc i)))))))) h =
    let place : suc (suc (suc (suc (suc (suc (suc (suc i))))))) / 8 ≡ suc (i / 8) = omega arith in
    let within : suc (suc (suc (suc (suc (suc (suc (suc i))))))) % 8 ≡ i % 8 = omega arith in
    rw (place, within) (bit_here bytes i (omega arith))

pub bits_length : (bytes : List ℕ) → length (bits_of bytes) ≡ 8 * length bytes
bits_length [] = refl
bits_length (b ∷ bytes) = omega (arith, bits_length bytes)

pub bits_small : (bytes : List ℕ) (i : ℕ) → get_or (bits_of bytes) i 0 < 2
bits_small [] zero = omega arith
bits_small [] (suc i) = omega arith
bits_small (b ∷ bytes) zero = bit_at-lt b 0
bits_small (b ∷ bytes) (suc zero) = bit_at-lt b 1
bits_small (b ∷ bytes) (suc (suc zero)) = bit_at-lt b 2
bits_small (b ∷ bytes) (suc (suc (suc zero))) = bit_at-lt b 3
bits_small (b ∷ bytes) (suc (suc (suc (suc zero)))) = bit_at-lt b 4
bits_small (b ∷ bytes) (suc (suc (suc (suc (suc zero))))) = bit_at-lt b 5
bits_small (b ∷ bytes) (suc (suc (suc (suc (suc (suc zero)))))) = bit_at-lt b 6
bits_small (b ∷ bytes) (suc (suc (suc (suc (suc (suc (suc zero))))))) = bit_at-lt b 7
bits_small (b ∷ bytes) (suc (suc (suc (suc (suc (suc (suc (suc i)))))))) = bits_small bytes i

-- a test and its parts
pub both_true : (a b : Bool) → (a && b) ≡ true → (a ≡ true) × (b ≡ true)
both_true true b e = (refl, e)
both_true false b e = absurd cc

zeros_are : (bits : List ℕ) → are_zero bits ≡ true → bits ≡ replicate (length bits) 0
zeros_are [] e = refl
zeros_are (b ∷ bits) e =
    let both = both_true (b == 0) (are_zero bits) e in
    λ i. eqb-true b 0 both.0 i ∷ zeros_are bits both.1 i

are_zeros : (n : ℕ) → are_zero (replicate n 0) ≡ true
are_zeros zero = refl
are_zeros (suc n) = are_zeros n

abbrev list_in : Option (List ℕ) → List ℕ
list_in None = []
list_in (Some xs) = xs

pub group_is : (n : ℕ) (bits bytes : List ℕ) → bit_group n bytes ≡ Some bits → AreBits n bits bytes
group_is n bits bytes e = by_test ((length bytes == bytes_for n) && are_zero (drop n (bits_of bytes))) refl
  where
    by_test : (b : Bool) → ((length bytes == bytes_for n) && are_zero (drop n (bits_of bytes))) ≡ b → AreBits n bits bytes
    by_test true p =
        let both = both_true (length bytes == bytes_for n) (are_zero (drop n (bits_of bytes))) p in
        let many : length bytes ≡ bytes_for n = eqb-true (length bytes) (bytes_for n) both.0 in
        let some : Some (take n (bits_of bytes)) ≡ Some bits = rw p at e in
        let same : take n (bits_of bytes) ≡ bits = ap list_in some in
        let all : length (bits_of bytes) ≡ 8 * bytes_for n = bits_length bytes ∙ ap (λ k. 8 * k) many in
        let left : length (drop n (bits_of bytes)) ≡ 8 * bytes_for n - n = length-drop n (bits_of bytes) ∙ ap (λ k. k - n) all in
        let rest : drop n (bits_of bytes) ≡ replicate (8 * bytes_for n - n) 0 = zeros_are (drop n (bits_of bytes)) both.1 ∙ ap (λ k. replicate {A = ℕ} k 0) left in (
          ap length (sym same) ∙ length-take-le n (bits_of bytes) (omega (arith, all)),
          many,
          sym (take-append-drop n (bits_of bytes)) ∙ (λ i. same i ++ rest i),
        )
    by_test false p = let none : None ≡ Some bits = rw p at e in absurd cc

pub is_group : (n : ℕ) (bits bytes : List ℕ) → AreBits n bits bytes → bit_group n bytes ≡ Some bits
is_group n bits bytes h =
    let zeros : List ℕ = replicate (8 * bytes_for n - n) 0 in
    let front : take n (bits_of bytes) ≡ bits = ap (take n) h.2 ∙ ap (λ k. take k (bits ++ zeros)) (sym h.0) ∙ take-append_seam bits zeros in
    let after : drop n (bits_of bytes) ≡ zeros = ap (drop n) h.2 ∙ ap (λ k. drop k (bits ++ zeros)) (sym h.0) ∙ drop-append_seam bits zeros in
    rw (eq-eqb (length bytes) (bytes_for n) h.1, after, are_zeros (8 * bytes_for n - n), front) refl

-- The bits after the last row, in the last byte.

abbrev all_below : ℕ → (ℕ → Bool) → Bool
all_below zero f = true
all_below (suc n) f = f n && all_below n f

below_next : (n : ℕ) (f : ℕ → Bool) (b : ℕ) → f n ≡ true → (b < n → f b ≡ true) → b < suc n → (t : Bool) → (b == n) ≡ t → f b ≡ true
below_next n f b here less h true p = ap f (eqb-true b n p) ∙ here
below_next n f b here less h false p = less (smaller (λ q. no_true (sym p ∙ eq-eqb b n q)))
  where
    no_true : false ≡ true → ⊥
    no_true q = absurd cc

    smaller : (b ≡ n → ⊥) → b < n
    smaller q = omega (arith, h, q)

below : (n : ℕ) (f : ℕ → Bool) → all_below n f ≡ true → (b : ℕ) → b < n → f b ≡ true
below zero f e b h = absurd (omega arith)
below (suc n) f e b h =
    let both = both_true (f n) (all_below n f) e in
    below_next n f b both.0 (below n f both.1 b) h (b == n) refl

abbrev same_bool : Bool → Bool → Bool
same_bool true b = b
same_bool false true = false
same_bool false false = true

same_is : (a b : Bool) → same_bool a b ≡ true → a ≡ b
same_is true true e = refl
same_is true false e = absurd cc
same_is false true e = absurd cc
same_is false false e = refl

abbrev spare : ℕ → ℕ → Bool
spare k b = same_bool (are_zero (drop k (byte_bits b))) (b / 2 ^ k == 0)

spare_is : (k : ℕ) → all_below 256 (spare k) ≡ true → (b : ℕ) → b < 256 → are_zero (drop k (byte_bits b)) ≡ (b / 2 ^ k == 0)
spare_is k e b h = same_is (are_zero (drop k (byte_bits b))) (b / 2 ^ k == 0) (below 256 (spare k) e b h)

-- where the rows end within a byte
pub spare_bits : (bytes : List ℕ) (n : ℕ) → length bytes ≡ bytes_for n → n % 8 ≢ 0 → get_or bytes (length bytes - 1) 0 < 256 → are_zero (drop n (bits_of bytes)) ≡ (get_or bytes (length bytes - 1) 0 / 2 ^ (n % 8) == 0)
spare_bits [] n e h low = absurd (h (omega arith))
spare_bits (b ∷ bytes) zero e h low = absurd (h refl)
spare_bits (b ∷ []) (suc zero) e h low = spare_is 1 refl b low
spare_bits (b ∷ []) (suc (suc zero)) e h low = spare_is 2 refl b low
spare_bits (b ∷ []) (suc (suc (suc zero))) e h low = spare_is 3 refl b low
spare_bits (b ∷ []) (suc (suc (suc (suc zero)))) e h low = spare_is 4 refl b low
spare_bits (b ∷ []) (suc (suc (suc (suc (suc zero))))) e h low = spare_is 5 refl b low
spare_bits (b ∷ []) (suc (suc (suc (suc (suc (suc zero)))))) e h low = spare_is 6 refl b low
spare_bits (b ∷ []) (suc (suc (suc (suc (suc (suc (suc zero))))))) e h low = spare_is 7 refl b low
spare_bits (b ∷ []) (suc (suc (suc (suc (suc (suc (suc (suc n)))))))) e h low = absurd (h (omega (arith, e)))
spare_bits (b ∷ c ∷ bytes) (suc zero) e h low = absurd (omega (arith, e))
spare_bits (b ∷ c ∷ bytes) (suc (suc zero)) e h low = absurd (omega (arith, e))
spare_bits (b ∷ c ∷ bytes) (suc (suc (suc zero))) e h low = absurd (omega (arith, e))
spare_bits (b ∷ c ∷ bytes) (suc (suc (suc (suc zero)))) e h low = absurd (omega (arith, e))
spare_bits (b ∷ c ∷ bytes) (suc (suc (suc (suc (suc zero))))) e h low = absurd (omega (arith, e))
spare_bits (b ∷ c ∷ bytes) (suc (suc (suc (suc (suc (suc zero)))))) e h low = absurd (omega (arith, e))
spare_bits (b ∷ c ∷ bytes) (suc (suc (suc (suc (suc (suc (suc zero))))))) e h low = absurd (omega (arith, e))
spare_bits (b ∷ c ∷ bytes) (suc (suc (suc (suc (suc (suc (suc (suc n)))))))) e h low =
    let within : suc (suc (suc (suc (suc (suc (suc (suc n))))))) % 8 ≡ n % 8 = omega arith in
    let some : n % 8 ≢ 0 = λ z. h (within ∙ z) in
    let one : length (b ∷ c ∷ bytes) - 1 ≡ suc (length bytes) = omega arith in
    let other : length bytes ≡ length (c ∷ bytes) - 1 = omega arith in
    let last : get_or (b ∷ c ∷ bytes) (length (b ∷ c ∷ bytes) - 1) 0 ≡ get_or (c ∷ bytes) (length (c ∷ bytes) - 1) 0 =
    ap (λ k. get_or (b ∷ c ∷ bytes) k 0) one ∙ ap (λ k. get_or (c ∷ bytes) k 0) other in
    spare_bits (c ∷ bytes) n (omega (arith, e)) some (subst (λ z. z < 256) last low) ∙ (λ i. sym last i / 2 ^ sym within i == 0)

-- where they end with one
pub no_spare_bits : (bytes : List ℕ) (n : ℕ) → length bytes ≡ bytes_for n → n % 8 ≡ 0 → are_zero (drop n (bits_of bytes)) ≡ true
no_spare_bits bytes n e h = ap are_zero (drop_all n (bits_of bytes) (omega (arith, bits_length bytes, e, h)))
