-- Fields from a place on.
use Rattle.std.proofs.Common.{◌≡◌, ℕ, zero, suc, ◌+◌, ◌<◌, ◌≤◌, List, [], ◌∷◌, length, get_or, drop, zip, Bool, true, false, ◌&&◌, bytes_eq, add-one, refl, arith}
use Rattle.scan_values.specs.DataType.{DataType, Name, no_fields, field, fields_of}
use Rattle.scan_values.specs.Same.{same_type, same_fields}

fields_at : (xs : List Name) (ts : List DataType) (i : ℕ) (x : Name) (t : DataType) → i < length xs → length xs ≡ length ts → fields_of (zip (drop i xs) (drop i ts)) ≡ field (get_or xs i x) (get_or ts i t) (fields_of (zip (drop (i + 1) xs) (drop (i + 1) ts)))
fields_at [] ts i x t h e = absurd (omega arith)
fields_at (y ∷ ys) [] i x t h e = absurd (omega arith)
fields_at (y ∷ ys) (u ∷ us) zero x t h e = refl
fields_at (y ∷ ys) (u ∷ us) (suc i) x t h e = let h' : i < length ys = omega arith in let e' : length ys ≡ length us = omega arith in rw add-one (rw add-one at (fields_at ys us i x t h' e'))

and_false : (b : Bool) → (b && false) ≡ false
and_false true = refl
and_false false = refl

pub unequal_lengths : (xs : List Name) (ts : List DataType) (ys : List Name) (us : List DataType) → length xs ≡ length ts → length ys ≡ length us → (length xs ≡ length ys → ⊥) → same_fields (fields_of (zip xs ts)) (fields_of (zip ys us)) ≡ false
unequal_lengths [] ts [] us e f ne = absurd (ne refl)
unequal_lengths [] ts (y ∷ ys) [] e f ne = absurd (omega arith)
unequal_lengths [] ts (y ∷ ys) (u ∷ us) e f ne = refl
unequal_lengths (x ∷ xs) [] ys us e f ne = absurd (omega arith)
unequal_lengths (x ∷ xs) (t ∷ ts) [] us e f ne = refl
unequal_lengths (x ∷ xs) (t ∷ ts) (y ∷ ys) [] e f ne = absurd (omega arith)
unequal_lengths (x ∷ xs) (t ∷ ts) (y ∷ ys) (u ∷ us) e f ne =
    let ih : same_fields (fields_of (zip xs ts)) (fields_of (zip ys us)) ≡ false = unequal_lengths xs ts ys us (omega arith) (omega arith) (λ same. ne (omega arith)) in
    rw ih (rw (and_false (same_type t u)) (and_false (bytes_eq x y)))

pub fields_past : (xs : List Name) (ts : List DataType) (i : ℕ) → length xs ≤ i → fields_of (zip (drop i xs) (drop i ts)) ≡ no_fields
fields_past [] ts zero h = refl
fields_past [] ts (suc i) h = refl
fields_past (x ∷ xs) ts zero h = absurd (omega arith)
fields_past (x ∷ xs) [] (suc i) h = past_none (drop i xs)
  where
    past_none : (xs : List Name) → fields_of (zip {X = DataType} xs []) ≡ no_fields
    past_none [] = refl
    past_none (x ∷ xs) = refl
fields_past (x ∷ xs) (t ∷ ts) (suc i) h = fields_past xs ts i (omega arith)

pub fields_eq_at : (xs : List Name) (ts : List DataType) (ys : List Name) (us : List DataType) (i : ℕ) (x : Name) (t : DataType) (y : Name) (u : DataType) → i < length xs → length xs ≡ length ts → length xs ≡ length ys → length ys ≡ length us
    → x ≡ get_or xs i x → t ≡ get_or ts i t → y ≡ get_or ys i y → u ≡ get_or us i u
    → same_fields (fields_of (zip (drop i xs) (drop i ts))) (fields_of (zip (drop i ys) (drop i us))) ≡ (bytes_eq x y && (same_type t u && same_fields (fields_of (zip (drop (i + 1) xs) (drop (i + 1) ts))) (fields_of (zip (drop (i + 1) ys) (drop (i + 1) us)))))
fields_eq_at xs ts ys us i x t y u h e f g px pt py pu =
    let j : i < length ys = omega arith in
    rw (fields_at xs ts i x t h e, fields_at ys us i y u j g, ← px, ← pt, ← py, ← pu) refl
