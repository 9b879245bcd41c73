-- Offsets that rise end with the greatest.
use Rattle.std.proofs.Common.{◌≡◌, ◌≤◌, ◌<◌, ◌+◌, ◌-◌, ℕ, List, [], ◌∷◌, ◌++◌, length, drop, take, get_or, map, pos, ℤ, arith, refl, ap, sym, ◌∙◌, drop-cons, add-one, subst, set, append_assoc}
use Rattle.std.proofs.lemmas.List.{take_more_set}
use Rattle.scan_values.specs.Val.{int_val}
use Rattle.scan_columns.specs.Nested.{sizes, sums, Rises}
use Rattle.scan_plans.specs.ListItems.{last_from, last_in, length_val}
use Rattle.scan_plans.proofs.ListCells.{ends_in, ends_are}

pub rises_to_last : (a : ℕ) (ns : List ℕ) → Rises a ns → a ≤ last_from a ns
rises_to_last a [] h = omega arith
rises_to_last a (n ∷ ns) h = omega (arith, h.0, rises_to_last n ns h.1)

pub rest_is : (ns : List ℕ) (i : ℕ) → i < length ns → drop i ns ≡ get_or ns i 0 ∷ drop (i + 1) ns
rest_is ns i low = rw (add-one) (drop-cons ns i 0 low)

pub next_rises : (a : ℕ) (ns : List ℕ) (i : ℕ) → i < length ns → Rises a (drop i ns) → (a ≤ get_or ns i 0) × Rises (get_or ns i 0) (drop (i + 1) ns)
next_rises a ns i low h = subst (λ xs. Rises a xs) (rest_is ns i low) h

pub next_last : (a : ℕ) (ns : List ℕ) (i : ℕ) → i < length ns → last_from a (drop i ns) ≡ last_from (get_or ns i 0) (drop (i + 1) ns)
next_last a ns i low = ap (last_from a) (rest_is ns i low)

pub next_below : (a most : ℕ) (ns : List ℕ) (i : ℕ) → i < length ns → Rises a (drop i ns) → last_from a (drop i ns) < most → get_or ns i 0 < most
next_below a most ns i low h l =
    omega (arith, rises_to_last (get_or ns i 0) (drop (i + 1) ns) (next_rises a ns i low h).1, next_last a ns i low, l)

-- a size more is written
pub sizes_step : (a : ℕ) (ns : List ℕ) (xs : List ℤ) (i : ℕ) (z : ℤ) (whole : List ℤ) → i < length ns → length xs ≡ length ns → z ≡ pos (get_or ns i 0 - a)
    → take i xs ++ map pos (sizes a (drop i ns)) ≡ whole → take (i + 1) (set xs i z) ++ map pos (sizes (get_or ns i 0) (drop (i + 1) ns)) ≡ whole
sizes_step a ns xs i z whole low even e inv =
    let rest : List ℤ = map pos (sizes (get_or ns i 0) (drop (i + 1) ns)) in
    let room : i < length xs = omega (arith, low, even) in
    (λ j. take_more_set xs i z room j ++ rest) ∙ append_assoc (take i xs) (z ∷ []) rest ∙ (λ j. take i xs ++ e j ∷ rest)
    ∙ (λ j. take i xs ++ map pos (sizes a (sym (rest_is ns i low) j))) ∙ inv

-- lengths are their numbers
pub lengths_are : (ns : List ℕ) → map int_val (map pos ns) ≡ map length_val ns
lengths_are [] = refl
lengths_are (n ∷ ns) = ap (λ vs. int_val (pos n) ∷ vs) (lengths_are ns)

-- the last of those after the first
pub opened_last : (xs : List ℕ) → 0 < length xs → last_from (get_or xs 0 0) (ends_in xs) ≡ last_in xs
opened_last [] h = absurd (omega (arith, h))
opened_last (x ∷ xs) h = ap (last_from x) (ends_are x xs)

-- places that rise, as if the first were 0
sums_from : (first a k : ℕ) (ns : List ℕ) → Rises a ns → first + k ≡ a → sums k (sizes a ns) ≡ map (λ n. n - first) ns
sums_from first a k [] h e = refl
sums_from first a k (n ∷ ns) h e =
    let next : k + (n - a) ≡ n - first = omega (arith, h.0, e) in
    let place : first + (k + (n - a)) ≡ n = omega (arith, h.0, e) in
    λ i. next i ∷ sums_from first n (k + (n - a)) ns h.1 place i

pub sums_are : (first : ℕ) (ns : List ℕ) → Rises first ns → sums 0 (sizes first ns) ≡ map (λ n. n - first) ns
sums_are first ns h = sums_from first first 0 ns h (omega arith)
