-- Ends that rise end with the greatest.
use Rattle.std.proofs.Common.{◌≡◌, ◌≤◌, ◌<◌, ◌+◌, ◌-◌, ℕ, List, [], ◌∷◌, ◌++◌, suc, length, drop, take, get_or, map, pos, ℤ, arith, refl, ap, sym, ◌∙◌, drop-cons, add-one, subst, set, append_assoc}
use Rattle.std.proofs.lemmas.List.{take_more_set}
use Rattle.scan_columns.specs.Nested.{sizes, Rises}
use Rattle.scan_columns.specs.LastEnds.{last_from}

pub rises_to_last : (a : ℕ) (ns : List ℕ) → Rises a ns → a ≤ last_from a ns
rises_to_last a [] h = omega arith
rises_to_last a (n ∷ ns) h = omega (arith, h.0, rises_to_last n ns h.1)

pub rest_is : (ns : List ℕ) (i : ℕ) → i < length ns → drop i ns ≡ get_or ns i 0 ∷ drop (i + 1) ns
rest_is ns i low = rw (add-one) (drop-cons ns i 0 low)

pub next_rises : (a : ℕ) (ns : List ℕ) (i : ℕ) → i < length ns → Rises a (drop i ns) → (a ≤ get_or ns i 0) × Rises (get_or ns i 0) (drop (i + 1) ns)
next_rises a ns i low h = subst (λ xs. Rises a xs) (rest_is ns i low) h

pub next_last : (a : ℕ) (ns : List ℕ) (i : ℕ) → i < length ns → last_from a (drop i ns) ≡ last_from (get_or ns i 0) (drop (i + 1) ns)
next_last a ns i low = ap (last_from a) (rest_is ns i low)

pub next_below : (a most : ℕ) (ns : List ℕ) (i : ℕ) → i < length ns → Rises a (drop i ns) → last_from a (drop i ns) < most → get_or ns i 0 < most
next_below a most ns i low h l =
    omega (arith, rises_to_last (get_or ns i 0) (drop (i + 1) ns) (next_rises a ns i low h).1, next_last a ns i low, l)

-- a size more is written
pub sizes_step : (a : ℕ) (ns : List ℕ) (xs : List ℤ) (i : ℕ) (z : ℤ) (whole : List ℤ) → i < length ns → length xs ≡ length ns → z ≡ pos (get_or ns i 0 - a)
    → take i xs ++ map pos (sizes a (drop i ns)) ≡ whole → take (i + 1) (set xs i z) ++ map pos (sizes (get_or ns i 0) (drop (i + 1) ns)) ≡ whole
sizes_step a ns xs i z whole low even e inv =
    let rest : List ℤ = map pos (sizes (get_or ns i 0) (drop (i + 1) ns)) in
    let room : i < length xs = omega (arith, low, even) in
    (λ j. take_more_set xs i z room j ++ rest) ∙ append_assoc (take i xs) (z ∷ []) rest ∙ (λ j. take i xs ++ e j ∷ rest)
    ∙ (λ j. take i xs ++ map pos (sizes a (sym (rest_is ns i low) j))) ∙ inv

last_at : (x : ℕ) (xs : List ℕ) → get_or (x ∷ xs) (length xs) 0 ≡ last_from x xs
last_at x [] = refl
last_at x (y ∷ xs) = last_at y xs

-- the last end is where the last list ends
pub last_is : (a : ℕ) (xs : List ℕ) → 0 < length xs → get_or xs (length xs - 1) 0 ≡ last_from a xs
last_is a [] h = absurd (omega (arith, h))
last_is a (x ∷ xs) h = let z : suc (length xs) - 1 ≡ length xs = omega arith in ap (λ n. get_or (x ∷ xs) n 0) z ∙ last_at x xs

-- where there is no list the last ends at the first number
pub none_is : (a : ℕ) (xs : List ℕ) → length xs ≡ 0 → last_from a xs ≡ a
none_is a [] h = refl
none_is a (x ∷ xs) h = absurd (omega (arith, h))
