-- Rows that are strictly inside a range, from a place in a list on.
use Rattle.std.proofs.Common.{◌≡◌, ℕ, zero, suc, ◌+◌, ◌<◌, ◌≤◌, List, [], ◌∷◌, ◌++◌, length, get_or, take, drop, filter, Bool, true, false, ◌&&◌, nat_lt, arith, refl, sym, ap, ◌∙◌, add-one, length-drop}
use Rattle.std.specs.List.Sorted.{IsNonDecreasing}
use Rattle.std.proofs.lemmas.List.{take-append-drop, get_or-drop, get_or-take, length-take}
use Rattle.std.proofs.lemmas.Bool.Decides.{nat_tests}
use Rattle.std.proofs.lemmas.List.Elements.{filter-append}
use Rattle.scan_layout.specs.Edges.{is_inside, segment_ends}
use Rattle.scan_splits.proofs.Runs.{ends_at}

and_false : (b : Bool) → (b && false) ≡ false
and_false true = refl
and_false false = refl

pub not_inside : (lo hi row : ℕ) → hi ≤ row → is_inside lo hi row ≡ false
not_inside lo hi row h = let out : nat_lt row hi ≡ false = grind (arith, nat_tests) in ap (λ b. nat_lt lo row && b) out ∙ and_false (nat_lt lo row)

pub not_past : (lo hi row : ℕ) → row ≤ lo → is_inside lo hi row ≡ false
not_past lo hi row h = let out : nat_lt lo row ≡ false = grind (arith, nat_tests) in ap (λ b. b && nat_lt row hi) out

pub filter-first : (p : ℕ → Bool) (x : ℕ) (xs : List ℕ) → filter p (x ∷ xs) ≡ filter p (x ∷ []) ++ filter p xs
filter-first p x xs = filter-append p (x ∷ []) xs

-- segments that begin at the end or past it end past it
none_from : (lo hi base : ℕ) (gs : List (ℕ × ℕ)) → hi ≤ base → filter (is_inside lo hi) (segment_ends base gs) ≡ []
none_from lo hi base [] h = refl
none_from lo hi base (g ∷ gs) h = rw (not_inside lo hi (base + g.1) (omega arith)) (none_from lo hi (base + g.1) gs (omega arith))

module _ (lo hi : ℕ) (gs : List (ℕ × ℕ)) (i : ℕ) where
  pub inside_at : (begin end : ℕ) (g : ℕ × ℕ) → i < length gs → g ≡ get_or gs i g → end ≡ begin + g.1
      → filter (is_inside lo hi) (segment_ends begin (drop i gs)) ≡ filter (is_inside lo hi) (end ∷ []) ++ filter (is_inside lo hi) (segment_ends end (drop (i + 1) gs))
  inside_at begin end g h e sum = rw (ends_at begin gs i g h, ← e, ← sum) (filter-first (is_inside lo hi) end (segment_ends end (drop (i + 1) gs)))

  pub inside_past : (begin : ℕ) (g : ℕ × ℕ) → i < length gs → g ≡ get_or gs i g → hi ≤ begin + g.1 → filter (is_inside lo hi) (segment_ends begin (drop i gs)) ≡ []
  inside_past begin g h e out = rw (ends_at begin gs i g h, ← e, not_inside lo hi (begin + g.1) out) (none_from lo hi (begin + g.1) (drop (i + 1) gs) out)

-- rows that are all at the end or past it, and rows that are all at the start or before it
none_past : (lo hi : ℕ) (xs : List ℕ) → ((k : ℕ) → k < length xs → hi ≤ get_or xs k 0) → filter (is_inside lo hi) xs ≡ []
none_past lo hi [] h = refl
none_past lo hi (x ∷ xs) h = rw (not_inside lo hi x (h 0 (omega arith))) (none_past lo hi xs (λ k l. h (suc k) (omega arith)))

none_before : (lo hi : ℕ) (xs : List ℕ) → ((k : ℕ) → k < length xs → get_or xs k 0 ≤ lo) → filter (is_inside lo hi) xs ≡ []
none_before lo hi [] h = refl
none_before lo hi (x ∷ xs) h = rw (not_past lo hi x (h 0 (omega arith))) (none_before lo hi xs (λ k l. h (suc k) (omega arith)))

module _ (lo hi : ℕ) where
  pub rows_at : (xs : List ℕ) (i : ℕ) → i < length xs → filter (is_inside lo hi) (drop i xs) ≡ filter (is_inside lo hi) (get_or xs i 0 ∷ []) ++ filter (is_inside lo hi) (drop (i + 1) xs)
  rows_at [] i h = absurd (omega arith)
  rows_at (x ∷ xs) zero h = filter-first (is_inside lo hi) x xs
  rows_at (x ∷ xs) (suc i) h = let h' : i < length xs = omega arith in rw add-one (rw add-one at (rows_at xs i h'))

  pub rows_past : (xs : List ℕ) (i : ℕ) → IsNonDecreasing xs → i < length xs → hi ≤ get_or xs i 0 → filter (is_inside lo hi) (drop i xs) ≡ []
  rows_past xs i up h out = none_past lo hi (drop i xs) (λ k l. let n = length-drop i xs in let at = get_or-drop i xs k 0 in let far = up i (i + k) 0 (omega arith) (omega arith) in omega arith)

  pub rows_from : (xs : List ℕ) (i : ℕ) → ((k : ℕ) → k < i → k < length xs → get_or xs k 0 ≤ lo) → filter (is_inside lo hi) (drop i xs) ≡ filter (is_inside lo hi) xs
  rows_from xs i low =
      let none : filter (is_inside lo hi) (take i xs) ≡ [] = none_before lo hi (take i xs) (λ k l. let n = length-take i xs in let at = get_or-take i xs k 0 (omega arith) in let small = low k (omega arith) (omega arith) in omega arith) in
      ap (λ front. front ++ filter (is_inside lo hi) (drop i xs)) (sym none) ∙ sym (filter-append (is_inside lo hi) (take i xs) (drop i xs)) ∙ ap (filter (is_inside lo hi)) (take-append-drop i xs)
