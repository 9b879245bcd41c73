-- Segments and the rows at which they end.
use Rattle.std.proofs.Common.{◌≡◌, ℕ, zero, suc, ◌+◌, ◌-◌, ◌<◌, ◌≤◌, List, [], ◌∷◌, length, get_or, take, drop, map, arith, add-one, zero-add, nat_le, true, false, refl, ap, ◌∙◌}
use Rattle.std.proofs.lemmas.List.Sums.{sum_by-drop_more, sum_by-cons}
use Rattle.std.specs.List.Sorted.{IsNonDecreasing}
use Rattle.std.proofs.lemmas.Bool.Decides.{nat_tests}
use Rattle.scan_layout.specs.Edges.{segment_ends}
use Rattle.scan_layout.specs.Check.{total_rows}
use Rattle.scan_splits.specs.Runs.{runs_of, start_of}

pub total_rows_at : (xs : List (ℕ × ℕ)) (i : ℕ) (d : ℕ × ℕ) → i < length xs → total_rows (drop i xs) ≡ (get_or xs i d).1 + total_rows (drop (i + 1) xs)
total_rows_at xs i d h = sum_by-drop_more (λ s. s.1) xs i d h

pub ends_at : (base : ℕ) (xs : List (ℕ × ℕ)) (i : ℕ) (d : ℕ × ℕ) → i < length xs → segment_ends base (drop i xs) ≡ (base + (get_or xs i d).1) ∷ segment_ends (base + (get_or xs i d).1) (drop (i + 1) xs)
ends_at base [] i d h = absurd (omega arith)
ends_at base (x ∷ xs) zero d h = refl
ends_at base (x ∷ xs) (suc i) d h = let h' : i < length xs = omega arith in rw add-one (rw add-one at (ends_at base xs i d h'))

pub ends_past : (base : ℕ) (xs : List (ℕ × ℕ)) (i : ℕ) → length xs ≤ i → segment_ends base (drop i xs) ≡ []
ends_past base [] zero h = refl
ends_past base [] (suc i) h = refl
ends_past base (x ∷ xs) zero h = absurd (omega arith)
ends_past base (x ∷ xs) (suc i) h = ends_past base xs i (omega arith)

-- segments are known by their ids and their ends
pub runs_again : (base : ℕ) (gs : List (ℕ × ℕ)) → runs_of base (map (λ g. g.0) gs) (segment_ends base gs) ≡ gs
runs_again base [] = refl
runs_again base (g ∷ gs) =
    let rows : base + g.1 - base ≡ g.1 = omega arith in
    (λ i. (g.0, rows i) ∷ runs_again (base + g.1) gs i)

pub length_ends : (base : ℕ) (gs : List (ℕ × ℕ)) → length (segment_ends base gs) ≡ length gs
length_ends base [] = refl
length_ends base (g ∷ gs) = ap suc (length_ends (base + g.1) gs)

total-cons : (g : ℕ × ℕ) (gs : List (ℕ × ℕ)) → total_rows (g ∷ gs) ≡ g.1 + total_rows gs
total-cons g gs = sum_by-cons (λ s. s.1) g gs

-- each end is the sum of the rows so far
pub end_is : (base : ℕ) (gs : List (ℕ × ℕ)) (i d : ℕ) → i < length gs → get_or (segment_ends base gs) i d ≡ base + total_rows (take (i + 1) gs)
end_is base [] i d h = absurd (omega arith)
end_is base (g ∷ gs) zero d h = omega (arith, total-cons g [])
end_is base (g ∷ gs) (suc i) d h =
    let h' : i < length gs = omega arith in
    let rest = end_is (base + g.1) gs i d h' in
    rw (add-one, total-cons g (take (suc i) gs)) (omega (arith, rw add-one at rest))

-- no segment begins before one before it
pub start_rises : (gs : List (ℕ × ℕ)) (i j : ℕ) → i ≤ j → start_of gs i ≤ start_of gs j
start_rises [] zero zero h = omega arith
start_rises [] zero (suc j) h = omega arith
start_rises [] (suc i) zero h = absurd (omega arith)
start_rises [] (suc i) (suc j) h = omega arith
start_rises (g ∷ gs) zero j h = omega arith
start_rises (g ∷ gs) (suc i) zero h = absurd (omega arith)
start_rises (g ∷ gs) (suc i) (suc j) h = omega (arith, start_rises gs i j (omega arith), total-cons g (take i gs), total-cons g (take j gs))

pub ends_rise : (gs : List (ℕ × ℕ)) → IsNonDecreasing (segment_ends 0 gs)
ends_rise gs i j d l h =
    let n = length_ends 0 gs in
    let low : i < length gs = omega arith in
    let high : j < length gs = omega arith in
    omega (arith, end_is 0 gs i d low, end_is 0 gs j d high, start_rises gs (i + 1) (j + 1) (omega arith))

pub end_at : (gs : List (ℕ × ℕ)) (ends : List ℕ) (i v : ℕ) → ends ≡ segment_ends 0 gs → i < length gs → v ≡ get_or ends i v → v ≡ start_of gs (i + 1)
end_at gs ends i v same h at = at ∙ ap (λ xs. get_or xs i v) same ∙ end_is 0 gs i v h ∙ zero-add (start_of gs (i + 1))

pub in_ends : (gs : List (ℕ × ℕ)) (ends : List ℕ) → ends ≡ segment_ends 0 gs → length ends ≡ length gs
in_ends gs ends same = ap length same ∙ length_ends 0 gs

pub ends_do_rise : (gs : List (ℕ × ℕ)) (ends : List ℕ) → ends ≡ segment_ends 0 gs → IsNonDecreasing ends
ends_do_rise gs ends same = rw same (ends_rise gs)

-- an end that is at most a row, and one that is not
pub end_by : (gs : List (ℕ × ℕ)) (ends : List ℕ) (row k : ℕ) → ends ≡ segment_ends 0 gs → k < length ends → nat_le (get_or ends k 0) row ≡ true → start_of gs (k + 1) ≤ row
end_by gs ends row k same h t = let n = in_ends gs ends same in let is : get_or ends k 0 ≡ start_of gs (k + 1) = ap (λ xs. get_or xs k 0) same ∙ end_is 0 gs k 0 (omega arith) ∙ zero-add (start_of gs (k + 1)) in grind (arith, nat_tests)

pub end_past : (gs : List (ℕ × ℕ)) (ends : List ℕ) (row k : ℕ) → ends ≡ segment_ends 0 gs → k < length ends → nat_le (get_or ends k 0) row ≡ false → row < start_of gs (k + 1)
end_past gs ends row k same h t = let n = in_ends gs ends same in let is : get_or ends k 0 ≡ start_of gs (k + 1) = ap (λ xs. get_or xs k 0) same ∙ end_is 0 gs k 0 (omega arith) ∙ zero-add (start_of gs (k + 1)) in grind (arith, nat_tests)

-- the ends of the first segments are at most a row that their starts are at most
pub ends_before : (gs : List (ℕ × ℕ)) (ends : List ℕ) (row first : ℕ) → ends ≡ segment_ends 0 gs → ((k : ℕ) → k < first → start_of gs (k + 1) ≤ row) → (k : ℕ) → k < first → k < length ends → get_or ends k 0 ≤ row
ends_before gs ends row first same low k h l =
    let n = in_ends gs ends same in
    let is : get_or ends k 0 ≡ start_of gs (k + 1) = ap (λ xs. get_or xs k 0) same ∙ end_is 0 gs k 0 (omega arith) ∙ zero-add (start_of gs (k + 1)) in
    let small = low k h in
    omega arith
