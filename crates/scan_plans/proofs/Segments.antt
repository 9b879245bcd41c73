-- The values of a segment at the true rows of a mask.
use Rattle.std.proofs.Common.{◌≡◌, ℕ, zero, suc, ◌+◌, ◌-◌, ◌≤◌, Bool, true, false, List, [], ◌∷◌, map, take, drop, length, get_or, Option, Some, None, refl, ap, ◌∙◌, sym, arith}
use Rattle.std.specs.Prelude.{slice_range, option_and_then}
use Rattle.scan_spelling.specs.Spelling.{decode}
use Rattle.scan_spelling.proofs.Lengths.{decode_length}
use Rattle.std.specs.List.{items_where_true}
use Rattle.scan_values.specs.Val.{Val, null_val, marked}
use Rattle.scan_segments.specs.Source.{Store}
use Rattle.scan_spelling.specs.Places.{Place, decoded}
use Rattle.scan_layout.specs.RowValue.{segment_value, item_of}
use Rattle.scan_plans.specs.Meaning.{true_rows}

pub next_drop : {A : Type 0} (k : ℕ) (xs : List A) (x : A) (ys : List A) → drop k xs ≡ x ∷ ys → drop (k + 1) xs ≡ ys
next_drop zero [] x ys h = absurd cc
next_drop zero (w ∷ xs) x ys h = cc
next_drop (suc k) [] x ys h = absurd cc
next_drop (suc k) (w ∷ xs) x ys h = ap (λ n. drop n (w ∷ xs)) moved ∙ next_drop k xs x ys h
  where
    moved : suc k + 1 ≡ suc (k + 1)
    moved = omega arith

pub at_drop : {A : Type 0} (d : A) (k : ℕ) (xs : List A) (x : A) (ys : List A) → drop k xs ≡ x ∷ ys → get_or xs k d ≡ x
at_drop d zero [] x ys h = absurd cc
at_drop d zero (w ∷ xs) x ys h = cc
at_drop d (suc k) [] x ys h = absurd cc
at_drop d (suc k) (w ∷ xs) x ys h = at_drop d k xs x ys h

picked_at : (all vs : List Val) (k : ℕ) (bits : List Bool) → drop k all ≡ vs → length bits ≤ length vs
    → map marked (items_where_true bits (take (length bits) vs)) ≡ map (λ i. marked (get_or all i null_val)) (true_rows k bits)
picked_at all vs k [] e h = refl
picked_at all [] k (b ∷ bits) e h = absurd (omega (arith, h))
picked_at all (v ∷ vs) k (b ∷ bits) e h = first b (picked_at all vs (k + 1) bits (next_drop k all v vs e) (omega (arith, h)))
  where
    first : (b : Bool) → map marked (items_where_true bits (take (length bits) vs)) ≡ map (λ i. marked (get_or all i null_val)) (true_rows (k + 1) bits)
        → map marked (items_where_true (b ∷ bits) (v ∷ take (length bits) vs)) ≡ map (λ i. marked (get_or all i null_val)) (true_rows k (b ∷ bits))
    first true rest = rw (at_drop null_val k all v vs e) (ap (λ xs. marked v ∷ xs) rest)
    first false rest = rest

drop_length : {A : Type 0} (k n : ℕ) (xs : List A) → k + n ≤ length xs → n ≤ length (drop k xs)
drop_length zero n xs h = omega (arith, h)
drop_length (suc k) n [] h = absurd (omega (arith, h))
drop_length (suc k) n (x ∷ xs) h = drop_length k n xs (omega (arith, h))

pub segment_items : (store : Store) (p : Place) (vs : List Val) (skip : ℕ) (bits : List Bool) → decoded store p ≡ Some vs → skip + length bits ≤ length vs
    → map marked (items_where_true bits (slice_range vs skip (skip + length bits))) ≡ map (segment_value store p) (true_rows skip bits)
segment_items store p vs skip bits e h =
    let n : (skip + length bits) - skip ≡ length bits = omega arith in
    ap (λ m. map marked (items_where_true bits (take m (drop skip vs)))) n
    ∙ picked_at vs (drop skip vs) skip bits refl (drop_length skip (length bits) vs h)
    ∙ ap (λ o. map (λ i. item_of p.dtype i o) (true_rows skip bits)) (sym e)

-- the same, of rows of a leaf in which the segment begins at a row
pub moved_rows : (store : Store) (p : Place) (base skip : ℕ) (bits : List Bool) → map (segment_value store p) (true_rows skip bits) ≡ map (λ i. segment_value store p (i - base)) (true_rows (base + skip) bits)
moved_rows store p base skip [] = refl
moved_rows store p base skip (b ∷ bits) = first b (moved_rows store p base (skip + 1) bits ∙ ap (λ j. map (λ i. segment_value store p (i - base)) (true_rows j bits)) moved)
  where
    moved : base + (skip + 1) ≡ base + skip + 1
    moved = omega arith

    back : base + skip - base ≡ skip
    back = omega arith

    first : (b : Bool) → map (segment_value store p) (true_rows (skip + 1) bits) ≡ map (λ i. segment_value store p (i - base)) (true_rows (base + skip + 1) bits)
        → map (segment_value store p) (true_rows skip (b ∷ bits)) ≡ map (λ i. segment_value store p (i - base)) (true_rows (base + skip) (b ∷ bits))
    first true rest = rw back (ap (λ xs. segment_value store p skip ∷ xs) rest)
    first false rest = rest

-- a segment that is there and was read
pub read_there : (store : Store) (p : Place) (bytes : List ℕ) (vs : List Val) → store p.id ≡ Some bytes → decode p.spelling p.dtype p.rows bytes ≡ Some vs → decoded store p ≡ Some vs
read_there store p bytes vs e h = ap (option_and_then (decode p.spelling p.dtype p.rows)) e ∙ h

pub long_enough : (p : Place) (bytes : List ℕ) (vs : List Val) (n : ℕ) → decode p.spelling p.dtype p.rows bytes ≡ Some vs → n ≤ p.rows → n ≤ length vs
long_enough p bytes vs n h l = let z : length vs ≡ p.rows = decode_length p.spelling p.dtype p.rows bytes vs h in omega (arith, z, l)

pub slice_items : (vs : List Val) (k : ℕ) (bits : List Bool) → k + length bits ≤ length vs → map marked (items_where_true bits (slice_range vs k (k + length bits))) ≡ map (λ i. marked (get_or vs i null_val)) (true_rows k bits)
slice_items vs k bits h =
    let n : (k + length bits) - k ≡ length bits = omega arith in
    ap (λ m. map marked (items_where_true bits (take m (drop k vs)))) n
    ∙ picked_at vs (drop k vs) k bits refl (drop_length k (length bits) vs h)

-- a segment that decodes has its rows
pub decoded_long : (store : Store) (p : Place) (vs : List Val) → decoded store p ≡ Some vs → length vs ≡ p.rows
decoded_long store p vs h = at (store p.id) h
  where
    at : (o : Option (List ℕ)) → option_and_then (decode p.spelling p.dtype p.rows) o ≡ Some vs → length vs ≡ p.rows
    at None h = absurd cc
    at (Some bytes) h = decode_length p.spelling p.dtype p.rows bytes vs h
