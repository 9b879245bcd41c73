-- The true rows of a mask, part by part.
use Rattle.std.proofs.Common.{◌≡◌, ℕ, zero, suc, ◌+◌, ◌-◌, ◌<◌, ◌≤◌, Bool, true, false, List, [], ◌∷◌, ◌++◌, map, take, drop, get_or, length, refl, ap, ◌∙◌, sym, arith, append_assoc, add-one, drop-cons}
use Rattle.std.proofs.Math.ListN.{set}
use Rattle.std.specs.List.{list_any, items_where_true}
use mir.Val.{bool_byte}
use Rattle.scan_spelling.proofs.Keeping.{front}
use Rattle.scan_plans.specs.Meaning.{true_rows}
use Rattle.scan_plans.specs.Wants.{part_of}

-- the rows from a place on, as far as the mask goes
pub split_rows : (c row : ℕ) (m : List Bool) → true_rows row m ≡ true_rows row (take c m) ++ true_rows (row + c) (drop c m)
split_rows zero row m = ap (λ j. true_rows j m) (omega arith)
split_rows (suc c) row [] = refl
split_rows (suc c) row (b ∷ bs) = first b (split_rows c (row + 1) bs ∙ ap (λ j. true_rows (row + 1) (take c bs) ++ true_rows j (drop c bs)) moved)
  where
    moved : row + 1 + c ≡ row + suc c
    moved = omega arith

    first : (b : Bool) → true_rows (row + 1) bs ≡ true_rows (row + 1) (take c bs) ++ true_rows (row + suc c) (drop c bs) → true_rows row (b ∷ bs) ≡ true_rows row (b ∷ take c bs) ++ true_rows (row + suc c) (drop c bs)
    first true rest = ap (λ is. row ∷ is) rest
    first false rest = rest

-- two functions that agree on the rows of a mask
pub map_rows : {A : Type 0} (f g : ℕ → A) (row : ℕ) (m : List Bool) → ((i : ℕ) → row ≤ i → i < row + length m → f i ≡ g i) → map f (true_rows row m) ≡ map g (true_rows row m)
map_rows f g row [] h = refl
map_rows f g row (b ∷ bs) h = first b (map_rows f g (row + 1) bs (λ i low high. h i (omega (arith, low)) (omega (arith, high))))
  where
    first : (b : Bool) → map f (true_rows (row + 1) bs) ≡ map g (true_rows (row + 1) bs) → map f (true_rows row (b ∷ bs)) ≡ map g (true_rows row (b ∷ bs))
    first true rest = let here : f row ≡ g row = h row (omega arith) (omega arith) in rw here (ap (λ xs. g row ∷ xs) rest)
    first false rest = rest

-- a test that no row of a mask passes
pub none_of_rows : (f : ℕ → Bool) (row : ℕ) (m : List Bool) → ((i : ℕ) → row ≤ i → i < row + length m → f i ≡ false) → list_any f (true_rows row m) ≡ false
none_of_rows f row [] h = refl
none_of_rows f row (b ∷ bs) h = first b (none_of_rows f (row + 1) bs (λ i low high. h i (omega (arith, low)) (omega (arith, high))))
  where
    first : (b : Bool) → list_any f (true_rows (row + 1) bs) ≡ false → list_any f (true_rows row (b ∷ bs)) ≡ false
    first true rest = let here : f row ≡ false = h row (omega arith) (omega arith) in rw here rest
    first false rest = rest

-- a test that every row of a mask passes
pub some_of_rows : (f : ℕ → Bool) (row : ℕ) (m : List Bool) → ((i : ℕ) → row ≤ i → i < row + length m → f i ≡ true) → list_any f (true_rows row m) ≡ list_any (λ b. b) m
some_of_rows f row [] h = refl
some_of_rows f row (b ∷ bs) h = first b (some_of_rows f (row + 1) bs (λ i low high. h i (omega (arith, low)) (omega (arith, high))))
  where
    first : (b : Bool) → list_any f (true_rows (row + 1) bs) ≡ list_any (λ b. b) bs → list_any f (true_rows row (b ∷ bs)) ≡ list_any (λ b. b) (b ∷ bs)
    first true rest = let here : f row ≡ true = h row (omega arith) (omega arith) in rw here refl
    first false rest = rest

-- ---- the rows of a mask that begins at first, from a row on
abbrev pub rows_from : ℕ → List Bool → ℕ → List ℕ
rows_from first mask start = true_rows (first + (start - first)) (drop (start - first) mask)

abbrev pub rows_part : ℕ → List Bool → ℕ → ℕ → List ℕ
rows_part first mask start end = true_rows (first + (start - first)) (part_of first start end mask)

drop_none : {A : Type 0} (n : ℕ) → drop {A = A} n [] ≡ []
drop_none zero = refl
drop_none (suc n) = refl

pub drop_twice : {A : Type 0} (a b : ℕ) (xs : List A) → drop b (drop a xs) ≡ drop (a + b) xs
drop_twice zero b xs = ap (λ n. drop n xs) none
  where
    none : b ≡ 0 + b
    none = omega arith
drop_twice (suc a) b [] = drop_none b ∙ sym (drop_none (suc a + b))
drop_twice (suc a) b (x ∷ xs) = drop_twice a b xs ∙ ap (λ n. drop n (x ∷ xs)) moved
  where
    moved : suc (a + b) ≡ suc a + b
    moved = omega arith

pub rows_split : (first start end : ℕ) (mask : List Bool) → start ≤ end → rows_from first mask start ≡ rows_part first mask start end ++ rows_from first mask end
rows_split first start end mask h =
    let c : ℕ = (end - first) - (start - first) in
    split_rows c (first + (start - first)) (drop (start - first) mask)
    ∙ ap (λ xs. rows_part first mask start end ++ xs) (ap (λ j. true_rows j (drop c (drop (start - first) mask))) (omega arith) ∙ ap (λ bs. true_rows (first + (end - first)) bs) (drop_twice (start - first) c mask ∙ ap (λ n. drop n mask) (omega arith)))

-- a walk that begins no later than the mask has all its rows
pub rows_whole : (first start : ℕ) (mask : List Bool) → start ≤ first → rows_from first mask start ≡ true_rows first mask
rows_whole first start mask h = let z : start - first ≡ 0 = omega arith in rw z (ap (λ j. true_rows j mask) (omega arith))

drop_all : {A : Type 0} (n : ℕ) (xs : List A) → length xs ≤ n → drop n xs ≡ []
drop_all zero [] h = refl
drop_all zero (x ∷ xs) h = absurd (omega arith)
drop_all (suc n) [] h = refl
drop_all (suc n) (x ∷ xs) h = drop_all n xs (omega arith)

-- one that is past the mask has none
pub rows_past : (first start : ℕ) (mask : List Bool) → length mask ≤ start - first → rows_from first mask start ≡ []
rows_past first start mask h = rw (drop_all (start - first) mask h) refl

-- ---- the rows of segments
abbrev pub rows_in : List (ℕ × ℕ) → ℕ
rows_in [] = 0
rows_in (g ∷ gs) = g.1 + rows_in gs

-- ---- numbers of rows, written over others
one_row : (b : Bool) (bs : List Bool) (row : ℕ) → true_rows row (b ∷ bs) ≡ items_where_true (b ∷ []) (row ∷ []) ++ true_rows (row + 1) bs
one_row true bs row = refl
one_row false bs row = refl

pub rows_step : (bs : List Bool) (xs : List ℕ) (first i k : ℕ) (whole : List ℕ) → k ≤ i → i < length bs → length xs ≡ length bs
    → take k xs ++ true_rows (first + i) (drop i bs) ≡ whole
    → take (k + bool_byte (get_or bs i false)) (set xs k (first + i)) ++ true_rows (first + (i + 1)) (drop (i + 1) bs) ≡ whole
rows_step bs xs first i k whole behind low even inv =
    let b = get_or bs i false in
    let room : k < length xs = omega (arith, behind, low, even) in
    let bits : drop i bs ≡ b ∷ drop (i + 1) bs = rw add-one (drop-cons bs i false low) in
    let up : first + (i + 1) ≡ first + i + 1 = omega arith in
    (λ j. front b xs k (first + i) room j ++ true_rows (up j) (drop (i + 1) bs))
    ∙ append_assoc (take k xs) (items_where_true (b ∷ []) ((first + i) ∷ [])) (true_rows (first + i + 1) (drop (i + 1) bs))
    ∙ (λ j. take k xs ++ sym (one_row b (drop (i + 1) bs) (first + i)) j)
    ∙ (λ j. take k xs ++ true_rows (first + i) (sym bits j))
    ∙ inv
