-- Rows of a leaf's segment, taken one after another.
use Rattle.std.proofs.Common.{◌≡◌, ℕ, zero, suc, ◌+◌, ◌-◌, ◌<◌, ◌≤◌, Bool, true, false, List, [], ◌∷◌, ◌++◌, length, take, drop, get_or, slice_get, slice_range, Some, refl, ap, sym, ◌∙◌, arith, append_assoc}
use Rattle.std.proofs.lemmas.List.{length-drop}
use Rattle.std.specs.List.{items_where_true}
use Rattle.scan_values.specs.Val.{Val}

pub one_taken : (vs : List Val) (i : ℕ) (v : Val) → Some v ≡ slice_get vs i → take 1 (drop i vs) ≡ v ∷ []
one_taken [] i v h = absurd cc
one_taken (w ∷ vs) zero v h = let same : v ≡ w = cc in λ j. sym same j ∷ []
one_taken (w ∷ vs) (suc i) v h = one_taken vs i v h

pub next_bit : (bs : List Bool) (i j : ℕ) (b : Bool) → i < length bs → j ≡ i + 1 → get_or bs i false ≡ b → drop i bs ≡ b ∷ drop j bs
next_bit [] i j b l e h = absurd (omega (arith, l))
next_bit (c ∷ bs) zero j b l e h = let one : j ≡ 1 = omega (arith, e) in rw one (λ k. h k ∷ bs)
next_bit (c ∷ bs) (suc i) zero b l e h = absurd (omega (arith, e))
next_bit (c ∷ bs) (suc i) (suc j) b l e h = next_bit bs i j b (omega (arith, l)) (omega (arith, e)) h

-- the items of a part, from a place on
next_item : (vs : List Val) (n i j : ℕ) → i < n → n ≤ length vs → j ≡ i + 1 → drop i (take n vs) ≡ take 1 (drop i vs) ++ drop j (take n vs)
next_item [] n i j l h e = absurd (omega (arith, l, h))
next_item (v ∷ vs) zero i j l h e = absurd (omega (arith, l))
next_item (v ∷ vs) (suc n) zero j l h e = let one : j ≡ 1 = omega (arith, e) in rw one refl
next_item (v ∷ vs) (suc n) (suc i) zero l h e = absurd (omega (arith, e))
next_item (v ∷ vs) (suc n) (suc i) (suc j) l h e = next_item vs n i j (omega (arith, l)) (omega (arith, h)) (omega (arith, e))

drop_sum : (a b : ℕ) (vs : List Val) → drop b (drop a vs) ≡ drop (a + b) vs
drop_sum zero b vs = let e : 0 + b ≡ b = omega arith in λ i. drop (sym e i) vs
drop_sum (suc a) zero [] = let e : suc a + 0 ≡ suc a = omega arith in λ i. drop (sym e i) []
drop_sum (suc a) (suc b) [] = let e : suc a + suc b ≡ suc (a + suc b) = omega arith in λ i. drop (sym e i) []
drop_sum (suc a) b (v ∷ vs) = let e : suc a + b ≡ suc (a + b) = omega arith in drop_sum a b vs ∙ (λ i. drop (sym e i) (v ∷ vs))

where_split : (b : Bool) (bs : List Bool) (vs ws : List Val) → length vs ≡ 1 → items_where_true (b ∷ bs) (vs ++ ws) ≡ items_where_true (b ∷ []) vs ++ items_where_true bs ws
where_split b bs [] ws h = absurd (omega (arith, h))
where_split true bs (v ∷ []) ws h = refl
where_split false bs (v ∷ []) ws h = refl
where_split b bs (v ∷ (w ∷ vs)) ws h = absurd (omega (arith, h))

one_long : (vs : List Val) (i : ℕ) → i < length vs → length (take 1 (drop i vs)) ≡ 1
one_long [] i h = absurd (omega (arith, h))
one_long (v ∷ vs) zero h = refl
one_long (v ∷ vs) (suc i) h = one_long vs i (omega (arith, h))

pub leaf_step : (vs : List Val) (bs : List Bool) (first i : ℕ) (made next whole : List Val) → i < length bs → first + length bs ≤ length vs
    → next ≡ made ++ items_where_true (get_or bs i false ∷ []) (take 1 (drop (first + i) vs))
    → made ++ items_where_true (drop i bs) (drop i (slice_range vs first (first + length bs))) ≡ whole
    → next ++ items_where_true (drop (i + 1) bs) (drop (i + 1) (slice_range vs first (first + length bs))) ≡ whole
leaf_step vs bs first i made next whole l h n inv =
    let b = get_or bs i false in
    let k = first + length bs - first in
    let many : k ≡ length bs = omega arith in
    let part = slice_range vs first (first + length bs) in
    let item : take 1 (drop i (drop first vs)) ≡ take 1 (drop (first + i) vs) = ap (take 1) (drop_sum first i vs) in
    let rest : drop i part ≡ take 1 (drop (first + i) vs) ++ drop (i + 1) part = next_item (drop first vs) k i (i + 1) (omega (arith, l, many)) (omega (arith, many, h, length-drop first vs)) refl ∙ (λ j. item j ++ drop (i + 1) part) in
    let bits : drop i bs ≡ b ∷ drop (i + 1) bs = next_bit bs i (i + 1) b l refl refl in
    let taken = items_where_true (b ∷ []) (take 1 (drop (first + i) vs)) in
    let after = items_where_true (drop (i + 1) bs) (drop (i + 1) part) in
    let split : items_where_true (drop i bs) (drop i part) ≡ taken ++ after = (λ j. items_where_true (bits j) (rest j)) ∙ where_split b (drop (i + 1) bs) (take 1 (drop (first + i) vs)) (drop (i + 1) part) (one_long vs (first + i) (omega (arith, l, h))) in
    (λ j. n j ++ after) ∙ append_assoc made taken after ∙ (λ j. made ++ sym split j) ∙ inv
