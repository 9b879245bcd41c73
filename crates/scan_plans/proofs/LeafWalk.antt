-- A walk over the segments of a leaf: what is still to come.
use Rattle.std.proofs.Common.{◌≡◌, ℕ, zero, suc, ◌+◌, ◌-◌, ◌<◌, ◌≤◌, Bool, List, [], ◌∷◌, ◌++◌, map, take, drop, length, get_or, refl, ap, ◌∙◌, sym, subst, arith, length-take}
use Rattle.std.specs.Prelude.{if◌then◌else◌}
use Rattle.std.specs.List.{list_any}
use Rattle.std.proofs.lemmas.List.Sums.{sum_by-cons}
use Rattle.scan_values.specs.DataType.{DataType}
use Rattle.scan_values.specs.Marked.{Marked}
use Rattle.scan_segments.specs.Source.{Store}
use Rattle.scan_spelling.specs.declared.spelling.Spelling.{Spelling}
use Rattle.scan_layout.specs.Check.{total_rows}
use Rattle.scan_spelling.specs.Places.{Place, place_of, places_of}
use Rattle.scan_layout.specs.RowValue.{leaf_value, segment_value}
use Rattle.scan_plans.specs.Meaning.{true_rows}
use Rattle.scan_splits.specs.Runs.{start_of}
use Rattle.scan_plans.specs.Wants.{leaf_wanted, part_of}
use Rattle.scan_plans.proofs.RowLemmas.{rows_from, rows_part, rows_whole, rows_past, rows_in}
use Rattle.scan_plans.proofs.LeafLemmas.{from_base, values_step, wanted_step, values_prefix, wanted_prefix}

abbrev pub Segment : Type 0
Segment = ℕ × ℕ

total_same : (gs : List Segment) → total_rows gs ≡ rows_in gs
total_same [] = refl
total_same (g ∷ gs) = sum_by-cons (λ (s : Segment). s.1) g gs ∙ ap (λ n. g.1 + n) (total_same gs)

pub next_drop : (k : ℕ) (gs : List Segment) (d : Segment) → k < length gs → drop k gs ≡ get_or gs k d ∷ drop (k + 1) gs
next_drop zero [] d h = let z : ⊥ = omega (arith, h) in absurd z
next_drop zero (g ∷ gs) d h = refl
next_drop (suc k) [] d h = let z : ⊥ = omega (arith, h) in absurd z
next_drop (suc k) (g ∷ gs) d h = next_drop k gs d (omega (arith, h)) ∙ ap (λ n. get_or gs k d ∷ drop n (g ∷ gs)) moved
  where
    moved : suc (k + 1) ≡ suc k + 1
    moved = omega arith

rows_next : (k : ℕ) (gs : List Segment) (d : Segment) → k < length gs → rows_in (take (k + 1) gs) ≡ rows_in (take k gs) + (get_or gs k d).1
rows_next zero [] d h = let z : ⊥ = omega (arith, h) in absurd z
rows_next zero (g ∷ gs) d h = omega arith
rows_next (suc k) [] d h = let z : ⊥ = omega (arith, h) in absurd z
rows_next (suc k) (g ∷ gs) d h = ap (λ n. rows_in (take n (g ∷ gs))) moved ∙ ap (λ n. g.1 + n) (rows_next k gs d (omega (arith, h))) ∙ assoc
  where
    moved : suc k + 1 ≡ suc (k + 1)
    moved = omega arith

    assoc : g.1 + (rows_in (take k gs) + (get_or gs k d).1) ≡ g.1 + rows_in (take k gs) + (get_or gs k d).1
    assoc = omega arith

pub start_next : (k : ℕ) (gs : List Segment) (d : Segment) → k < length gs → start_of gs (k + 1) ≡ start_of gs k + (get_or gs k d).1
start_next k gs d h = total_same (take (k + 1) gs) ∙ rows_next k gs d h ∙ ap (λ n. n + (get_or gs k d).1) (sym (total_same (take k gs)))

drop_end : (k : ℕ) (gs : List Segment) → length gs ≤ k → drop k gs ≡ []
drop_end zero [] h = refl
drop_end zero (g ∷ gs) h = let z : ⊥ = omega (arith, h) in absurd z
drop_end (suc k) [] h = refl
drop_end (suc k) (g ∷ gs) h = drop_end k gs (omega (arith, h))

take_end : (k : ℕ) (gs : List Segment) → length gs ≤ k → take k gs ≡ gs
take_end zero [] h = refl
take_end zero (g ∷ gs) h = let z : ⊥ = omega (arith, h) in absurd z
take_end (suc k) [] h = refl
take_end (suc k) (g ∷ gs) h = ap (λ xs. g ∷ xs) (take_end k gs (omega (arith, h)))

pub no_rows_wanted : (base : ℕ) (ps : List Place) → leaf_wanted base ps [] ≡ []
no_rows_wanted base [] = refl
no_rows_wanted base (p ∷ ps) = no_rows_wanted (base + p.rows) ps

-- ---- what is wanted from segment k on
abbrev pub to_want : DataType → Spelling → List Segment → ℕ → List Bool → ℕ → List Place
to_want d sp gs first bits k = leaf_wanted (start_of gs k) (places_of d sp (drop k gs)) (rows_from first bits (start_of gs k))

pub want_start : (d : DataType) (sp : Spelling) (gs : List Segment) (first : ℕ) (bits : List Bool) (k : ℕ) → start_of gs k ≤ first → to_want d sp gs first bits k ≡ leaf_wanted 0 (places_of d sp gs) (true_rows first bits)
want_start d sp gs first bits k h =
    let s = total_same (take k gs) in
    let z : 0 + rows_in (take k gs) ≡ start_of gs k = omega (arith, s) in
    ap (leaf_wanted (start_of gs k) (places_of d sp (drop k gs))) (rows_whole first (start_of gs k) bits h)
    ∙ sym (wanted_prefix d sp k gs 0 first bits (omega (arith, s, h)) ∙ ap (λ b. leaf_wanted b (places_of d sp (drop k gs)) (true_rows first bits)) z)

pub want_next : (d : DataType) (sp : Spelling) (gs : List Segment) (first : ℕ) (bits : List Bool) (k : ℕ) (o : Segment) → k < length gs
    → to_want d sp gs first bits k ≡ (if list_any (λ b. b) (part_of first (start_of gs k) (start_of gs (k + 1)) bits) then place_of d sp (get_or gs k o) ∷ [] else []) ++ to_want d sp gs first bits (k + 1)
want_next d sp gs first bits k o h =
    ap (λ xs. leaf_wanted (start_of gs k) (places_of d sp xs) (rows_from first bits (start_of gs k))) (next_drop k gs o h)
    ∙ wanted_step (place_of d sp (get_or gs k o)) (places_of d sp (drop (k + 1) gs)) first (start_of gs k) bits
    ∙ ap (λ e. (if list_any (λ b. b) (part_of first (start_of gs k) e bits) then place_of d sp (get_or gs k o) ∷ [] else []) ++ leaf_wanted e (places_of d sp (drop (k + 1) gs)) (rows_from first bits e)) (sym (start_next k gs o h))

pub want_past : (d : DataType) (sp : Spelling) (gs : List Segment) (first : ℕ) (bits : List Bool) (k : ℕ) → length bits ≤ start_of gs k - first → to_want d sp gs first bits k ≡ []
want_past d sp gs first bits k h = ap (leaf_wanted (start_of gs k) (places_of d sp (drop k gs))) (rows_past first (start_of gs k) bits h) ∙ no_rows_wanted (start_of gs k) (places_of d sp (drop k gs))

pub want_end : (d : DataType) (sp : Spelling) (gs : List Segment) (first : ℕ) (bits : List Bool) (k : ℕ) → length gs ≤ k → to_want d sp gs first bits k ≡ []
want_end d sp gs first bits k h = ap (λ xs. leaf_wanted (start_of gs k) (places_of d sp xs) (rows_from first bits (start_of gs k))) (drop_end k gs h)

-- ---- what is given from segment k on
abbrev pub to_give : DataType → Spelling → Store → List Segment → ℕ → List Bool → ℕ → List Marked
to_give d sp store gs first bits k = map (from_base d store (places_of d sp (drop k gs)) (start_of gs k)) (rows_from first bits (start_of gs k))

pub give_start : (d : DataType) (sp : Spelling) (store : Store) (gs : List Segment) (first : ℕ) (bits : List Bool) (k : ℕ) → start_of gs k ≤ first → to_give d sp store gs first bits k ≡ map (leaf_value d store (places_of d sp gs)) (true_rows first bits)
give_start d sp store gs first bits k h =
    let s = total_same (take k gs) in
    let z : 0 + rows_in (take k gs) ≡ start_of gs k = omega (arith, s) in
    ap (map (from_base d store (places_of d sp (drop k gs)) (start_of gs k))) (rows_whole first (start_of gs k) bits h)
    ∙ sym (whole (true_rows first bits) ∙ values_prefix d sp store k gs 0 first bits (omega (arith, s, h)) ∙ ap (λ b. map (from_base d store (places_of d sp (drop k gs)) b) (true_rows first bits)) z)
  where
    whole : (is : List ℕ) → map (leaf_value d store (places_of d sp gs)) is ≡ map (from_base d store (places_of d sp gs) 0) is
    whole [] = refl
    whole (i ∷ is) = let z : i ≡ i - 0 = omega arith in rw (← z) (ap (λ xs. leaf_value d store (places_of d sp gs) i ∷ xs) (whole is))

pub give_next : (d : DataType) (sp : Spelling) (store : Store) (gs : List Segment) (first : ℕ) (bits : List Bool) (k : ℕ) (o : Segment) → k < length gs
    → to_give d sp store gs first bits k ≡ map (λ i. segment_value store (place_of d sp (get_or gs k o)) (i - start_of gs k)) (rows_part first bits (start_of gs k) (start_of gs (k + 1))) ++ to_give d sp store gs first bits (k + 1)
give_next d sp store gs first bits k o h =
    ap (λ xs. map (from_base d store (places_of d sp xs) (start_of gs k)) (rows_from first bits (start_of gs k))) (next_drop k gs o h)
    ∙ values_step d store (place_of d sp (get_or gs k o)) (places_of d sp (drop (k + 1) gs)) first (start_of gs k) bits
    ∙ ap (λ e. map (λ i. segment_value store (place_of d sp (get_or gs k o)) (i - start_of gs k)) (rows_part first bits (start_of gs k) e) ++ map (from_base d store (places_of d sp (drop (k + 1) gs)) e) (rows_from first bits e)) (sym (start_next k gs o h))

pub give_past : (d : DataType) (sp : Spelling) (store : Store) (gs : List Segment) (first : ℕ) (bits : List Bool) (k : ℕ) → length bits ≤ start_of gs k - first → to_give d sp store gs first bits k ≡ []
give_past d sp store gs first bits k h = ap (map (from_base d store (places_of d sp (drop k gs)) (start_of gs k))) (rows_past first (start_of gs k) bits h)

pub start_end : (gs : List Segment) (k : ℕ) → length gs ≤ k → start_of gs k ≡ total_rows gs
start_end gs k h = ap total_rows (take_end k gs h)

-- a first index before which each segment ends in time begins in time
pub starts_in_time : (gs : List Segment) (row k : ℕ) → ((j : ℕ) → j < k → start_of gs (j + 1) ≤ row) → start_of gs k ≤ row
starts_in_time gs row zero h = omega arith
starts_in_time gs row (suc k) h = let z : k + 1 ≡ suc k = omega arith in subst (λ (n : ℕ). start_of gs n ≤ row) z (h k (omega arith))

pub next_in_order : (gs : List Segment) (k : ℕ) → k < length gs → start_of gs k ≤ start_of gs (k + 1)
next_in_order gs k h = let e = start_next k gs (0, 0) h in omega (arith, e)

-- by the bits of the segment
pub want_part : (d : DataType) (sp : Spelling) (gs : List Segment) (first : ℕ) (bits : List Bool) (k : ℕ) (o : Segment) (part : List Bool) (from to : ℕ) → k < length gs → from ≡ start_of gs k → to ≡ start_of gs (k + 1) → part ≡ part_of first from to bits
    → to_want d sp gs first bits k ≡ (if list_any (λ b. b) part then place_of d sp (get_or gs k o) ∷ [] else []) ++ to_want d sp gs first bits (k + 1)
want_part d sp gs first bits k o part from to h a b e =
    want_next d sp gs first bits k o h
    ∙ ap (λ m. (if list_any (λ b. b) m then place_of d sp (get_or gs k o) ∷ [] else []) ++ to_want d sp gs first bits (k + 1)) (sym (e ∙ ap (λ x. part_of first x to bits) a ∙ ap (λ y. part_of first (start_of gs k) y bits) b))

-- a part of the segment lies within it
pub segment_fits : (gs : List Segment) (first : ℕ) (bits : List Bool) (k : ℕ) (part : List Bool) (from to rows : ℕ) → k < length gs → from ≡ start_of gs k → to ≡ start_of gs (k + 1) → part ≡ part_of first from to bits → rows ≡ (get_or gs k (0, 0)).1
    → 0 < length part → (first - from) + length part ≤ rows
segment_fits gs first bits k part from to rows h a b e r some =
    let n = start_next k gs (0, 0) h in
    let short = length-take ((to - first) - (from - first)) (drop (from - first) bits) in
    let same = ap length e in
    omega (arith, n, short, same, a, b, r, some)

-- where the segments end the rows do
pub give_end : (d : DataType) (sp : Spelling) (store : Store) (gs : List Segment) (first : ℕ) (bits : List Bool) (k : ℕ) → length gs ≤ k → first + length bits ≤ total_rows gs → to_give d sp store gs first bits k ≡ []
give_end d sp store gs first bits k h w = let e = start_end gs k h in give_past d sp store gs first bits k (omega (arith, e, w))

pub place_at : (d : DataType) (sp : Spelling) (gs : List Segment) (k id rows : ℕ) → id ≡ (get_or gs k (0, 0)).0 → rows ≡ (get_or gs k (0, 0)).1 → place_of d sp (id, rows) ≡ place_of d sp (get_or gs k (0, 0))
place_at d sp gs k id rows a b = rw (a, b) refl
