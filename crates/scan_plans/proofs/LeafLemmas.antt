-- What a leaf gives and wants, segment by segment.
use Rattle.std.proofs.Common.{◌≡◌, ℕ, zero, suc, ◌+◌, ◌-◌, ◌<◌, ◌≤◌, Bool, true, false, ◌||◌, ◌&&◌, List, [], ◌∷◌, ◌++◌, map, take, drop, length, refl, ap, ◌∙◌, sym, arith, length-take}
use Rattle.std.specs.Prelude.{nat_lt, nat_le, if◌then◌else◌}
use Rattle.std.specs.List.{list_any}
use Rattle.std.proofs.lemmas.List.{map-append}
use Rattle.std.proofs.lemmas.Bool.Decides.{nat_tests}
use Rattle.scan_values.specs.DataType.{DataType}
use Rattle.scan_values.specs.Marked.{Marked}
use Rattle.scan_segments.specs.Source.{Store}
use Rattle.scan_spelling.specs.declared.spelling.Spelling.{Spelling}
use Rattle.scan_spelling.specs.Places.{Place, place_of, places_of}
use Rattle.scan_layout.specs.RowValue.{leaf_value, segment_value}
use Rattle.scan_plans.specs.Meaning.{true_rows}
use Rattle.scan_plans.proofs.RowLemmas.{rows_in}
use Rattle.scan_plans.specs.Wants.{holds_any, leaf_wanted, part_of}
use Rattle.scan_plans.proofs.RowLemmas.{map_rows, none_of_rows, some_of_rows, rows_from, rows_part, rows_split}

-- of a leaf whose first segment begins at a row
abbrev pub from_base : DataType → Store → List Place → ℕ → ℕ → Marked
from_base d store places base i = leaf_value d store places (i - base)

value_past : (d : DataType) (store : Store) (p : Place) (ps : List Place) (base i : ℕ) → base + p.rows ≤ i → from_base d store (p ∷ ps) base i ≡ from_base d store ps (base + p.rows) i
value_past d store p ps base i h =
    let t : nat_lt (i - base) p.rows ≡ false = grind (arith, nat_tests) in
    rw t (ap (λ j. leaf_value d store ps j) (omega arith))

value_here : (d : DataType) (store : Store) (p : Place) (ps : List Place) (base i : ℕ) → base ≤ i → i < base + p.rows → from_base d store (p ∷ ps) base i ≡ segment_value store p (i - base)
value_here d store p ps base i low high =
    let t : nat_lt (i - base) p.rows ≡ true = grind (arith, nat_tests) in
    rw t refl

-- a part is no longer than what is left of its rows
part_short : (first start end : ℕ) (mask : List Bool) → length (part_of first start end mask) ≤ (end - first) - (start - first)
part_short first start end mask = let y = length-take ((end - first) - (start - first)) (drop (start - first) mask) in omega (arith, y)

pub values_step : (d : DataType) (store : Store) (p : Place) (ps : List Place) (first base : ℕ) (mask : List Bool)
    → map (from_base d store (p ∷ ps) base) (rows_from first mask base)
    ≡ map (λ i. segment_value store p (i - base)) (rows_part first mask base (base + p.rows)) ++ map (from_base d store ps (base + p.rows)) (rows_from first mask (base + p.rows))
values_step d store p ps first base mask =
    let end : ℕ = base + p.rows in
    let short = part_short first base (base + p.rows) mask in
    ap (map (from_base d store (p ∷ ps) base)) (rows_split first base (base + p.rows) mask (omega arith))
    ∙ map-append (from_base d store (p ∷ ps) base) (rows_part first mask base (base + p.rows)) (rows_from first mask (base + p.rows))
    ∙ ap (λ xs. xs ++ map (from_base d store (p ∷ ps) base) (rows_from first mask (base + p.rows)))
    (map_rows (from_base d store (p ∷ ps) base) (λ i. segment_value store p (i - base)) (first + (base - first)) (part_of first base (base + p.rows) mask) (λ i low high. value_here d store p ps base i (omega (arith, low)) (omega (arith, low, high, short))))
    ∙ ap (λ xs. map (λ i. segment_value store p (i - base)) (rows_part first mask base (base + p.rows)) ++ xs)
    (map_rows (from_base d store (p ∷ ps) base) (from_base d store ps (base + p.rows)) (first + ((base + p.rows) - first)) (drop ((base + p.rows) - first) mask) (λ i low high. value_past d store p ps base i (omega (arith, low))))

-- ---- wants
holds_append : (base n : ℕ) (is js : List ℕ) → holds_any base n (is ++ js) ≡ (holds_any base n is || holds_any base n js)
holds_append base n [] js = refl
holds_append base n (i ∷ is) js = first (nat_le base i && nat_lt i (base + n)) (holds_append base n is js)
  where
    first : (b : Bool) → holds_any base n (is ++ js) ≡ (holds_any base n is || holds_any base n js) → (b || holds_any base n (is ++ js)) ≡ ((b || holds_any base n is) || holds_any base n js)
    first true h = refl
    first false h = h

-- rows before a leaf's first segment are in none of its segments
pub wanted_before : (ps : List Place) (base row : ℕ) (m : List Bool) (js : List ℕ) → row + length m ≤ base → leaf_wanted base ps (true_rows row m ++ js) ≡ leaf_wanted base ps js
wanted_before [] base row m js h = refl
wanted_before (p ∷ ps) base row m js h =
    let none : holds_any base p.rows (true_rows row m) ≡ false = none_of_rows (λ i. nat_le base i && nat_lt i (base + p.rows)) row m (λ i low high. outside i (omega (arith, high))) in
    rw (holds_append base p.rows (true_rows row m) js, none) (ap (λ xs. (if holds_any base p.rows js then p ∷ [] else []) ++ xs) (wanted_before ps (base + p.rows) row m js (omega arith)))
  where
    outside : (i : ℕ) → i < base → (nat_le base i && nat_lt i (base + p.rows)) ≡ false
    outside i h = let t : nat_le base i ≡ false = grind (arith, nat_tests) in rw t refl

-- of rows past it a segment holds none
past_holds : (base n row : ℕ) (m : List Bool) → base + n ≤ row → holds_any base n (true_rows row m) ≡ false
past_holds base n row m h = none_of_rows (λ i. nat_le base i && nat_lt i (base + n)) row m (λ i low high. outside i (omega (arith, low)))
  where
    both : (a b : Bool) → b ≡ false → (a && b) ≡ false
    both true b e = e
    both false b e = refl

    outside : (i : ℕ) → base + n ≤ i → (nat_le base i && nat_lt i (base + n)) ≡ false
    outside i h = let t : nat_lt i (base + n) ≡ false = grind (arith, nat_tests) in both (nat_le base i) (nat_lt i (base + n)) t

here_holds : (base n row : ℕ) (m : List Bool) → base ≤ row → (0 < length m → row + length m ≤ base + n) → holds_any base n (true_rows row m) ≡ list_any (λ b. b) m
here_holds base n row m low high = some_of_rows (λ i. nat_le base i && nat_lt i (base + n)) row m (λ i a b. inside i (omega (arith, low, a)) (by_length (length m) refl i b a))
  where
    by_length : (k : ℕ) → k ≡ length m → (i : ℕ) → i < row + length m → row ≤ i → i < base + n
    by_length zero e i b a = absurd (omega (arith, e, a, b))
    by_length (suc k) e i b a = let z = high (omega (arith, e)) in omega (arith, z, b)

    inside : (i : ℕ) → base ≤ i → i < base + n → (nat_le base i && nat_lt i (base + n)) ≡ true
    inside i a b = let t : nat_le base i ≡ true = grind (arith, nat_tests) in let u : nat_lt i (base + n) ≡ true = grind (arith, nat_tests) in rw (t, u) refl

or_none : (b : Bool) → (b || false) ≡ b
or_none true = refl
or_none false = refl

pub wanted_step : (p : Place) (ps : List Place) (first base : ℕ) (mask : List Bool)
    → leaf_wanted base (p ∷ ps) (rows_from first mask base)
    ≡ (if list_any (λ b. b) (part_of first base (base + p.rows) mask) then p ∷ [] else []) ++ leaf_wanted (base + p.rows) ps (rows_from first mask (base + p.rows))
wanted_step p ps first base mask =
    let short = part_short first base (base + p.rows) mask in
    let here = here_holds base p.rows (first + (base - first)) (part_of first base (base + p.rows) mask) (omega arith) (λ some. omega (arith, short, some)) in
    let past = past_holds base p.rows (first + ((base + p.rows) - first)) (drop ((base + p.rows) - first) mask) (omega arith) in
    let any : holds_any base p.rows (rows_from first mask base) ≡ list_any (λ b. b) (part_of first base (base + p.rows) mask) =
    ap (holds_any base p.rows) (rows_split first base (base + p.rows) mask (omega arith)) ∙ holds_append base p.rows (rows_part first mask base (base + p.rows)) (rows_from first mask (base + p.rows)) ∙ rw (here, past) (or_none (list_any (λ b. b) (part_of first base (base + p.rows) mask))) in
    ap (λ b. (if b then p ∷ [] else []) ++ leaf_wanted (base + p.rows) ps (rows_from first mask base)) any
    ∙ ap (λ xs. (if list_any (λ b. b) (part_of first base (base + p.rows) mask) then p ∷ [] else []) ++ xs) (later (length (part_of first base (base + p.rows) mask)) refl)
  where
    no_rows : (row : ℕ) (m : List Bool) → length m ≡ 0 → true_rows row m ≡ []
    no_rows row [] e = refl
    no_rows row (b ∷ bs) e = absurd (omega (arith, e))

    later : (k : ℕ) → k ≡ length (part_of first base (base + p.rows) mask) → leaf_wanted (base + p.rows) ps (rows_from first mask base) ≡ leaf_wanted (base + p.rows) ps (rows_from first mask (base + p.rows))
    later zero e = ap (leaf_wanted (base + p.rows) ps) (rows_split first base (base + p.rows) mask (omega arith) ∙ ap (λ xs. xs ++ rows_from first mask (base + p.rows)) (no_rows (first + (base - first)) (part_of first base (base + p.rows) mask) (sym e)))
    later (suc k) e = let short = part_short first base (base + p.rows) mask in
        ap (leaf_wanted (base + p.rows) ps) (rows_split first base (base + p.rows) mask (omega arith)) ∙ wanted_before ps (base + p.rows) (first + (base - first)) (part_of first base (base + p.rows) mask) (rows_from first mask (base + p.rows)) (omega (arith, short, e))

-- ---- the segments before the first row's
pub values_prefix : (d : DataType) (sp : Spelling) (store : Store) (k : ℕ) (gs : List (ℕ × ℕ)) (base row : ℕ) (m : List Bool) → base + rows_in (take k gs) ≤ row
    → map (from_base d store (places_of d sp gs) base) (true_rows row m) ≡ map (from_base d store (places_of d sp (drop k gs)) (base + rows_in (take k gs))) (true_rows row m)
values_prefix d sp store zero gs base row m h = let e : base ≡ base + 0 = omega arith in ap (λ b. map (from_base d store (places_of d sp gs) b) (true_rows row m)) e
values_prefix d sp store (suc k) [] base row m h = let e : base ≡ base + 0 = omega arith in ap (λ b. map (from_base d store [] b) (true_rows row m)) e
values_prefix d sp store (suc k) (g ∷ gs) base row m h =
    map_rows (from_base d store (places_of d sp (g ∷ gs)) base) (from_base d store (places_of d sp gs) (base + g.1)) row m (λ i low high. value_past d store (place_of d sp g) (places_of d sp gs) base i (omega (arith, low, h)))
    ∙ values_prefix d sp store k gs (base + g.1) row m (omega (arith, h))
    ∙ (let e : base + g.1 + rows_in (take k gs) ≡ base + (g.1 + rows_in (take k gs)) = omega arith in ap (λ b. map (from_base d store (places_of d sp (drop k gs)) b) (true_rows row m)) e)

pub wanted_prefix : (d : DataType) (sp : Spelling) (k : ℕ) (gs : List (ℕ × ℕ)) (base row : ℕ) (m : List Bool) → base + rows_in (take k gs) ≤ row
    → leaf_wanted base (places_of d sp gs) (true_rows row m) ≡ leaf_wanted (base + rows_in (take k gs)) (places_of d sp (drop k gs)) (true_rows row m)
wanted_prefix d sp zero gs base row m h = let e : base ≡ base + 0 = omega arith in ap (λ b. leaf_wanted b (places_of d sp gs) (true_rows row m)) e
wanted_prefix d sp (suc k) [] base row m h = refl
wanted_prefix d sp (suc k) (g ∷ gs) base row m h =
    let none : holds_any base g.1 (true_rows row m) ≡ false = past_holds base g.1 row m (omega (arith, h)) in
    rw none (wanted_prefix d sp k gs (base + g.1) row m (omega (arith, h)) ∙ (let e : base + g.1 + rows_in (take k gs) ≡ base + (g.1 + rows_in (take k gs)) = omega arith in ap (λ b. leaf_wanted b (places_of d sp (drop k gs)) (true_rows row m)) e))
