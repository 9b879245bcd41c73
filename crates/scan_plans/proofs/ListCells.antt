-- Lists that are cut out of their elements.
use Rattle.std.proofs.Common.{◌≡◌, ℕ, zero, suc, ◌+◌, ◌-◌, ◌<◌, ◌≤◌, Bool, true, false, ◌||◌, ◌&&◌, List, [], ◌∷◌, map, take, drop, length, get_or, ltb, ◌^◌, min, replicate, Some, Result, Ok, Err, pos, refl, ap, ◌∙◌, sym, subst, arith}
use Rattle.std.specs.Prelude.{nat_le, if◌then◌else◌}
use Rattle.std.specs.List.{list_any, items_where_true}
use Rattle.std.proofs.lemmas.Bool.Decides.{nat_tests}
use Rattle.scan_values.specs.Arrays.{ArrayData, of_parts}
use Rattle.scan_values.specs.DataType.{DataType, int_type}
use Rattle.scan_values.specs.declared.ptype.Nullability.TheVariants.{NonNullable}
use Rattle.scan_values.specs.declared.ptype.PType.TheVariants.{U64}
use Rattle.scan_values.specs.Fits.{fits_all}
use Rattle.scan_values.specs.Marked.{Marked, list}
use Rattle.scan_values.specs.Val.{Val, vals_of, marked, marked_all}
use Rattle.scan_columns.specs.Nested.{sizes, sums, Rises, total, cuts, list_of}
use Rattle.scan_columns.specs.Typed.{typed}
use Rattle.scan_columns.proofs.NestedLemmas.{sizes_sums}
use Rattle.scan_segments.specs.Source.{Store}
use Rattle.scan_layout.specs.RowValue.{values_from}
use Rattle.scan_layout.specs.Touched.{least_offset, greatest_offset}
use Rattle.scan_plans.specs.PlanTree.{PlanTree, lists, lengths}
use Rattle.scan_plans.specs.Came.{Came, arrived}
use Rattle.scan_plans.specs.Formed.{NeverOverflows}
use Rattle.scan_plans.specs.ListItems.{length_val, sizes_in, first_in, last_from, last_in}
use Rattle.scan_plans.specs.Lists.{rows_on, elements_from, span_elements, element_rows}
use Rattle.scan_plans.specs.Meaning.{value_at, overflow_on, true_rows}
use Rattle.scan_plans.specs.OffsetReads.{Climbs, AreOffsets, IsCut, Cuts, CutsWhole, ListsOf, NoneOf}
use Rattle.scan_plans.specs.OffsetsData.{OffsetsData, offset_at, offset_marked}
use Rattle.scan_plans.specs.Reads.{AreValues, AllDecode, fails, Reads}
use Rattle.scan_plans.specs.Wants.{wanted, offsets_wanted, knows_elements, offsets_spoiled, Complete}
use Rattle.scan_plans.specs.declared.fault.ReadFault.{ReadFault}
use Rattle.scan_plans.specs.declared.fault.ReadFault.TheVariants.{Corrupt, Overflow, NoMemory}
use Rattle.scan_plans.specs.declared.lists.Cut.{Cut}
use Rattle.scan_plans.proofs.Building.{fails_append}
use Rattle.scan_plans.proofs.OffsetChecks.{rows_long}
use Rattle.scan_plans.proofs.ListRows.{kept_rows, cut_found}
use Rattle.scan_plans.proofs.NoRows.{nothing_found}
use Rattle.scan_plans.proofs.Transfer.{complete_left, complete_right, knows_here}

or_true : (b : Bool) → (b || true) ≡ true
or_true true = refl
or_true false = refl

never : (is : List ℕ) → list_any (λ i. false) is ≡ false
never [] = refl
never (i ∷ is) = never is

-- ---- rising offsets
pub climbs_rises : (most a : ℕ) (ns : List ℕ) → Climbs most a ns → Rises a ns
climbs_rises most a [] c = tt
climbs_rises most a (n ∷ ns) c = (c.0, climbs_rises most n ns c.2)

pub last_above : (most a : ℕ) (ns : List ℕ) → Climbs most a ns → a ≤ last_from a ns
last_above most a [] c = omega arith
last_above most a (n ∷ ns) c = let z = last_above most n ns c.2 in omega (arith, z, c.0)

last_below : (most a : ℕ) (ns : List ℕ) → a ≤ most → Climbs most a ns → last_from a ns ≤ most
last_below most a [] h c = h
last_below most a (n ∷ ns) h c = last_below most n ns c.1 c.2

pub total_sizes : (most a : ℕ) (ns : List ℕ) → Climbs most a ns → total (sizes a ns) ≡ last_from a ns - a
total_sizes most a [] c = omega arith
total_sizes most a (n ∷ ns) c = let z = total_sizes most n ns c.2 in let y = last_above most n ns c.2 in omega (arith, z, y, c.0)

-- the first offset is the least, and the last is the greatest
module _ (o : OffsetsData) (store : Store) where
  ends_on : (n i a : ℕ) (ns : List ℕ) → offset_at o store i ≡ Some (pos a) → map (offset_at o store) (rows_on (i + 1) n) ≡ map (λ k. Some (pos k)) ns → a ≤ o.elements → Climbs o.elements a ns
      → (least_offset o.elements (offset_marked o store) i (suc n) ≡ a) × (greatest_offset (offset_marked o store) i (suc n) ≡ last_from a ns)
  ends_on zero i a [] x h m c = rw x (omega (arith, m), omega arith)
  ends_on zero i a (b ∷ ns) x h m c = absurd cc
  ends_on (suc n) i a [] x h m c = absurd cc
  ends_on (suc n) i a (b ∷ ns) x h m c =
      let y : offset_at o store (i + 1) ≡ Some (pos b) = cc in
      let rest : map (offset_at o store) (rows_on (i + 1 + 1) n) ≡ map (λ k. Some (pos k)) ns = cc in
      let z = ends_on n (i + 1) b ns y rest c.1 c.2 in
      let up = last_above o.elements b ns c.2 in
      rw (x, z.0, z.1) (omega (arith, c.0), omega (arith, c.0, up))

-- where the offsets begin, and the rest
abbrev Opened : OffsetsData → Store → ℕ → ℕ → List ℕ → Type 0
Opened o store i n ns = (a : ℕ) × (ms : List ℕ) × (ns ≡ a ∷ ms) × (offset_at o store i ≡ Some (pos a)) × (map (offset_at o store) (rows_on (i + 1) n) ≡ map (λ k. Some (pos k)) ms) × (a ≤ o.elements) × Climbs o.elements a ms

opened : (o : OffsetsData) (store : Store) (i n : ℕ) (ns : List ℕ) → AreOffsets o store i (n + 1) ns → Opened o store i n ns
opened o store i n ns a = by ns refl
  where
    at : map (offset_at o store) (rows_on i (suc n)) ≡ map (λ k. Some (pos k)) ns
    at = let z : suc n ≡ n + 1 = omega arith in ap (λ m. map (offset_at o store) (rows_on i m)) z ∙ a.at

    by : (ms : List ℕ) → ns ≡ ms → Opened o store i n ns
    by [] s = absurd (let z = at ∙ ap (map (λ k. Some (pos k))) s in cc)
    by (m ∷ ms) s =
        let z = at ∙ ap (map (λ k. Some (pos k))) s in
        let x : offset_at o store i ≡ Some (pos m) = cc in
        let rest : map (offset_at o store) (rows_on (i + 1) n) ≡ map (λ k. Some (pos k)) ms = cc in
        let d : Climbs o.elements 0 (m ∷ ms) = subst (λ (xs : List ℕ). Climbs o.elements 0 xs) s a.climbs in
        (m, ms, s, x, rest, d.1, d.2)

-- the elements of these lists
pub record Whole (o : OffsetsData) (store : Store) (i n : ℕ) (ns : List ℕ) : Type 0 where
  pub rows : elements_from o store i (n + 1) ≡ rows_on (first_in ns) (last_in ns - first_in ns)
  pub order : first_in ns ≤ last_in ns
  pub within : last_in ns ≤ o.elements
  pub size : total (sizes_in ns) ≡ last_in ns - first_in ns

pub whole : (o : OffsetsData) (store : Store) (i n : ℕ) (ns : List ℕ) → AreOffsets o store i (n + 1) ns → Whole o store i n ns
whole o store i n ns h =
    let p = opened o store i n ns h in
    let a = p.0 in
    let ms = p.1 in
    let e = ends_on o store n i a ms p.3 p.4 p.5 p.6 in
    let z : n + 1 ≡ suc n = omega arith in
    let up = last_above o.elements a ms p.6 in
    let low = last_below o.elements a ms p.5 p.6 in
    let cut : min o.elements (last_from a ms) - a ≡ last_from a ms - a = omega (arith, low) in
    subst (λ (xs : List ℕ). Whole o store i n xs) (sym p.2) (record {
      rows = ap (elements_from o store i) z ∙ (rw (e.0, e.1) (ap (rows_on a) cut));
      order = up;
      within = low;
      size = total_sizes o.elements a ms p.6;
    })

-- ---- lists of elements
pub parts : (f : ℕ → Marked) (k m a : ℕ) (es : List Val) → map marked es ≡ map f (rows_on a (k + m)) → (marked_all (vals_of (take k es)) ≡ values_from f a k) × (map marked (drop k es) ≡ map f (rows_on (a + k) m))
parts f zero m a es h = let z : 0 + m ≡ m = omega arith in let y : a ≡ a + 0 = omega arith in (refl, h ∙ ap (λ n. map f (rows_on a n)) z ∙ ap (λ n. map f (rows_on n m)) y)
parts f (suc k) m a [] h = absurd (let z : suc k + m ≡ suc (k + m) = omega arith in let w = h ∙ ap (λ n. map f (rows_on a n)) z in cc)
parts f (suc k) m a (e ∷ es) h =
    let z : suc k + m ≡ suc (k + m) = omega arith in
    let w = h ∙ ap (λ n. map f (rows_on a n)) z in
    let first : marked e ≡ f a = cc in
    let rest : map marked es ≡ map f (rows_on (a + 1) (k + m)) = cc in
    let r = parts f k m (a + 1) es rest in
    let y : a + 1 + k ≡ a + suc k = omega arith in
    (rw (first, r.0) refl, r.1 ∙ ap (λ n. map f (rows_on n m)) y)

lists_on : (d : DataType) (p : PlanTree) (o : OffsetsData) (store : Store) (n i a : ℕ) (ns : List ℕ) (es : List Val) → offset_at o store i ≡ Some (pos a) → map (offset_at o store) (rows_on (i + 1) n) ≡ map (λ k. Some (pos k)) ns → Climbs o.elements a ns
    → map marked es ≡ map (value_at p store) (rows_on a (last_from a ns - a)) → map marked (typed list_of (cuts (sizes a ns) es) (replicate n true)) ≡ map (value_at (lists d p o) store) (rows_on i n)
lists_on d p o store zero i a [] es x h c v = refl
lists_on d p o store zero i a (b ∷ ns) es x h c v = absurd cc
lists_on d p o store (suc n) i a [] es x h c v = absurd cc
lists_on d p o store (suc n) i a (b ∷ ns) es x h c v =
    let y : offset_at o store (i + 1) ≡ Some (pos b) = cc in
    let rest : map (offset_at o store) (rows_on (i + 1 + 1) n) ≡ map (λ k. Some (pos k)) ns = cc in
    let above = last_above o.elements b ns c.2 in
    let z : last_from b ns - a ≡ (b - a) + (last_from b ns - b) = omega (arith, above, c.0) in
    let q = parts (value_at p store) (b - a) (last_from b ns - b) a es (v ∙ ap (λ m. map (value_at p store) (rows_on a m)) z) in
    let from : a + (b - a) ≡ b = omega (arith, c.0) in
    let later : map marked (drop (b - a) es) ≡ map (value_at p store) (rows_on b (last_from b ns - b)) = q.1 ∙ ap (λ m. map (value_at p store) (rows_on m (last_from b ns - b))) from in
    let up : nat_le a b ≡ true = grind (arith, nat_tests, c.0) in
    let within : nat_le b o.elements ≡ true = grind (arith, nat_tests, c.1) in
    rw (x, y, up, within, q.0) (ap (λ xs. list (values_from (value_at p store) a (b - a)) ∷ xs) (lists_on d p o store n (i + 1) b ns (drop (b - a) es) y rest c.2 later))

lists_at : (d : DataType) (p : PlanTree) (o : OffsetsData) (store : Store) (i n : ℕ) (ns : List ℕ) (es : List Val) → AreOffsets o store i (n + 1) ns → map marked es ≡ map (value_at p store) (rows_on (first_in ns) (last_in ns - first_in ns))
    → map marked (typed list_of (cuts (sizes_in ns) es) (replicate n true)) ≡ map (value_at (lists d p o) store) (rows_on i n)
lists_at d p o store i n ns es h v =
    let q = opened o store i n ns h in
    subst (λ (xs : List ℕ). map marked es ≡ map (value_at p store) (rows_on (first_in xs) (last_in xs - first_in xs)) → map marked (typed list_of (cuts (sizes_in xs) es) (replicate n true)) ≡ map (value_at (lists d p o) store) (rows_on i n)) (sym q.2)
    (λ w. lists_on d p o store n i q.0 q.1 es q.3 q.4 q.6 w) v

-- the rows of the elements of a cut
pub cut_rows : (o : OffsetsData) (store : Store) (is : List ℕ) (c : Cut) → IsCut o store is c → span_elements o store is ≡ rows_on (first_in c.offsets.items) (last_in c.offsets.items - first_in c.offsets.items)
cut_rows o store is c k = (k.span).elements o store ∙ (whole o store c.first (length c.mask) c.offsets.items k.offsets).rows

pub lists_ok : (d : DataType) (p : PlanTree) (o : OffsetsData) (here : Came) (is : List ℕ) (c : Cut) (a b : ArrayData) → IsCut o (arrived here) is c
    → map marked a.items ≡ map (value_at p (arrived here)) (rows_on (first_in c.offsets.items) (last_in c.offsets.items - first_in c.offsets.items))
    → AllDecode (wanted p here (element_rows o (arrived here) is)) (arrived here)
    → b ≡ of_parts d (items_where_true c.mask (typed list_of (cuts (sizes_in c.offsets.items) a.items) (replicate (length c.mask) true))) → AreValues (lists d p o) here is b
lists_ok d p o here is c a b k own f e = record {
  dtype = ap (λ (x : ArrayData). x.dtype) e;
  items = ap (λ (x : ArrayData). map marked x.items) e
      ∙ kept_rows (value_at (lists d p o) (arrived here)) (typed list_of (cuts (sizes_in c.offsets.items) a.items) (replicate (length c.mask) true)) c.first c.mask (lists_at d p o (arrived here) c.first (length c.mask) c.offsets.items a.items k.offsets own)
      ∙ ap (map (value_at (lists d p o) (arrived here))) (sym (k.span).rows);
  within = never is;
  found = λ id. fails_append (offsets_wanted o is) (if knows_elements o here is then wanted p here (element_rows o (arrived here) is) else []) (arrived here) id ∙ rw (cut_found o here is c k id) (by (knows_elements o here is) id);
}
  where
    by : (b : Bool) (id : ℕ) → fails (if b then wanted p here (element_rows o (arrived here) is) else []) (arrived here) id ≡ false
    by true id = f id
    by false id = refl

pub lists_none : (d : DataType) (p : PlanTree) (o : OffsetsData) (here : Came) (is : List ℕ) (b : ArrayData) → is ≡ [] → b ≡ of_parts d [] → AreValues (lists d p o) here is b
lists_none d p o here is b n e =
    subst (λ (js : List ℕ). AreValues (lists d p o) here js b) (sym n) (record { dtype = ap (λ (x : ArrayData). x.dtype) e; items = ap (λ (x : ArrayData). map marked x.items) e; within = refl; found = nothing_found (lists d p o) here })

-- ---- faults
never_on : (p : PlanTree) (n : ℕ) (store : Store) (k : ℕ) (bits : List Bool) → NeverOverflows p n → k + length bits ≤ n → overflow_on p store (true_rows k bits) ≡ false
never_on p n store k [] h w = refl
never_on p n store k (b ∷ bits) h w = by b (never_on p n store (k + 1) bits h (omega (arith, w)))
  where
    by : (c : Bool) → overflow_on p store (true_rows (k + 1) bits) ≡ false → overflow_on p store (true_rows k (c ∷ bits)) ≡ false
    by true rest = rw (h store k (omega (arith, w))) rest
    by false rest = rest

pub second_wanted : (d : DataType) (p : PlanTree) (o : OffsetsData) (here : Came) (is : List ℕ) → Complete (wanted (lists d p o) here is) here → (knows_elements o here is ≡ true) × Complete (wanted p here (element_rows o (arrived here) is)) here
second_wanted d p o here is c =
    let first = knows_here o here is (complete_left (offsets_wanted o is) (if knows_elements o here is then wanted p here (element_rows o (arrived here) is) else []) here c) in
    (first, by (knows_elements o here is) first (complete_right (offsets_wanted o is) (if knows_elements o here is then wanted p here (element_rows o (arrived here) is) else []) here c))
  where
    by : (b : Bool) → b ≡ true → Complete (if b then wanted p here (element_rows o (arrived here) is) else []) here → Complete (wanted p here (element_rows o (arrived here) is)) here
    by true e w = w
    by false e w = absurd cc

pub elements_fault : (d : DataType) (p : PlanTree) (o : OffsetsData) (here : Came) (is : List ℕ) (k : ℕ) (bits : List Bool) (f : ReadFault) → NeverOverflows p o.elements → element_rows o (arrived here) is ≡ true_rows k bits → k + length bits ≤ o.elements
    → Reads p here (element_rows o (arrived here) is) (Err f) → Reads (lists d p o) here is (Err f)
elements_fault d p o here is k bits (Corrupt id) n e w h = λ c. let s = second_wanted d p o here is c in rw (s.0, h s.1) (or_true (offsets_spoiled o here is id))
elements_fault d p o here is k bits Overflow n e w h = let none = ap (overflow_on p (arrived here)) e ∙ never_on p o.elements (arrived here) k bits n w in let z : true ≡ false = sym h ∙ none in absurd cc
elements_fault d p o here is k bits NoMemory n e w h = tt

pub offsets_fault_of : (d : DataType) (p : PlanTree) (o : OffsetsData) (here : Came) (is : List ℕ) (f : ReadFault) → Cuts o here is (Err f) → Reads (lists d p o) here is (Err f)
offsets_fault_of d p o here is (Corrupt id) h = λ c.
    let first = complete_left (offsets_wanted o is) (if knows_elements o here is then wanted p here (element_rows o (arrived here) is) else []) here c in rw (h first) refl
offsets_fault_of d p o here is Overflow h = absurd h
offsets_fault_of d p o here is NoMemory h = tt

-- ---- numbers as offsets
take_whole : (xs : List ℕ) → take (length xs) xs ≡ xs
take_whole [] = refl
take_whole (x ∷ xs) = ap (λ ys. x ∷ ys) (take_whole xs)

-- all but the first
abbrev pub ends_in : List ℕ → List ℕ
ends_in xs = take (length xs - 1) (drop 1 xs)

pub ends_are : (x : ℕ) (xs : List ℕ) → ends_in (x ∷ xs) ≡ xs
ends_are x xs = let z : suc (length xs) - 1 ≡ length xs = omega arith in ap (λ n. take n xs) z ∙ take_whole xs

pub opened_climbs : (most : ℕ) (xs : List ℕ) → 0 < length xs → Climbs most 0 xs → Climbs most (get_or xs 0 0) (ends_in xs)
opened_climbs most [] h c = absurd (omega (arith, h))
opened_climbs most (x ∷ xs) h c = subst (λ (ns : List ℕ). Climbs most x ns) (sym (ends_are x xs)) c.2

pub opened_sizes : (xs : List ℕ) → 0 < length xs → sizes_in xs ≡ sizes (get_or xs 0 0) (ends_in xs)
opened_sizes [] h = absurd (omega (arith, h))
opened_sizes (x ∷ xs) h = ap (sizes x) (sym (ends_are x xs))

pub opened_rises : (xs : List ℕ) → 0 < length xs → Rises 0 xs → Rises (get_or xs 0 0) (ends_in xs)
opened_rises [] h c = absurd (omega (arith, h))
opened_rises (x ∷ xs) h c = subst (λ (ns : List ℕ). Rises x ns) (sym (ends_are x xs)) c.1

pub first_is : (xs : List ℕ) → 0 < length xs → get_or xs 0 0 ≡ first_in xs
first_is [] h = absurd (omega (arith, h))
first_is (x ∷ xs) h = refl

last_at : (x : ℕ) (xs : List ℕ) → get_or (x ∷ xs) (length xs) 0 ≡ last_from x xs
last_at x [] = refl
last_at x (y ∷ xs) = last_at y xs

pub last_is : (xs : List ℕ) → 0 < length xs → get_or xs (length xs - 1) 0 ≡ last_in xs
last_is [] h = absurd (omega (arith, h))
last_is (x ∷ xs) h = let z : suc (length xs) - 1 ≡ length xs = omega arith in ap (λ n. get_or (x ∷ xs) n 0) z ∙ last_at x xs

pub in_order : (most : ℕ) (xs : List ℕ) → 0 < length xs → Climbs most 0 xs → (first_in xs ≤ last_in xs) × (last_in xs ≤ most)
in_order most [] h c = absurd (omega (arith, h))
in_order most (x ∷ xs) h c = (last_above most x xs c.2, last_below most x xs c.1 c.2)

sizes_long : (a : ℕ) (ns : List ℕ) → length (sizes a ns) ≡ length ns
sizes_long a [] = refl
sizes_long a (n ∷ ns) = ap suc (sizes_long n ns)

pub length-map : {A B : Type 0} (f : A → B) (xs : List A) → length (map f xs) ≡ length xs
length-map f [] = refl
length-map f (x ∷ xs) = ap suc (length-map f xs)

pub lengths_long : (xs : List ℕ) (n : ℕ) → length xs ≡ n + 1 → length (map length_val (sizes_in xs)) ≡ n
lengths_long [] n h = absurd (omega (arith, h))
lengths_long (x ∷ xs) n h = length-map length_val (sizes x xs) ∙ sizes_long x xs ∙ omega (arith, h)

lists_long : (a : ℕ) (ns : List ℕ) (es : List Val) → length (typed list_of (cuts (sizes a ns) es) (replicate (length ns) true)) ≡ length ns
lists_long a [] es = refl
lists_long a (n ∷ ns) es = ap suc (lists_long n ns (drop (n - a) es))

pub cut_long : (xs : List ℕ) (n : ℕ) (es : List Val) → length xs ≡ n + 1 → length (typed list_of (cuts (sizes_in xs) es) (replicate n true)) ≡ n
cut_long [] n es h = absurd (omega (arith, h))
cut_long (x ∷ xs) n es h = let z : n ≡ length xs = omega (arith, h) in ap (λ m. length (typed list_of (cuts (sizes x xs) es) (replicate m true))) z ∙ lists_long x xs es ∙ sym z

-- lists by where each ends
sums_long : (s : ℕ) (ns : List ℕ) → length (sums s ns) ≡ length ns
sums_long s [] = refl
sums_long s (n ∷ ns) = ap suc (sums_long (s + n) ns)

ends_long : (xs : List ℕ) (n : ℕ) → length xs ≡ n + 1 → length (sums 0 (sizes_in xs)) ≡ n
ends_long [] n h = absurd (omega (arith, h))
ends_long (x ∷ xs) n h = sums_long 0 (sizes x xs) ∙ sizes_long x xs ∙ omega (arith, h)

pub lists_made : (d : DataType) (xs ends : List ℕ) (n : ℕ) (es : List Val) (a : ArrayData) → length xs ≡ n + 1 → ends ≡ sums 0 (sizes_in xs)
    → a ≡ of_parts d (typed list_of (cuts (sizes 0 ends) es) (replicate (length ends) true))
    → a ≡ of_parts d (typed list_of (cuts (sizes_in xs) es) (replicate n true))
lists_made d xs ends n es a h e m =
    m ∙ ap (λ (ks : List ℕ). of_parts d (typed list_of (cuts (sizes 0 ks) es) (replicate (length ks) true))) e
    ∙ (λ i. of_parts d (typed list_of (cuts (sizes_sums 0 (sizes_in xs) i) es) (replicate (ends_long xs n h i) true)))

and_true : (a b : Bool) → a ≡ true → b ≡ true → (a && b) ≡ true
and_true true b h k = k
and_true false b h k = h

one_fits : (k : ℕ) → k < 2 ^ 64 → ltb k (2 ^ 64) ≡ true
one_fits k h = grind (arith, nat_tests)

sizes_fit : (most a : ℕ) (ns : List ℕ) → most < 2 ^ 64 → Climbs most a ns → fits_all (marked_all (vals_of (map length_val (sizes a ns)))) (int_type U64 NonNullable) ≡ true
sizes_fit most a [] m c = refl
sizes_fit most a (n ∷ ns) m c =
    and_true (ltb (n - a) (2 ^ 64)) (fits_all (marked_all (vals_of (map length_val (sizes n ns)))) (int_type U64 NonNullable))
    (one_fits (n - a) (omega (arith, m, c.1))) (sizes_fit most n ns m c.2)

pub lengths_fit : (most : ℕ) (xs : List ℕ) → most < 2 ^ 64 → Climbs most 0 xs → fits_all (marked_all (vals_of (map length_val (sizes_in xs)))) (int_type U64 NonNullable) ≡ true
lengths_fit most [] m c = refl
lengths_fit most (x ∷ xs) m c = sizes_fit most x xs m c.2

-- as many offsets as lists, and one
pub cut_count : (o : OffsetsData) (store : Store) (i n : ℕ) (ns : List ℕ) → AreOffsets o store i n ns → length ns ≡ n
cut_count o store i n ns a = sym (length-map (λ k. Some (pos k)) ns) ∙ ap length (sym a.at) ∙ length-map (offset_at o store) (rows_on i n) ∙ rows_long i n

pub whole_fault : (o : OffsetsData) (here : Came) (is : List ℕ) (f : ReadFault) → Cuts o here is (Err f) → CutsWhole o here is (Err f)
whole_fault o here is (Corrupt id) h = h
whole_fault o here is Overflow h = h
whole_fault o here is NoMemory h = tt

pub lists_fault : (d : DataType) (p : PlanTree) (o : OffsetsData) (here : Came) (is : List ℕ) (f : ReadFault) → CutsWhole o here is (Err f) → Reads (lists d p o) here is (Err f)
lists_fault d p o here is (Corrupt id) h = offsets_fault_of d p o here is (Corrupt id) h
lists_fault d p o here is Overflow h = absurd h
lists_fault d p o here is NoMemory h = tt

pub lengths_fault : (o : OffsetsData) (here : Came) (is : List ℕ) (f : ReadFault) → Cuts o here is (Err f) → Reads (lengths o) here is (Err f)
lengths_fault o here is (Corrupt id) h = h
lengths_fault o here is Overflow h = absurd h
lengths_fault o here is NoMemory h = tt

-- ---- what is made of the elements that were read
pub lists_given : (d : DataType) (p : PlanTree) (o : OffsetsData) (here : Came) (is : List ℕ) (c : Cut) (a : ArrayData) (r : Result ArrayData ReadFault) → IsCut o (arrived here) is c
    → map marked a.items ≡ map (value_at p (arrived here)) (rows_on (first_in c.offsets.items) (last_in c.offsets.items - first_in c.offsets.items)) → AllDecode (wanted p here (element_rows o (arrived here) is)) (arrived here) → ListsOf d c a r → Reads (lists d p o) here is r
lists_given d p o here is c a (Ok b) k v f h = lists_ok d p o here is c a b k v f h
lists_given d p o here is c a (Err (Corrupt id)) k v f h = absurd h
lists_given d p o here is c a (Err Overflow) k v f h = absurd h
lists_given d p o here is c a (Err NoMemory) k v f h = tt

pub none_given : (d : DataType) (p : PlanTree) (o : OffsetsData) (here : Came) (is : List ℕ) (r : Result ArrayData ReadFault) → is ≡ [] → NoneOf d r → Reads (lists d p o) here is r
none_given d p o here is (Ok b) n h = lists_none d p o here is b n h
none_given d p o here is (Err (Corrupt id)) n h = absurd h
none_given d p o here is (Err Overflow) n h = absurd h
none_given d p o here is (Err NoMemory) n h = tt
