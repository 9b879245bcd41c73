-- The elements that are read for lists: all that there are, or those between the first and the last asked list.
use Rattle.std.proofs.Common.{◌≡◌, ℕ, zero, suc, ◌+◌, ◌-◌, ◌<◌, ◌≤◌, Bool, true, false, ◌&&◌, ◌==◌, List, [], ◌∷◌, map, take, drop, length, replicate, refl, ap, ◌∙◌, sym, arith, length-take, length-drop}
use Rattle.std.specs.Prelude.{nat_lt, if◌then◌else◌, slice_range}
use Rattle.std.specs.List.{items_where_true, list_all}
use Rattle.std.proofs.lemmas.Bool.{eqb-true}
use Rattle.std.proofs.lemmas.Bool.Decides.{nat_tests}
use Rattle.std.proofs.lemmas.List.{length-replicate}
use Rattle.scan_values.specs.Arrays.{ArrayData, of_parts}
use Rattle.scan_values.specs.Marked.{Marked}
use Rattle.scan_values.specs.Masks.{true_count}
use Rattle.scan_values.specs.Val.{Val, marked}
use Rattle.scan_columns.specs.Nested.{sizes, Rises, total}
use Rattle.scan_segments.specs.Source.{Store}
use Rattle.scan_layout.specs.Check.{total_rows}
use Rattle.scan_plans.specs.PlanTree.{PlanTree}
use Rattle.scan_plans.specs.Came.{Came, arrived}
use Rattle.scan_plans.specs.ListItems.{sizes_in, first_in, last_from, last_in}
use Rattle.scan_plans.specs.Lists.{rows_on, is_whole, span_elements, element_rows}
use Rattle.scan_plans.specs.Meaning.{value_at, true_rows}
use Rattle.scan_plans.specs.OffsetReads.{IsCut, AreElements, AreRead, elements_in}
use Rattle.scan_plans.specs.OffsetsData.{OffsetsData}
use Rattle.scan_plans.specs.Reads.{AreValues}
use Rattle.scan_plans.specs.declared.lists.Cut.{Cut}
use Rattle.scan_plans.proofs.Columns.{count_rows}
use Rattle.scan_plans.proofs.ListCells.{whole, cut_rows, parts, length-map}
use Rattle.scan_plans.proofs.OffsetChecks.{rows_long}

-- ---- all lists
by_count : (o : OffsetsData) (is : List ℕ) (n m : ℕ) → n ≡ length is → 0 < n → m ≡ total_rows o.segments - 1 → (n == m) ≡ is_whole o is
by_count o [] n m e some w = absurd (omega (arith, e, some))
by_count o (i ∷ is) n m e some w = same (n == m) (suc (length is) + 1 == total_rows o.segments) refl refl
  where
    same : (a b : Bool) → (n == m) ≡ a → (suc (length is) + 1 == total_rows o.segments) ≡ b → (n == m) ≡ (suc (length is) + 1 == total_rows o.segments)
    same true true u v = u ∙ sym v
    same false false u v = u ∙ sym v
    same true false u v = absurd (let x : ⊥ = grind (arith, nat_tests, u, v, e, w) in x)
    same false true u v = absurd (let x : ⊥ = grind (arith, nat_tests, u, v, e, w) in x)

no_row : (o : OffsetsData) (is : List ℕ) (n : ℕ) → n ≡ length is → n ≤ 0 → nat_lt 0 n ≡ is_whole o is
no_row o [] n e none = grind (arith, nat_tests, e)
no_row o (i ∷ is) n e none = absurd (omega (arith, e, none))

-- a mask is true at each list that there is, where it is true at so many
pub some_true : (o : OffsetsData) (k : ℕ) (bits : List Bool) (n m : ℕ) → n ≡ true_count bits → 0 < n → m ≡ total_rows o.segments - 1 → (n == m) ≡ is_whole o (true_rows k bits)
some_true o k bits n m e some w = by_count o (true_rows k bits) n m (e ∙ count_rows k bits) some w

pub none_true : (o : OffsetsData) (k : ℕ) (bits : List Bool) (n : ℕ) → n ≡ true_count bits → n ≤ 0 → nat_lt 0 n ≡ is_whole o (true_rows k bits)
none_true o k bits n e none = no_row o (true_rows k bits) n (e ∙ count_rows k bits) none

rows_fewer : (k : ℕ) (bits : List Bool) → length (true_rows k bits) ≤ length bits
rows_fewer k [] = omega arith
rows_fewer k (true ∷ bits) = let z = rows_fewer (k + 1) bits in omega (arith, z)
rows_fewer k (false ∷ bits) = let z = rows_fewer (k + 1) bits in omega (arith, z)

-- the true rows of a range are all lists only where the range is
pub whole_range : (o : OffsetsData) (first : ℕ) (mask : List Bool) → first + length mask < total_rows o.segments → is_whole o (true_rows first mask) ≡ true → (first ≡ 0) × (length mask + 1 ≡ total_rows o.segments) × (0 < length mask)
whole_range o first mask inside h = by (true_rows first mask) refl h
  where
    by : (is : List ℕ) → true_rows first mask ≡ is → is_whole o is ≡ true → (first ≡ 0) × (length mask + 1 ≡ total_rows o.segments) × (0 < length mask)
    by [] e w = absurd cc
    by (i ∷ is) e w =
        let z = eqb-true (suc (length is) + 1) (total_rows o.segments) w in
        let n : length (true_rows first mask) ≡ suc (length is) = ap length e in
        let f = rows_fewer first mask in (omega (arith, z, n, f, inside), omega (arith, z, n, f, inside), omega (arith, z, n, f, inside))

-- ---- the rows that are read
pub record ReadRows (o : OffsetsData) (store : Store) (is ns : List ℕ) (first : ℕ) (mask : List Bool) : Type 0 where
  pub rows : element_rows o store is ≡ rows_on first (length mask)
  pub all : mask ≡ replicate (length mask) true
  pub begins : first ≤ first_in ns
  pub order : first_in ns ≤ last_in ns
  pub ends : last_in ns ≤ first + length mask
  pub within : first + length mask ≤ o.elements

pub cut_read : (o : OffsetsData) (store : Store) (is : List ℕ) (c : Cut) (first : ℕ) (mask : List Bool) → IsCut o store is c → AreRead o is c.offsets.items first mask → ReadRows o store is c.offsets.items first mask
cut_read o store is c first mask k w = by (is_whole o is) refl w
  where
    ns : List ℕ
    ns = c.offsets.items

    by : (b : Bool) → is_whole o is ≡ b → AreElements b o ns first mask → ReadRows o store is ns first mask
    by true e v =
        let q = whole o store c.first (length c.mask) ns k.offsets in
        let long : length mask ≡ o.elements = ap length v.1 ∙ length-replicate o.elements true in record {
          rows = ap (λ b. if b then rows_on 0 o.elements else span_elements o store is) e ∙ (λ i. rows_on (sym v.0 i) (sym long i));
          all = v.1 ∙ ap (λ n. replicate n true) (sym long);
          begins = omega (arith, v.0);
          order = q.order;
          ends = omega (arith, v.0, long, q.within);
          within = omega (arith, v.0, long);
        }
    by false e v =
        let q = whole o store c.first (length c.mask) ns k.offsets in
        let long : length mask ≡ last_in ns - first_in ns = ap length v.1 ∙ length-replicate (last_in ns - first_in ns) true in record {
          rows = ap (λ b. if b then rows_on 0 o.elements else span_elements o store is) e ∙ cut_rows o store is c k ∙ (λ i. rows_on (sym v.0 i) (sym long i));
          all = v.1 ∙ ap (λ n. replicate n true) (sym long);
          begins = omega (arith, v.0);
          order = q.order;
          ends = omega (arith, v.0, long, q.order);
          within = omega (arith, v.0, long, q.order, q.within);
        }

pub read_mask : (o : OffsetsData) (store : Store) (is ns : List ℕ) (first : ℕ) (mask : List Bool) → ReadRows o store is ns first mask → element_rows o store is ≡ true_rows first mask
read_mask o store is ns first mask r = r.rows ∙ ap (true_rows first) (sym r.all)

pub read_long : (p : PlanTree) (o : OffsetsData) (here : Came) (is ns : List ℕ) (first : ℕ) (mask : List Bool) (a : ArrayData) → ReadRows o (arrived here) is ns first mask → AreValues p here (element_rows o (arrived here) is) a → length a.items ≡ length mask
read_long p o here is ns first mask a r v =
    sym (length-map marked a.items) ∙ ap length v.items ∙ length-map (value_at p (arrived here)) (element_rows o (arrived here) is) ∙ ap length r.rows ∙ rows_long first (length mask)

-- ---- of the elements that were read those of the lists
taken : (f : ℕ → Marked) (k m a : ℕ) (es : List Val) → map marked es ≡ map f (rows_on a (k + m)) → map marked (take k es) ≡ map f (rows_on a k)
taken f zero m a es h = refl
taken f (suc k) m a [] h = absurd (let z : suc k + m ≡ suc (k + m) = omega arith in let w = h ∙ ap (λ n. map f (rows_on a n)) z in cc)
taken f (suc k) m a (e ∷ es) h =
    let z : suc k + m ≡ suc (k + m) = omega arith in
    let w = h ∙ ap (λ n. map f (rows_on a n)) z in
    let first : marked e ≡ f a = cc in
    let rest : map marked es ≡ map f (rows_on (a + 1) (k + m)) = cc in
    rw first (ap (λ xs. f a ∷ xs) (taken f k m (a + 1) es rest))

ranged : (f : ℕ → Marked) (a n first last : ℕ) (es : List Val) → map marked es ≡ map f (rows_on a n) → a ≤ first → first ≤ last → last ≤ a + n → map marked (slice_range es (first - a) (last - a)) ≡ map f (rows_on first (last - first))
ranged f a n first last es h low up high =
    let z : n ≡ (first - a) + (n - (first - a)) = omega (arith, low, up, high) in
    let q = parts f (first - a) (n - (first - a)) a es (h ∙ ap (λ x. map f (rows_on a x)) z) in
    let from : a + (first - a) ≡ first = omega (arith, low) in
    let later : map marked (drop (first - a) es) ≡ map f (rows_on first (n - (first - a))) = q.1 ∙ ap (λ x. map f (rows_on x (n - (first - a)))) from in
    let y : n - (first - a) ≡ (last - first) + (a + n - last) = omega (arith, low, up, high) in
    let t = taken f (last - first) (a + n - last) first (drop (first - a) es) (later ∙ ap (λ x. map f (rows_on first x)) y) in
    let s : (last - a) - (first - a) ≡ last - first = omega (arith, low, up) in
    ap (λ x. map marked (take x (drop (first - a) es))) s ∙ t

pub read_items : (p : PlanTree) (o : OffsetsData) (here : Came) (is ns : List ℕ) (first : ℕ) (mask : List Bool) (a : ArrayData) → ReadRows o (arrived here) is ns first mask → AreValues p here (element_rows o (arrived here) is) a
    → map marked (elements_in ns first a).items ≡ map (value_at p (arrived here)) (rows_on (first_in ns) (last_in ns - first_in ns))
read_items p o here is ns first mask a r v = ranged (value_at p (arrived here)) first (length mask) (first_in ns) (last_in ns) a.items (v.items ∙ ap (map (value_at p (arrived here))) r.rows) r.begins r.order r.ends

-- ---- how many they are
last_up : (a : ℕ) (ns : List ℕ) → Rises a ns → a ≤ last_from a ns
last_up a [] c = omega arith
last_up a (n ∷ ns) c = let z = last_up n ns c.1 in omega (arith, z, c.0)

total_up : (a : ℕ) (ns : List ℕ) → Rises a ns → total (sizes a ns) ≡ last_from a ns - a
total_up a [] c = omega arith
total_up a (n ∷ ns) c = let z = total_up n ns c.1 in let y = last_up n ns c.1 in omega (arith, z, y, c.0)

pub rises_order : (xs : List ℕ) → Rises 0 xs → first_in xs ≤ last_in xs
rises_order [] c = omega arith
rises_order (x ∷ xs) c = last_up x xs c.1

rises_total : (xs : List ℕ) → Rises 0 xs → total (sizes_in xs) ≡ last_in xs - first_in xs
rises_total [] c = omega arith
rises_total (x ∷ xs) c = total_up x xs c.1

pub own_size : (ns : List ℕ) (first : ℕ) (a : ArrayData) → Rises 0 ns → first ≤ first_in ns → last_in ns ≤ first + length a.items → total (sizes_in ns) ≡ length (elements_in ns first a).items
own_size ns first a c low high =
    let t = rises_total ns c in
    let o = rises_order ns c in
    let k = length-take ((last_in ns - first) - (first_in ns - first)) (drop (first_in ns - first) a.items) in
    let d = length-drop (first_in ns - first) a.items in
    omega (arith, t, o, k, d, low, high)

take_whole : (xs : List Val) → take (length xs) xs ≡ xs
take_whole [] = refl
take_whole (x ∷ xs) = ap (λ ys. x ∷ ys) (take_whole xs)

-- all of them
range_whole : (xs : List Val) (start end : ℕ) → start ≤ end → end ≤ length xs → end - start ≡ length xs → slice_range xs start end ≡ xs
range_whole xs start end low high same =
    let s : start ≡ 0 = omega (arith, low, high, same) in
    let n : end - start ≡ length xs = same in
    (λ i. take (n i) (drop (s i) xs)) ∙ take_whole xs

pub all_in : (ns : List ℕ) (first : ℕ) (a : ArrayData) → first ≤ first_in ns → first_in ns ≤ last_in ns → last_in ns ≤ first + length a.items → (last_in ns - first) - (first_in ns - first) ≡ length a.items → a ≡ elements_in ns first a
all_in ns first a low up high same =
    ap (of_parts a.dtype) (sym (range_whole a.items (first_in ns - first) (last_in ns - first) (omega (arith, low, up)) (omega (arith, low, up, high)) same))

and_left : (a b : Bool) → (a && b) ≡ true → a ≡ true
and_left true b h = refl
and_left false b h = h

and_right : (a b : Bool) → (a && b) ≡ true → b ≡ true
and_right true b h = h
and_right false b h = absurd cc

-- a mask that is true everywhere keeps all items
pub all_kept : (bits : List Bool) (xs : List Val) → list_all (λ b. b) bits ≡ true → length xs ≡ length bits → xs ≡ items_where_true bits xs
all_kept [] [] h e = refl
all_kept [] (x ∷ xs) h e = absurd (omega (arith, e))
all_kept (b ∷ bits) [] h e = absurd (omega (arith, e))
all_kept (true ∷ bits) (x ∷ xs) h e = ap (λ ys. x ∷ ys) (all_kept bits xs (and_right true (list_all (λ b. b) bits) h) (omega (arith, e)))
all_kept (false ∷ bits) (x ∷ xs) h e = absurd (let z = and_left false (list_all (λ b. b) bits) h in cc)
