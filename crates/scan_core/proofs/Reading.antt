-- The rows that the splits of a scan read.
use Rattle.std.proofs.Common.{◌≡◌, ◌≤◌, ◌<◌, ◌+◌, ◌-◌, ◌&&◌, ◌||◌, ◌==◌, ℕ, zero, suc, min, max, Bool, true, false, nat_lt, nat_le, List, [], ◌∷◌, ◌++◌, filter, flat_map, Option, Some, None, refl, sym, ap, subst, ◌∙◌, arith}
use Rattle.std.proofs.lemmas.Bool.Decides.{nat_tests}
use Rattle.std.proofs.lemmas.List.{append-nil}
use Rattle.std.proofs.lemmas.List.Concat.{flat_map-cons}
use Rattle.std.proofs.lemmas.List.Elements.{filter-append}
use Rattle.std.specs.List.{range_with_len}
use Rattle.std.specs.declared.ops.Range.{Range}
use Rattle.scan_values.specs.Selections.{numbers, is_among, selects, picked_rows}
use Rattle.scan_values.specs.StrictSorted.{is_rising}
use Rattle.scan_values.specs.declared.selection.Selection.{Selection}
use Rattle.scan_values.specs.declared.selection.Selection.TheVariants.{All, IncludeByIndex, ExcludeByIndex}
use Rattle.scan_values.proofs.Rising.{Above-rest, is_rising-rest}
use Rattle.scan_core.specs.Given.{Rises}
use Rattle.scan_core.specs.RowRanges.{is_in, narrowed}
use Rattle.scan_core.specs.SplitRanges.{rows, neighbours, last_from, spanned, split_ranges, cut_at, common, span_of, Follow}
use Rattle.scan_core.proofs.Picking.{filter_rising, last_above}
use Rattle.scan_core.proofs.Following.{splits_of_a_range}
use Rattle.scan_core.proofs.Reaching.{EndsBy}

-- ---- rows from one up to another
range_join : (a m n : ℕ) → range_with_len a (m + n) ≡ range_with_len a m ++ range_with_len (a + m) n
range_join a zero n =
    let none : 0 + n ≡ n = omega arith in
    let here : a ≡ a + 0 = omega arith in
    subst (λ k. range_with_len a k ≡ range_with_len (a + 0) n) (sym none) (ap (λ b. range_with_len b n) here)
range_join a (suc m) n =
    let more : suc (m + n) ≡ suc m + n = omega arith in
    let on : (a + 1) + m ≡ a + suc m = omega arith in
    let rest : range_with_len a (suc (m + n)) ≡ range_with_len a (suc m) ++ range_with_len ((a + 1) + m) n = ap (λ xs. a ∷ xs) (range_join (a + 1) m n) in
    subst (λ b. range_with_len a (suc m + n) ≡ range_with_len a (suc m) ++ range_with_len b n) on (subst (λ k. range_with_len a k ≡ range_with_len a (suc m) ++ range_with_len ((a + 1) + m) n) more rest)

pub numbers_join : (a m b : ℕ) → a ≤ m → m ≤ b → numbers a b ≡ numbers a m ++ numbers m b
numbers_join a m b p q =
    let long : (m - a) + (b - m) ≡ b - a = omega arith in
    let on : a + (m - a) ≡ m = omega arith in
    subst (λ k. range_with_len a k ≡ range_with_len a (m - a) ++ range_with_len m (b - m)) long (subst (λ c. range_with_len a ((m - a) + (b - m)) ≡ range_with_len a (m - a) ++ range_with_len c (b - m)) on (range_join a (m - a) (b - m)))

pub no_numbers : (a b : ℕ) → b ≤ a → numbers a b ≡ []
no_numbers a b l = let none : 0 ≡ b - a = omega arith in subst (λ k. range_with_len a k ≡ []) none refl

module _ (p : ℕ → Bool) where
  nothing_from : (a n : ℕ) → ((i : ℕ) → a ≤ i → i < a + n → p i ≡ false) → filter p (range_with_len a n) ≡ []
  nothing_from a zero h = refl
  nothing_from a (suc n) h =
      let out = h a (omega arith) (omega arith) in
      rw out (nothing_from (a + 1) n (λ i l m. h i (omega (arith, l)) (omega (arith, m))))

  nothing_between : (a b : ℕ) → ((i : ℕ) → a ≤ i → i < b → p i ≡ false) → filter p (numbers a b) ≡ []
  nothing_between a b h = nothing_from a (b - a) (λ i l m. h i l (omega (arith, l, m)))

  -- where all that pass lie in a smaller range, they are those that pass in it
  not_in : (i s e : ℕ) → (p i ≡ true → (s ≤ i) × (i < e)) → (i < s) → p i ≡ false
  not_in i s e h l = go (p i) refl
    where
      go : (b : Bool) → p i ≡ b → p i ≡ false
      go false k = k
      go true k = absurd (omega (arith, l, (h k).0))

  not_past : (i s e : ℕ) → (p i ≡ true → (s ≤ i) × (i < e)) → (e ≤ i) → p i ≡ false
  not_past i s e h l = go (p i) refl
    where
      go : (b : Bool) → p i ≡ b → p i ≡ false
      go false k = k
      go true k = absurd (omega (arith, l, (h k).1))

  not_none : (i s e : ℕ) → (p i ≡ true → (s ≤ i) × (i < e)) → (e ≤ s) → p i ≡ false
  not_none i s e h l = go (p i) refl
    where
      go : (b : Bool) → p i ≡ b → p i ≡ false
      go false k = k
      go true k = let q = h k in absurd (omega (arith, l, q.0, q.1))

  same_picks : (s e a b : ℕ) → ((i : ℕ) → a ≤ i → i < b → (s ≤ i) × (i < e)) → ((i : ℕ) → s ≤ i → i < e → p i ≡ true → (a ≤ i) × (i < b)) → filter p (numbers a b) ≡ filter p (numbers s e)
  same_picks s e a b inside all = go (nat_lt a b) refl
    where
      go : (z : Bool) → nat_lt a b ≡ z → filter p (numbers a b) ≡ filter p (numbers s e)
      go false k =
          let none : b ≤ a = grind (arith, nat_tests, k) in
          ap (filter p) (no_numbers a b none) ∙ sym (nothing_between s e (λ i l m. not_none i a b (all i l m) none))
      go true k =
          let some : a < b = grind (arith, nat_tests, k) in
          let first : s ≤ a = (inside a (omega arith) some).0 in
          let past : b - 1 < e = (inside (b - 1) (omega (arith, some)) (omega (arith, some))).1 in
          let low : filter p (numbers s a) ≡ [] = nothing_between s a (λ i l m. not_in i a b (all i l (omega (arith, m, some, past))) m) in
          let high : filter p (numbers b e) ≡ [] = nothing_between b e (λ i l m. not_past i a b (all i (omega (arith, l, first, some)) m) l) in
          let whole : numbers s e ≡ numbers s a ++ (numbers a b ++ numbers b e) = numbers_join s a e first (omega (arith, some, past)) ∙ ap (λ xs. numbers s a ++ xs) (numbers_join a b e (omega (arith, some)) (omega (arith, past))) in
          let two : filter p (numbers s e) ≡ filter p (numbers s a) ++ filter p (numbers a b ++ numbers b e) = ap (filter p) whole ∙ filter-append p (numbers s a) (numbers a b ++ numbers b e) in
          let parts = two ∙ ap (λ xs. filter p (numbers s a) ++ xs) (filter-append p (numbers a b) (numbers b e)) in
          sym (parts ∙ ap (λ xs. xs ++ (filter p (numbers a b) ++ filter p (numbers b e))) low ∙ ap (λ xs. filter p (numbers a b) ++ xs) high ∙ append-nil (filter p (numbers a b)))

  -- ---- the rows of ranges that follow each other

  follow_order : (a b : ℕ) (rs : List (Range ℕ)) → Follow a b rs → a ≤ b
  follow_order a b [] h = omega (arith, h)
  follow_order a b (r ∷ rs) h = let rest = follow_order r.end b rs h.2 in omega (arith, h.0, h.1, rest)

  follow_rows : (a b : ℕ) (rs : List (Range ℕ)) → Follow a b rs → flat_map (λ (r : Range ℕ). filter p (numbers r.start r.end)) rs ≡ filter p (numbers a b)
  follow_rows a b [] h = sym (ap (filter p) (no_numbers a b (omega (arith, h))))
  follow_rows a b (r ∷ rs) h =
      let rest = follow_order r.end b rs h.2 in
      let joined : numbers a b ≡ numbers a r.end ++ numbers r.end b = numbers_join a r.end b (omega (arith, h.0, h.1)) rest in
      let parts : filter p (numbers a b) ≡ filter p (numbers a r.end) ++ filter p (numbers r.end b) = ap (filter p) joined ∙ filter-append p (numbers a r.end) (numbers r.end b) in
      flat_map-cons (λ (t : Range ℕ). filter p (numbers t.start t.end)) r rs
      ∙ ap (λ xs. filter p (numbers r.start r.end) ++ xs) (follow_rows r.end b rs h.2)
      ∙ ap (λ c. filter p (numbers c r.end) ++ filter p (numbers r.end b)) h.0
      ∙ sym parts

  range_rows : (bs : List ℕ) (r : Range ℕ) → is_rising bs ≡ true → flat_map (λ (t : Range ℕ). filter p (numbers t.start t.end)) (cut_at bs r) ≡ filter p (numbers r.start r.end)
  range_rows bs r h = go (nat_le r.start r.end) refl
    where
      go : (z : Bool) → nat_le r.start r.end ≡ z → flat_map (λ (t : Range ℕ). filter p (numbers t.start t.end)) (cut_at bs r) ≡ filter p (numbers r.start r.end)
      go true k = let order : r.start ≤ r.end = grind (arith, nat_tests, k) in follow_rows r.start r.end (cut_at bs r) (splits_of_a_range bs r h order)
      go false k =
          let none : nat_lt r.start r.end ≡ false = grind (arith, nat_tests, k) in
          let empty : r.end ≤ r.start = grind (arith, nat_tests, k) in
          rw none (sym (ap (filter p) (no_numbers r.start r.end empty)))

-- ---- the span of numbers that pass a test
or_split : (a b : Bool) (P : Type 0) → (a ≡ true → P) → (b ≡ true → P) → (a || b) ≡ true → P
or_split true b P f g h = f refl
or_split false b P f g h = g h

first_bounds : (y : ℕ) (zs : List ℕ) (i : ℕ) → is_rising (y ∷ zs) ≡ true → (y == i) ≡ true → (y ≤ i) × (i ≤ last_from y zs)
first_bounds y zs i r e =
    let same : y ≡ i = grind (arith, nat_tests, e) in
    let top = last_above y zs r in
    (omega (arith, same), omega (arith, same, top))

among_bounds : (y : ℕ) (zs : List ℕ) (i : ℕ) → is_rising (y ∷ zs) ≡ true → is_among (y ∷ zs) i ≡ true → (y ≤ i) × (i ≤ last_from y zs)
among_bounds y [] i r h = or_split (y == i) false ((y ≤ i) × (i ≤ y)) (first_bounds y [] i r) (λ k. cc) h
among_bounds y (w ∷ ws) i r h =
    let up = (Above-rest y (w ∷ ws) r).0 in
    let on : is_among (w ∷ ws) i ≡ true → (y ≤ i) × (i ≤ last_from w ws) = λ k. let rest = among_bounds w ws i (is_rising-rest y (w ∷ ws) r) k in (omega (arith, up, rest.0), rest.1) in
    or_split (y == i) (is_among (w ∷ ws) i) ((y ≤ i) × (i ≤ last_from w ws)) (first_bounds y (w ∷ ws) i r) on h

among_filter : (t : ℕ → Bool) (xs : List ℕ) (i : ℕ) → t i ≡ true → is_among xs i ≡ true → is_among (filter t xs) i ≡ true
among_filter t [] i e h = h
among_filter t (x ∷ xs) i e h = or_split (x == i) (is_among xs i) (is_among (filter t (x ∷ xs)) i ≡ true) here (λ k. later (t x) refl (among_filter t xs i e k)) h
  where
    here : (x == i) ≡ true → is_among (filter t (x ∷ xs)) i ≡ true
    here k =
        let same : x ≡ i = grind (arith, nat_tests, k) in
        let passes : t x ≡ true = subst (λ z. t z ≡ true) (sym same) e in
        rw (passes, k) refl

    later : (b : Bool) → t x ≡ b → is_among (filter t xs) i ≡ true → is_among (filter t (x ∷ xs)) i ≡ true
    later true k rest = rw k (or_right (x == i) (is_among (filter t xs) i) rest)
      where
        or_right : (a c : Bool) → c ≡ true → (a || c) ≡ true
        or_right true c q = refl
        or_right false c q = q
    later false k rest = rw k rest

-- all of them lie in it
span_holds : (t : ℕ → Bool) (xs : List ℕ) (i : ℕ) → is_rising xs ≡ true → t i ≡ true → is_among xs i ≡ true → ((spanned (filter t xs)).start ≤ i) × (i < (spanned (filter t xs)).end)
span_holds t xs i r e h = go (filter t xs) (filter_rising t xs r) (among_filter t xs i e h)
  where
    go : (ys : List ℕ) → is_rising ys ≡ true → is_among ys i ≡ true → ((spanned ys).start ≤ i) × (i < (spanned ys).end)
    go [] q k = cc
    go (y ∷ zs) q k = let b = among_bounds y zs i q k in (b.0, omega (arith, b.1))

-- it lies where they do
abbrev pub AreWithin : ℕ → ℕ → List ℕ → Type 0
AreWithin lo hi [] = Unit {0}
AreWithin lo hi (x ∷ xs) = ((lo ≤ x) × (x < hi)) × AreWithin lo hi xs

filter_within : (lo hi : ℕ) (t : ℕ → Bool) (xs : List ℕ) → ((x : ℕ) → t x ≡ true → (lo ≤ x) × (x < hi)) → AreWithin lo hi (filter t xs)
filter_within lo hi t [] h = tt
filter_within lo hi t (x ∷ xs) h = go (t x) refl (filter_within lo hi t xs h)
  where
    go : (b : Bool) → t x ≡ b → AreWithin lo hi (filter t xs) → AreWithin lo hi (filter t (x ∷ xs))
    go true e rest = rw e (h x e, rest)
    go false e rest = rw e rest

last_within : (lo hi x : ℕ) (xs : List ℕ) → x < hi → AreWithin lo hi xs → last_from x xs < hi
last_within lo hi x [] l h = l
last_within lo hi x (y ∷ ys) l h = last_within lo hi y ys (h.0).1 h.1

span_lies : (lo hi : ℕ) (t : ℕ → Bool) (xs : List ℕ) (i : ℕ) → ((x : ℕ) → t x ≡ true → (lo ≤ x) × (x < hi)) → (spanned (filter t xs)).start ≤ i → i < (spanned (filter t xs)).end → (lo ≤ i) × (i < hi)
span_lies lo hi t xs i h l m = go (filter t xs) (filter_within lo hi t xs h) l m
  where
    go : (ys : List ℕ) → AreWithin lo hi ys → (spanned ys).start ≤ i → i < (spanned ys).end → (lo ≤ i) × (i < hi)
    go [] w p q = absurd (omega (arith, q))
    go (y ∷ zs) w p q = let top = last_within lo hi y zs (w.0).1 w.1 in (omega (arith, p, (w.0).0), omega (arith, q, top))

pub both_of : (a b : Bool) → (a && b) ≡ true → (a ≡ true) × (b ≡ true)
both_of true b h = (refl, h)
both_of false b h = cc

in_means : (r : Range ℕ) (x : ℕ) → is_in r x ≡ true → (r.start ≤ x) × (x < r.end)
in_means r x h = let b = both_of (nat_le r.start x) (nat_lt x r.end) h in (grind (arith, nat_tests, b.0), grind (arith, nat_tests, b.1))

means_in : (r : Range ℕ) (x : ℕ) → r.start ≤ x → x < r.end → is_in r x ≡ true
means_in r x l m =
    let low : nat_le r.start x ≡ true = grind (arith, nat_tests, l) in
    let high : nat_lt x r.end ≡ true = grind (arith, nat_tests, m) in
    rw (low, high) refl

pub narrowed_rows : (sel : Selection) (r : Range ℕ) → Rises sel → filter (selects sel) (numbers (narrowed sel r).start (narrowed sel r).end) ≡ filter (selects sel) (numbers r.start r.end)
narrowed_rows All r h = refl
narrowed_rows (ExcludeByIndex xs) r h = refl
narrowed_rows (IncludeByIndex xs) r h =
    same_picks (is_among xs) r.start r.end (spanned (filter (is_in r) xs)).start (spanned (filter (is_in r) xs)).end
    (λ i l m. span_lies r.start r.end (is_in r) xs i (in_means r) l m)
    (λ i l m k. span_holds (is_in r) xs i h (means_in r i l m) k)

-- ---- the rows of all splits
-- the rows below a number that lie in a range, where there is one, and pass
abbrev pub rows_in : (ℕ → Bool) → ℕ → Option (Range ℕ) → List ℕ
rows_in p n None = filter p (numbers 0 n)
rows_in p n (Some r) = filter p (numbers r.start (min r.end n))

no_span : (p : ℕ → Bool) (n : ℕ) (bs : List ℕ) (q : Option (Range ℕ)) → is_rising bs ≡ true → (q ≡ None → Follow 0 n (neighbours bs)) → EndsBy n q → flat_map (λ (t : Range ℕ). filter p (numbers t.start t.end)) (split_ranges bs q) ≡ rows_in p n q
no_span p n bs None h whole e = follow_rows p 0 n (neighbours bs) (whole refl)
no_span p n bs (Some r) h whole e =
    let same : r.end ≡ min r.end n = grind (arith, e) in
    range_rows p bs r h ∙ ap (λ k. filter p (numbers r.start k)) same

-- a range and a span meet
meet_inside : (s e n a b i : ℕ) → (a ≤ i → i < b → (0 ≤ i) × (i < n)) → max s a ≤ i → i < min e b → (s ≤ i) × (i < min e n)
meet_inside s e n a b i lies l m =
    let low : a ≤ i = grind (arith, l) in
    let high : i < b = grind (arith, m) in
    let past = (lies low high).1 in
    (grind (arith, l), grind (arith, m, past))

meet_all : (s e n a b i : ℕ) → (nat_lt i n ≡ true → (a ≤ i) × (i < b)) → s ≤ i → i < min e n → (max s a ≤ i) × (i < min e b)
meet_all s e n a b i holds l m =
    let below : nat_lt i n ≡ true = grind (arith, nat_tests, m) in
    let q = holds below in
    let low = q.0 in
    let high = q.1 in
    (grind (arith, l, low), grind (arith, m, high))

span_rows : (xs : List ℕ) (n : ℕ) (bs : List ℕ) (q : Option (Range ℕ)) → is_rising bs ≡ true → EndsBy n q → is_rising xs ≡ true
    → flat_map (λ (t : Range ℕ). filter (is_among xs) (numbers t.start t.end)) (split_ranges bs (common q (Some (spanned (filter (λ i. nat_lt i n) xs))))) ≡ rows_in (is_among xs) n q
span_rows xs n bs None h e up =
    range_rows (is_among xs) bs (spanned (filter (λ i. nat_lt i n) xs)) h
    ∙ same_picks (is_among xs) 0 n (spanned (filter (λ i. nat_lt i n) xs)).start (spanned (filter (λ i. nat_lt i n) xs)).end
    (λ i l m. span_lies 0 n (λ j. nat_lt j n) xs i (λ x k. (omega arith, grind (arith, nat_tests, k))) l m)
    (λ i l m k. span_holds (λ j. nat_lt j n) xs i up (below i n m) k)
  where
    below : (i n : ℕ) → i < n → nat_lt i n ≡ true
    below i n l = grind (arith, nat_tests, l)
span_rows xs n bs (Some r) h e up =
    let a = (spanned (filter (λ i. nat_lt i n) xs)).start in
    let b = (spanned (filter (λ i. nat_lt i n) xs)).end in
    range_rows (is_among xs) bs (rows (max r.start a) (min r.end b)) h
    ∙ same_picks (is_among xs) r.start (min r.end n) (max r.start a) (min r.end b)
    (λ i l m. meet_inside r.start r.end n a b i (span_lies 0 n (λ j. nat_lt j n) xs i (λ x k. (omega arith, grind (arith, nat_tests, k)))) l m)
    (λ i l m k. meet_all r.start r.end n a b i (λ low. span_holds (λ j. nat_lt j n) xs i up low k) l m)

picked_is : (q : Option (Range ℕ)) (sel : Selection) (n : ℕ) → rows_in (selects sel) n q ≡ picked_rows q sel n
picked_is None sel n = refl
picked_is (Some r) sel n = refl

common_none : (q : Option (Range ℕ)) → common q None ≡ q
common_none None = refl
common_none (Some r) = refl

pub reached_rows : (n : ℕ) (bs : List ℕ) (q : Option (Range ℕ)) (sel : Selection) → is_rising bs ≡ true → (q ≡ None → Follow 0 n (neighbours bs)) → EndsBy n q → Rises sel
    → flat_map (λ (t : Range ℕ). filter (selects sel) (numbers t.start t.end)) (split_ranges bs (common q (span_of sel n))) ≡ picked_rows q sel n
reached_rows n bs q All h whole e up = rw (common_none q) (no_span (selects All) n bs q h whole e ∙ picked_is q All n)
reached_rows n bs q (IncludeByIndex []) h whole e up = rw (common_none q) (no_span (selects (IncludeByIndex [])) n bs q h whole e ∙ picked_is q (IncludeByIndex []) n)
reached_rows n bs q (IncludeByIndex (x ∷ xs)) h whole e up = span_rows (x ∷ xs) n bs q h e up ∙ picked_is q (IncludeByIndex (x ∷ xs)) n
reached_rows n bs q (ExcludeByIndex xs) h whole e up = rw (common_none q) (no_span (selects (ExcludeByIndex xs)) n bs q h whole e ∙ picked_is q (ExcludeByIndex xs) n)
