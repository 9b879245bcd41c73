-- The rows that are read of a file, split by split, are those of the ranges of its splits.
use Rattle.std.proofs.Common.{◌≡◌, ◌<◌, ◌≤◌, ◌+◌, ◌-◌, ℕ, zero, suc, min, max, Bool, true, false, nat_lt, nat_le, List, [], ◌∷◌, filter, map, Option, None, Some, inl, inr, refl, sym, ap, subst, ◌∙◌, arith}
use Rattle.std.specs.Prelude.{◌⊎◌, IfSome, if◌then◌else◌}
use Rattle.std.specs.List.{range_with_len}
use Rattle.std.specs.declared.ops.Range.{Range}
use Rattle.std.proofs.lemmas.Bool.Decides.{nat_tests}
use Rattle.scan_values.specs.DataType.{DataType}
use Rattle.scan_values.specs.Selections.{is_among, numbers, picked_rows, selects}
use Rattle.scan_values.specs.StrictSorted.{is_rising}
use Rattle.scan_values.specs.declared.selection.Selection.{Selection}
use Rattle.scan_values.specs.declared.selection.Selection.TheVariants.{All, IncludeByIndex, ExcludeByIndex}
use Rattle.scan_values.proofs.Rising.{Above-rest, is_rising-rest}
use Rattle.scan_expr.specs.declared.request.ScanRequest.{ScanRequest}
use Rattle.scan_layout.specs.Edges.{edges}
use Rattle.scan_layout.specs.Layout.{Layout, rows_of}
use Rattle.scan_layout.specs.PickGroups.{greatest, least, pick_groups, pick_span, split_from, split_span, split_to}
use Rattle.scan_core.specs.BuilderData.{range_or_all}
use Rattle.scan_core.specs.FieldMasks.{firsts, scan_paths}
use Rattle.scan_core.specs.Given.{Rises}
use Rattle.scan_core.specs.RowRanges.{is_in, narrowed}
use Rattle.scan_core.specs.SplitRanges.{Follow, common, last_from, rows, span_of as spanned_by, spanned, split_ranges}
use Rattle.scan_core.proofs.Cutting.{cut_rows_rise}
use Rattle.scan_core.proofs.Following.{splits_of_a_range}
use Rattle.scan_core.proofs.Picking.{filter_rising}
use Rattle.scan_core.proofs.Reading.{both_of}
use Rattle.scan_file.specs.Parts.{file_ranges, is_some_row, picks, read_ranges}
use Rattle.scan_multi.specs.Answer.{is_within}
use Rattle.scan_multi.specs.Asked.{ask_of, IsAskable}
use Rattle.scan_multi.specs.Chunks.{splits_of}
use Rattle.scan_multi.specs.Named.{range_from, range_to, read_spans, span_of}
use Rattle.scan_multi.proofs.CutRanges.{among_in, in_above, in_among, in_range, points, range_has, ranges_split, all_cut, range_cut}
use Rattle.scan_multi.proofs.Grouping.{AreCut, Clear, groups_are}
use Rattle.scan_multi.proofs.MaskPaths.{masks_are}
use Rattle.scan_multi.proofs.Members.{In, In-filter, In-filter_back, In-map}
use Rattle.scan_multi.proofs.PickedRows.{all_follow, flat_kept, picked_of}

-- ---- the edges up to a row, and past it
abbrev pub AreUpTo : ℕ → List ℕ → Type 0
AreUpTo m [] = Unit {0}
AreUpTo m (k ∷ ks) = (k ≤ m) × AreUpTo m ks

abbrev pub AreFrom : ℕ → List ℕ → Type 0
AreFrom m [] = Unit {0}
AreFrom m (k ∷ ks) = (m ≤ k) × AreFrom m ks

greatest_is : (n m : ℕ) (ms : List ℕ) → n ≤ m → AreUpTo m ms → (n ≡ m) ⊎ In m ms → greatest n ms ≡ m
greatest_is n m [] l a (inl e) = e
greatest_is n m [] l a (inr h) = absurd h
greatest_is n m (k ∷ ks) l a h = let low : k ≤ m = a.0 in greatest_is (max n k) m ks (grind (arith, l, low)) a.1 (go h)
  where
    go : (n ≡ m) ⊎ ((m ≡ k) ⊎ In m ks) → (max n k ≡ m) ⊎ In m ks
    go (inl e) = let low : k ≤ m = a.0 in inl (grind (arith, e, low))
    go (inr (inl e)) = inl (grind (arith, e, l))
    go (inr (inr i)) = inr i

least_is : (n m : ℕ) (ms : List ℕ) → m ≤ n → AreFrom m ms → (n ≡ m) ⊎ In m ms → least n ms ≡ m
least_is n m [] l a (inl e) = e
least_is n m [] l a (inr h) = absurd h
least_is n m (k ∷ ks) l a h = let high : m ≤ k = a.0 in least_is (min n k) m ks (grind (arith, l, high)) a.1 (go h)
  where
    go : (n ≡ m) ⊎ ((m ≡ k) ⊎ In m ks) → (min n k ≡ m) ⊎ In m ks
    go (inl e) = let high : m ≤ k = a.0 in inl (grind (arith, e, high))
    go (inr (inl e)) = inl (grind (arith, e, l))
    go (inr (inr i)) = inr i

all_up_to : (m : ℕ) (p : ℕ → Bool) (es : List ℕ) → ((e : ℕ) → In e es → p e ≡ true → e ≤ m) → AreUpTo m (filter p es)
all_up_to m p [] h = tt
all_up_to m p (e ∷ es) h = go (p e) refl (all_up_to m p es (λ x i. h x (inr i)))
  where
    go : (b : Bool) → p e ≡ b → AreUpTo m (filter p es) → AreUpTo m (if b then e ∷ filter p es else filter p es)
    go true k rest = (h e (inl refl) k, rest)
    go false k rest = rest

all_from : (m : ℕ) (p : ℕ → Bool) (es : List ℕ) → ((e : ℕ) → In e es → p e ≡ true → m ≤ e) → AreFrom m (filter p es)
all_from m p [] h = tt
all_from m p (e ∷ es) h = go (p e) refl (all_from m p es (λ x i. h x (inr i)))
  where
    go : (b : Bool) → p e ≡ b → AreFrom m (filter p es) → AreFrom m (if b then e ∷ filter p es else filter p es)
    go true k rest = (h e (inl refl) k, rest)
    go false k rest = rest

-- a range between two edges, or the ends of a wider range, with no edge inside of it
pub record IsBetween (es : List ℕ) (lo hi : ℕ) (r : Range ℕ) : Type 0 where
  pub start : (lo ≡ r.start) ⊎ In r.start es
  pub end : (hi ≡ r.end) ⊎ In r.end es
  pub clear : Clear es r
  pub low : lo ≤ r.start
  pub high : r.end ≤ hi

clash : (b : Bool) → b ≡ true → b ≡ false → ⊥
clash true h k = cc
clash false h k = cc

module _ (es : List ℕ) (lo hi : ℕ) (r : Range ℕ) (x : ℕ) (b : IsBetween es lo hi r) (l : r.start ≤ x) (m : x < r.end) where
  not_inside : (e : ℕ) → In e es → r.start < e → e < r.end → ⊥
  not_inside e i p q = clash (is_among es e) (in_among e es i) (b.clear e p q)

  up_to_start : (e : ℕ) → In e es → nat_le e x ≡ true → e ≤ r.start
  up_to_start e i k = go (nat_le e r.start) refl
    where
      go : (t : Bool) → nat_le e r.start ≡ t → e ≤ r.start
      go true q = grind (arith, nat_tests, q)
      go false q = absurd (not_inside e i (grind (arith, nat_tests, q)) (grind (arith, nat_tests, k, m)))

  from_end : (e : ℕ) → In e es → nat_lt x e ≡ true → r.end ≤ e
  from_end e i k = go (nat_le r.end e) refl
    where
      go : (t : Bool) → nat_le r.end e ≡ t → r.end ≤ e
      go true q = grind (arith, nat_tests, q)
      go false q = absurd (not_inside e i (grind (arith, nat_tests, k, l)) (grind (arith, nat_tests, q)))

  from_is : split_from lo es x ≡ r.start
  from_is = greatest_is lo r.start (filter (λ e. nat_le e x) es) b.low (all_up_to r.start (λ e. nat_le e x) es up_to_start) (go b.start)
    where
      go : (lo ≡ r.start) ⊎ In r.start es → (lo ≡ r.start) ⊎ In r.start (filter (λ e. nat_le e x) es)
      go (inl e) = inl e
      go (inr i) = inr (In-filter (λ e. nat_le e x) r.start es i (grind (arith, nat_tests, l)))

  to_is : split_to hi es x ≡ r.end
  to_is = least_is hi r.end (filter (λ e. nat_lt x e) es) b.high (all_from r.end (λ e. nat_lt x e) es from_end) (go b.end)
    where
      go : (hi ≡ r.end) ⊎ In r.end es → (hi ≡ r.end) ⊎ In r.end (filter (λ e. nat_lt x e) es)
      go (inl e) = inl e
      go (inr i) = inr (In-filter (λ e. nat_lt x e) r.end es i (grind (arith, nat_tests, m)))

  between_span : (xs : List ℕ) → split_span es lo hi (x ∷ xs) ≡ (r.start, r.end)
  between_span xs = λ z. (from_is z, to_is z)

follow_order : (a b : ℕ) (rs : List (Range ℕ)) → Follow a b rs → a ≤ b
follow_order a b [] h = omega (arith, h)
follow_order a b (r ∷ rs) h = let rest = follow_order r.end b rs h.2 in omega (arith, h.0, h.1, rest)

-- each of ranges that are cut at edges is such a range
each_between : (es : List ℕ) (lo hi a : ℕ) (rs : List (Range ℕ)) → Follow a hi rs → AreCut es rs → (lo ≡ a) ⊎ In a es → lo ≤ a → (r : Range ℕ) → In r rs → IsBetween es lo hi r
each_between es lo hi a [] h k s l r i = absurd i
each_between es lo hi a (q ∷ []) h k s l r (inr i) = absurd i
each_between es lo hi a (q ∷ []) h k s l r (inl e) = subst (IsBetween es lo hi) (sym e) (record {
  start = subst (λ z. (lo ≡ z) ⊎ In z es) (sym h.0) s;
  end = inl (sym h.2);
  clear = k;
  low = omega (arith, h.0, l);
  high = omega (arith, h.2);
})
each_between es lo hi a (q ∷ t ∷ ts) h k s l r (inl e) = subst (IsBetween es lo hi) (sym e) (record {
  start = subst (λ z. (lo ≡ z) ⊎ In z es) (sym h.0) s;
  end = inr (among_in q.end es k.1);
  clear = k.0;
  low = omega (arith, h.0, l);
  high = follow_order q.end hi (t ∷ ts) h.2;
})
each_between es lo hi a (q ∷ t ∷ ts) h k s l r (inr i) = each_between es lo hi q.end (t ∷ ts) h.2 k.2 (inr (among_in q.end es k.1)) (omega (arith, h.0, h.1, l)) r i

-- ---- named rows
range_rises : (a n : ℕ) → is_rising (range_with_len a n) ≡ true
range_rises a zero = refl
range_rises a (suc zero) = refl
range_rises a (suc (suc n)) = let up : nat_lt a (a + 1) ≡ true = grind (arith, nat_tests) in rw up (range_rises (a + 1) (suc n))

rising_same : (xs ys : List ℕ) → is_rising xs ≡ true → is_rising ys ≡ true → ((i : ℕ) → In i xs → In i ys) → ((i : ℕ) → In i ys → In i xs) → xs ≡ ys
rising_same [] [] h k f g = refl
rising_same [] (y ∷ ys) h k f g = absurd (g y (inl refl))
rising_same (x ∷ xs) [] h k f g = absurd (f x (inl refl))
rising_same (x ∷ xs) (y ∷ ys) h k f g =
    let up : y ≤ x = in_above y ys x k (f x (inl refl)) in
    let down : x ≤ y = in_above x xs y h (g y (inl refl)) in
    let same : x ≡ y = omega (arith, up, down) in
    let rest = rising_same xs ys (is_rising-rest x xs h) (is_rising-rest y ys k)
    (λ i j. later y ys i (f i (inr j)) (let m = above x xs i h j in omega (arith, m, same)))
    (λ i j. later x xs i (g i (inr j)) (let m = above y ys i k j in omega (arith, m, same))) in
    λ z. same z ∷ rest z
  where
    later : (y : ℕ) (ys : List ℕ) (i : ℕ) → In i (y ∷ ys) → y < i → In i ys
    later y ys i (inl e) l = absurd (omega (arith, e, l))
    later y ys i (inr j) l = j

    above : (x : ℕ) (xs : List ℕ) (i : ℕ) → is_rising (x ∷ xs) ≡ true → In i xs → x < i
    above x [] i h j = absurd j
    above x (z ∷ zs) i h j = let up = (Above-rest x (z ∷ zs) h).0 in let m = in_above z zs i (is_rising-rest x (z ∷ zs) h) j in omega (arith, up, m)

in_means : (r : Range ℕ) (x : ℕ) → is_in r x ≡ true → (r.start ≤ x) × (x < r.end)
in_means r x h = let b = both_of (nat_le r.start x) (nat_lt x r.end) h in (grind (arith, nat_tests, b.0), grind (arith, nat_tests, b.1))

means_in : (r : Range ℕ) (x : ℕ) → r.start ≤ x → x < r.end → is_in r x ≡ true
means_in r x l m =
    let low : nat_le r.start x ≡ true = grind (arith, nat_tests, l) in
    let high : nat_lt x r.end ≡ true = grind (arith, nat_tests, m) in
    rw (low, high) refl

-- the rows of a range that are named are the named rows in it
named_picks : (ys : List ℕ) (r : Range ℕ) → is_rising ys ≡ true → filter (is_among ys) (numbers r.start r.end) ≡ filter (is_in r) ys
named_picks ys r h = rising_same (filter (is_among ys) (numbers r.start r.end)) (filter (is_in r) ys)
    (filter_rising (is_among ys) (numbers r.start r.end) (range_rises r.start (r.end - r.start))) (filter_rising (is_in r) ys h)
    (λ i j.
    let q = In-filter_back (is_among ys) i (numbers r.start r.end) j in
    let w = range_has r.start (r.end - r.start) i q.0 in
    In-filter (is_in r) i ys (among_in i ys q.1) (means_in r i w.0 (omega (arith, w.0, w.1))))
    (λ i j.
    let q = In-filter_back (is_in r) i ys j in
    let w = in_means r i q.1 in
    In-filter (is_among ys) i (numbers r.start r.end) (in_range r.start (r.end - r.start) i w.0 (omega (arith, w.0, w.1))) (in_among i ys q.0))

greatest_last : (x : ℕ) (xs : List ℕ) → is_rising (x ∷ xs) ≡ true → greatest x xs ≡ last_from x xs
greatest_last x [] h = refl
greatest_last x (y ∷ ys) h =
    let up = (Above-rest x (y ∷ ys) h).0 in
    let top : max x y ≡ y = grind (arith, up) in
    ap (λ n. greatest n ys) top ∙ greatest_last y ys (is_rising-rest x (y ∷ ys) h)

-- ---- the span of the picked rows of a range
some_rows : (is : List ℕ) → is_some_row is ≡ true → (P : List ℕ → Type 0) → ((x : ℕ) (xs : List ℕ) → is ≡ x ∷ xs → P (x ∷ xs)) → P is
some_rows [] h P f = cc
some_rows (x ∷ xs) h P f = f x xs refl

module _ (es : List ℕ) (lo hi : ℕ) (r : Range ℕ) where
  -- the rows of one split, all of it
  whole_span : (s : Selection) → IsBetween es lo hi r → is_some_row (filter (selects s) (numbers r.start r.end)) ≡ true → split_span es lo hi (filter (selects s) (numbers r.start r.end)) ≡ (r.start, r.end)
  whole_span s b some = some_rows (filter (selects s) (numbers r.start r.end)) some (λ is. split_span es lo hi is ≡ (r.start, r.end))
      (λ x xs e.
      let i : In x (filter (selects s) (numbers r.start r.end)) = subst (In x) (sym e) (inl refl) in
      let w = range_has r.start (r.end - r.start) x (In-filter_back (selects s) x (numbers r.start r.end) i).0 in
      between_span es lo hi r x b w.0 (omega (arith, w.0, w.1)) xs)

  -- or from the first that is named to the last
  named_span : (ys : List ℕ) → is_rising ys ≡ true → is_some_row (filter (is_among ys) (numbers r.start r.end)) ≡ true
      → pick_span lo (filter (is_among ys) (numbers r.start r.end)) ≡ ((spanned (filter (is_in r) ys)).start, (spanned (filter (is_in r) ys)).end)
  named_span ys h some =
      some_rows (filter (is_among ys) (numbers r.start r.end)) some (λ is. pick_span lo is ≡ ((spanned is).start, (spanned is).end))
      (λ x xs e.
      let rise : is_rising (x ∷ xs) ≡ true = sym (ap is_rising e) ∙ filter_rising (is_among ys) (numbers r.start r.end) (range_rises r.start (r.end - r.start)) in
      λ z. (x, greatest_last x xs rise z + 1))
      ∙ ap (λ is. ((spanned is).start, (spanned is).end)) (named_picks ys r h)

  pub span_is : (s : Selection) → Rises s → (((named : List ℕ) → s ≡ IncludeByIndex named → ⊥) → IsBetween es lo hi r) → is_some_row (filter (selects s) (numbers r.start r.end)) ≡ true
      → span_of s es lo hi (filter (selects s) (numbers r.start r.end)) ≡ ((narrowed s r).start, (narrowed s r).end)
  span_is All up b some = whole_span All (b (λ ys e. cc)) some
  span_is (ExcludeByIndex xs) up b some = whole_span (ExcludeByIndex xs) (b (λ ys e. cc)) some
  span_is (IncludeByIndex ys) up b some = named_span ys up some

-- ---- of a file
module _ (es : List ℕ) (own : Option (Range ℕ)) (n : ℕ) (order : IfSome own (λ r. r.start ≤ r.end)) where
  -- where no row is named, each split lies between two edges or the ends of the range
  own_between : (r : Range ℕ) → In r (split_ranges (points es (range_or_all own n)) own) → IsBetween es (range_or_all own n).start (range_or_all own n).end r
  own_between r i = go own order i
    where
      go : (o : Option (Range ℕ)) → IfSome o (λ q. q.start ≤ q.end) → In r (split_ranges (points es (range_or_all o n)) o) → IsBetween es (range_or_all o n).start (range_or_all o n).end r
      go None h i = each_between es 0 n 0 (split_ranges (points es (rows 0 n)) None) (all_follow (is_among es) n) (all_cut es (rows 0 n) (omega arith)) (inl refl) (omega arith) r i
      go (Some q) h i =
          each_between es q.start q.end q.start (split_ranges (points es q) (Some q)) (splits_of_a_range (points es q) q (cut_rows_rise (is_among es) q) h) (range_cut es q q (omega arith) (omega arith)) (inl refl) (omega arith) r i

  common_none : common own None ≡ own
  common_none = go own
    where
      go : (o : Option (Range ℕ)) → common o None ≡ o
      go None = refl
      go (Some q) = refl

  ranges_between : (s : Selection) → ((named : List ℕ) → s ≡ IncludeByIndex named → ⊥) → (r : Range ℕ) → In r (split_ranges (points es (range_or_all own n)) (common own (spanned_by s n))) → IsBetween es (range_or_all own n).start (range_or_all own n).end r
  ranges_between All f r i = own_between r (subst (λ o. In r (split_ranges (points es (range_or_all own n)) o)) common_none i)
  ranges_between (IncludeByIndex ys) f r i = absurd (f ys refl)
  ranges_between (ExcludeByIndex ys) f r i = own_between r (subst (λ o. In r (split_ranges (points es (range_or_all own n)) o)) common_none i)

module _ (d : DataType) (request : ScanRequest) (l : Layout) (askable : IsAskable d request) (within : is_within request.row_range (rows_of l) ≡ true) where
  -- the edges of the fields that are read
  abbrev pub file_edges : List ℕ
  file_edges = edges l (firsts (scan_paths (ask_of d request).projection (ask_of d request).filter)) (range_or_all request.row_range (rows_of l)).start (range_or_all request.row_range (rows_of l)).end

  from_own : range_from request.row_range ≡ (range_or_all request.row_range (rows_of l)).start
  from_own = go request.row_range
    where
      go : (o : Option (Range ℕ)) → range_from o ≡ (range_or_all o (rows_of l)).start
      go None = refl
      go (Some r) = refl

  to_own : range_to request.row_range (rows_of l) ≡ (range_or_all request.row_range (rows_of l)).end
  to_own = go request.row_range within
    where
      go : (o : Option (Range ℕ)) → is_within o (rows_of l) ≡ true → range_to o (rows_of l) ≡ (range_or_all o (rows_of l)).end
      go None w = refl
      go (Some r) w = let low : r.end ≤ rows_of l = grind (arith, nat_tests, w) in grind (arith, low)

  pub edges_are : splits_of d request l ≡ file_edges
  edges_are =
      ap (λ masks. edges l masks (range_from request.row_range) (range_to request.row_range (rows_of l))) (sym (masks_are d request))
      ∙ (λ z. edges l (firsts (scan_paths (ask_of d request).projection (ask_of d request).filter)) (from_own z) (to_own z))

  -- the picked rows, split by split
  pub picked_groups : pick_groups (splits_of d request l) (picked_rows request.row_range request.selection (rows_of l)) ≡ map (picks (ask_of d request) l) (read_ranges (ask_of d request) l)
  picked_groups =
      let up = ranges_split file_edges request.row_range (rows_of l) request.selection askable.range in
      ap (λ es. pick_groups es (picked_rows request.row_range request.selection (rows_of l))) edges_are
      ∙ ap (pick_groups file_edges) (picked_of d request l askable within ∙ flat_kept (picks (ask_of d request) l) (file_ranges (ask_of d request) l))
      ∙ groups_are (selects request.selection) file_edges up.start up.end (file_ranges (ask_of d request) l) up.follow up.cut

  -- what is read of a split is one of the spans
  pub span_read : (r : Range ℕ) → In r (read_ranges (ask_of d request) l) → In ((narrowed request.selection r).start, (narrowed request.selection r).end) (read_spans d request l)
  span_read r i =
      let split = In-filter_back (λ q. is_some_row (picks (ask_of d request) l q)) r (file_ranges (ask_of d request) l) i in
      let span : ℕ × ℕ = ((narrowed request.selection r).start, (narrowed request.selection r).end) in
      let of_group : List ℕ → ℕ × ℕ = λ group. span_of request.selection file_edges (range_or_all request.row_range (rows_of l)).start (range_or_all request.row_range (rows_of l)).end group in
      let is : of_group (picks (ask_of d request) l r) ≡ span =
      span_is file_edges (range_or_all request.row_range (rows_of l)).start (range_or_all request.row_range (rows_of l)).end r request.selection askable.selection
      (λ f. ranges_between file_edges request.row_range (rows_of l) askable.range request.selection f r split.0) split.1 in
      let there : In (picks (ask_of d request) l r) (map (picks (ask_of d request) l) (read_ranges (ask_of d request) l)) = In-map (picks (ask_of d request) l) r (read_ranges (ask_of d request) l) i in
      let mapped : In (of_group (picks (ask_of d request) l r)) (map of_group (map (picks (ask_of d request) l) (read_ranges (ask_of d request) l))) =
      In-map of_group (picks (ask_of d request) l r) (map (picks (ask_of d request) l) (read_ranges (ask_of d request) l)) there in
      let same : map of_group (map (picks (ask_of d request) l) (read_ranges (ask_of d request) l)) ≡ read_spans d request l =
      ap (map of_group) (sym picked_groups)
      ∙ sym (λ z. map (λ group. span_of request.selection (edges_are z) (from_own z) (to_own z) group) (pick_groups (splits_of d request l) (picked_rows request.row_range request.selection (rows_of l)))) in
      subst (In span) same (subst (λ s. In s (map of_group (map (picks (ask_of d request) l) (read_ranges (ask_of d request) l)))) is mapped)
