-- The ranges of a file's splits are cut at the edges of its layout, and nowhere else.
use Rattle.std.proofs.Common.{◌≡◌, ◌<◌, ◌≤◌, ◌+◌, ◌-◌, ℕ, zero, suc, Bool, true, false, nat_lt, nat_le, List, [], ◌∷◌, ◌++◌, filter, Option, None, Some, inl, inr, refl, sym, ap, subst, ◌∙◌, arith}
use Rattle.std.specs.Prelude.{◌⊎◌, ◌==◌, ◌||◌, IfSome, if◌then◌else◌}
use Rattle.std.specs.List.{range_with_len}
use Rattle.std.specs.declared.ops.Range.{Range}
use Rattle.std.proofs.lemmas.Bool.Decides.{nat_tests}
use Rattle.scan_values.specs.Selections.{is_among, numbers}
use Rattle.scan_values.specs.StrictSorted.{is_rising}
use Rattle.scan_values.specs.declared.selection.Selection.{Selection}
use Rattle.scan_values.specs.declared.selection.Selection.TheVariants.{All, IncludeByIndex, ExcludeByIndex}
use Rattle.scan_values.proofs.Rising.{Above-rest, is_rising-rest}
use Rattle.scan_layout.specs.Edges.{is_inside}
use Rattle.scan_core.specs.Boundaries.{cut_rows, has_ends}
use Rattle.scan_core.specs.BuilderData.{range_or_all}
use Rattle.scan_core.specs.SplitRanges.{Follow, common, cut_at, inside, last_from, neighbours, rows, span_of, split_ranges}
use Rattle.scan_core.proofs.Cutting.{cut_rows_rise, from_start, is_cut, these_end}
use Rattle.scan_core.proofs.Following.{splits_of_a_range}
use Rattle.scan_core.proofs.Picking.{AreBelow, above_rising, filter_below, filter_rising, last_above, span_ends}
use Rattle.scan_core.proofs.Reaching.{filter_over}
use Rattle.scan_core.proofs.Reading.{both_of}
use Rattle.scan_multi.proofs.Grouping.{AreCut}
use Rattle.scan_multi.proofs.Members.{In, In-append, In-filter, In-filter_back, In-left}
use Rattle.scan_multi.proofs.PickedRows.{all_follow}

-- ---- numbers among others
pub among_in : (i : ℕ) (xs : List ℕ) → is_among xs i ≡ true → In i xs
among_in i [] h = cc
among_in i (x ∷ xs) h = go (x == i) refl h (among_in i xs)
  where
    go : (b : Bool) → (x == i) ≡ b → (b || is_among xs i) ≡ true → (is_among xs i ≡ true → In i xs) → In i (x ∷ xs)
    go true e k on = inl (grind (arith, nat_tests, e))
    go false e k on = inr (on k)

pub in_among : (i : ℕ) (xs : List ℕ) → In i xs → is_among xs i ≡ true
in_among i [] h = absurd h
in_among i (x ∷ xs) (inl e) = let s : (x == i) ≡ true = grind (arith, nat_tests, e) in ap (λ b. b || is_among xs i) s
in_among i (x ∷ xs) (inr h) = go (x == i) (in_among i xs h)
  where
    go : (b : Bool) → is_among xs i ≡ true → (b || is_among xs i) ≡ true
    go true k = refl
    go false k = k

pub in_range : (a n i : ℕ) → a ≤ i → i < a + n → In i (range_with_len a n)
in_range a zero i l m = absurd (omega (arith, l, m))
in_range a (suc n) i l m = go (a == i) refl (λ k. in_range (a + 1) n i k (omega (arith, m)))
  where
    go : (b : Bool) → (a == i) ≡ b → (a + 1 ≤ i → In i (range_with_len (a + 1) n)) → In i (a ∷ range_with_len (a + 1) n)
    go true e on = inl (grind (arith, nat_tests, e))
    go false e on = inr (on (let differ : a < i = grind (arith, nat_tests, e, l) in omega (arith, differ)))

pub range_has : (a n i : ℕ) → In i (range_with_len a n) → (a ≤ i) × (i < a + n)
range_has a zero i h = absurd h
range_has a (suc n) i (inl e) = (omega (arith, e), omega (arith, e))
range_has a (suc n) i (inr h) = let r = range_has (a + 1) n i h in (omega (arith, r.0), omega (arith, r.1))

pub in_above : (y : ℕ) (ys : List ℕ) (p : ℕ) → is_rising (y ∷ ys) ≡ true → In p (y ∷ ys) → y ≤ p
in_above y ys p r (inl e) = omega (arith, e)
in_above y [] p r (inr h) = absurd h
in_above y (z ∷ zs) p r (inr h) =
    let up = (Above-rest y (z ∷ zs) r).0 in
    let rest = in_above z zs p (is_rising-rest y (z ∷ zs) r) h in
    omega (arith, up, rest)

not_true : (b : Bool) → (b ≡ true → ⊥) → b ≡ false
not_true true h = absurd (h refl)
not_true false h = refl

-- ---- neighbours in a rising list that has the edges between its ends, and nothing else
pub neighbours_cut : (es : List ℕ) (x : ℕ) (ys : List ℕ) → is_rising (x ∷ ys) ≡ true
    → ((p : ℕ) → In p ys → p < last_from x ys → is_among es p ≡ true)
    → ((p : ℕ) → x < p → p < last_from x ys → is_among es p ≡ true → In p ys) → AreCut es (neighbours (x ∷ ys))
neighbours_cut es x [] r sound whole = tt
neighbours_cut es x (y ∷ []) r sound whole = λ p l m. not_true (is_among es p) (λ e. absurd (omega (arith, m, in_above y [] p refl (whole p l m e))))
neighbours_cut es x (y ∷ z ∷ zs) r sound whole =
    let rest = is_rising-rest x (y ∷ z ∷ zs) r in
    let first : x < y = (Above-rest x (y ∷ z ∷ zs) r).0 in
    let next : y < z = (Above-rest y (z ∷ zs) rest).0 in
    let last : z ≤ last_from z zs = last_above z zs (is_rising-rest y (z ∷ zs) rest) in (
      λ p l m. not_true (is_among es p) (λ e. absurd (omega (arith, m, in_above y (z ∷ zs) p rest (whole p l (omega (arith, m, next, last)) e)))),
      sound y (inl refl) (omega (arith, next, last)),
      neighbours_cut es y (z ∷ zs) rest (λ p i l. sound p (inr i) l) (λ p l m e. later p l (whole p (omega (arith, first, l)) m e)),
    )
  where
    later : (p : ℕ) → y < p → In p (y ∷ z ∷ zs) → In p (z ∷ zs)
    later p l (inl e) = absurd (omega (arith, l, e))
    later p l (inr i) = i

-- ---- a range that is cut
ends_rise : (e x : ℕ) (ys : List ℕ) → is_rising (x ∷ ys) ≡ true → x < e → AreBelow e ys → is_rising (x ∷ ys ++ e ∷ []) ≡ true
ends_rise e x [] h l a = let less : nat_lt x e ≡ true = grind (arith, nat_tests, l) in rw less refl
ends_rise e x (y ∷ ys) h l a =
    let up = (Above-rest x (y ∷ ys) h).0 in
    let less : nat_lt x y ≡ true = grind (arith, nat_tests, up) in
    rw less (ends_rise e y ys (is_rising-rest x (y ∷ ys) h) a.0 a.1)

ends_last : (e x : ℕ) (ys : List ℕ) → last_from x (ys ++ e ∷ []) ≡ e
ends_last e x [] = refl
ends_last e x (y ∷ ys) = ends_last e y ys

inside_means : (s e p : ℕ) → is_inside s e p ≡ true → (s < p) × (p < e)
inside_means s e p h = let b = both_of (nat_lt s p) (nat_lt p e) h in (grind (arith, nat_tests, b.0), grind (arith, nat_tests, b.1))

means_inside : (s e p : ℕ) → s < p → p < e → is_inside s e p ≡ true
means_inside s e p l m =
    let low : nat_lt s p ≡ true = grind (arith, nat_tests, l) in
    let high : nat_lt p e ≡ true = grind (arith, nat_tests, m) in
    rw (low, high) refl

module _ (es : List ℕ) (R : Range ℕ) where
  abbrev pub points : List ℕ
  points = cut_rows (is_among es) R

  -- a point that is not an end is an edge
  inner_edge : (p : ℕ) → is_cut (is_among es) R p ≡ true → R.start < p → p < R.end → is_among es p ≡ true
  inner_edge p h l m =
      let first : (p == R.start) ≡ false = grind (arith, nat_tests, l) in
      let last : (p == R.end) ≡ false = grind (arith, nat_tests, m) in
      sym (ap (λ b. b || (p == R.end || is_among es p)) first ∙ ap (λ b. b || is_among es p) last) ∙ h

  edge_cut : (p : ℕ) → is_among es p ≡ true → is_cut (is_among es) R p ≡ true
  edge_cut p h = go (p == R.start) (p == R.end)
    where
      go : (a b : Bool) → (a || (b || is_among es p)) ≡ true
      go true b = refl
      go false true = refl
      go false false = h

  point_edge : (p : ℕ) → In p points → R.start < p → p < R.end → is_among es p ≡ true
  point_edge p h l m = inner_edge p (In-filter_back (is_cut (is_among es) R) p (numbers R.start (R.end + 1)) h).1 l m

  edge_point : (p : ℕ) → is_among es p ≡ true → R.start ≤ p → p < R.end → In p points
  edge_point p h l m = In-filter (is_cut (is_among es) R) p (numbers R.start (R.end + 1)) (in_range R.start (R.end + 1 - R.start) p l (omega (arith, l, m))) (edge_cut p h)

  -- within a range or all
  pub range_cut : (r : Range ℕ) → R.start ≤ r.start → r.end ≤ R.end → AreCut es (cut_at points r)
  range_cut r lo hi = go (nat_lt r.start r.end) refl
    where
      go : (b : Bool) → nat_lt r.start r.end ≡ b → AreCut es (if b then neighbours (r.start ∷ inside r points ++ r.end ∷ []) else [])
      go false k = tt
      go true k =
          let some : r.start < r.end = grind (arith, nat_tests, k) in
          let up : is_rising (r.start ∷ inside r points) ≡ true = above_rising r.start (inside r points) (filter_over r.start r.end points) (filter_rising (is_inside r.start r.end) points (cut_rows_rise (is_among es) R)) in
          let low : AreBelow r.end (inside r points) = filter_below r.end (is_inside r.start r.end) points (λ x j. (inside_means r.start r.end x j).1) in
          let last : last_from r.start (inside r points ++ r.end ∷ []) ≡ r.end = ends_last r.end r.start (inside r points) in
          neighbours_cut es r.start (inside r points ++ r.end ∷ []) (ends_rise r.end r.start (inside r points) up some low)
          (λ p i l. sound p (In-append p (inside r points) (r.end ∷ []) i) (omega (arith, l, last)))
          (λ p l m e. In-left p (inside r points) (r.end ∷ []) (In-filter (is_inside r.start r.end) p points (edge_point p e (omega (arith, l, lo)) (omega (arith, m, last, hi))) (means_inside r.start r.end p l (omega (arith, m, last)))))
        where
          sound : (p : ℕ) → In p (inside r points) ⊎ In p (r.end ∷ []) → p < r.end → is_among es p ≡ true
          sound p (inr (inl e)) l = absurd (omega (arith, e, l))
          sound p (inr (inr h)) l = absurd h
          sound p (inl i) l =
              let q = In-filter_back (is_inside r.start r.end) p points i in
              let w = inside_means r.start r.end p q.1 in
              point_edge p q.0 (omega (arith, w.0, lo)) (omega (arith, w.1, hi))

  pub all_cut : R.start ≤ R.end → AreCut es (neighbours points)
  all_cut order =
      let whole : points ≡ R.start ∷ others = from_start (is_among es) R order in
      let rise : is_rising (R.start ∷ others) ≡ true = sym (ap is_rising whole) ∙ cut_rows_rise (is_among es) R in
      let last : last_from R.start others ≡ R.end = last_is (R.start ∷ others) R.start others refl (sym whole) in
      subst (λ bs. AreCut es (neighbours bs)) (sym whole)
      (neighbours_cut es R.start others rise
      (λ p i l. let q = In-filter_back (is_cut (is_among es) R) p (numbers (R.start + 1) (R.end + 1)) i in let w = range_has (R.start + 1) (R.end + 1 - (R.start + 1)) p q.0 in inner_edge p q.1 (omega (arith, w.0)) (omega (arith, l, last)))
      (λ p l m e. In-filter (is_cut (is_among es) R) p (numbers (R.start + 1) (R.end + 1)) (in_range (R.start + 1) (R.end + 1 - (R.start + 1)) p (omega (arith, l)) (omega (arith, l, m, last))) (edge_cut p e)))
    where
      others : List ℕ
      others = filter (is_cut (is_among es) R) (numbers (R.start + 1) (R.end + 1))

      last_is : (bs : List ℕ) (x : ℕ) (xs : List ℕ) → bs ≡ x ∷ xs → bs ≡ points → last_from x xs ≡ R.end
      last_is bs x xs e h =
          let ends : has_ends R.start R.end (x ∷ xs) ≡ true = subst (λ z. has_ends R.start R.end z ≡ true) e (these_end (is_among es) R bs order h) in
          let l = (both_of (x == R.start) (last_from x xs == R.end) ends).1 in
          grind (arith, nat_tests, l)

-- ---- the ranges of the splits of a file
-- the part of a range that a selection spans
abbrev pub LiesIn : Option (Range ℕ) → ℕ → Option (Range ℕ) → Type 0
LiesIn own n None = own ≡ None
LiesIn own n (Some r) = ((range_or_all own n).start ≤ r.start) × (r.end ≤ (range_or_all own n).end)

span_below : (n : ℕ) (s : Selection) → IfSome (span_of s n) (λ r. r.end ≤ n)
span_below n All = tt
span_below n (IncludeByIndex []) = tt
span_below n (IncludeByIndex (x ∷ xs)) = span_ends n (filter (λ i. nat_lt i n) (x ∷ xs)) (filter_below n (λ i. nat_lt i n) (x ∷ xs) (λ y k. grind (arith, nat_tests, k)))
span_below n (ExcludeByIndex xs) = tt

pub lies_in : (own span : Option (Range ℕ)) (n : ℕ) → IfSome span (λ r. r.end ≤ n) → LiesIn own n (common own span)
lies_in None None n h = refl
lies_in None (Some s) n h = (omega arith, h)
lies_in (Some r) None n h = (omega arith, omega arith)
lies_in (Some r) (Some s) n h = (grind arith, grind arith)

-- ranges that follow each other, and are cut at edges
pub record AreSplitUp (es : List ℕ) (rs : List (Range ℕ)) : Type 0 where
  pub start : ℕ
  pub end : ℕ
  pub follow : Follow start end rs
  pub cut : AreCut es rs

pub ranges_split : (es : List ℕ) (own : Option (Range ℕ)) (n : ℕ) (s : Selection) → IfSome own (λ r. r.start ≤ r.end)
    → AreSplitUp es (split_ranges (points es (range_or_all own n)) (common own (span_of s n)))
ranges_split es own n s order = go (common own (span_of s n)) (lies_in own (span_of s n) n (span_below n s))
  where
    R : Range ℕ
    R = range_or_all own n

    within : (r : Range ℕ) → R.start ≤ r.start → r.end ≤ R.end → (b : Bool) → nat_le r.start r.end ≡ b → AreSplitUp es (cut_at (points es R) r)
    within r lo hi true k =
        record { start = r.start; end = r.end; follow = splits_of_a_range (points es R) r (cut_rows_rise (is_among es) R) (grind (arith, nat_tests, k)); cut = range_cut es R r lo hi }
    within r lo hi false k =
        let none : nat_lt r.start r.end ≡ false = grind (arith, nat_tests, k) in
        let empty : cut_at (points es R) r ≡ [] = ap (λ b. if b then neighbours (r.start ∷ inside r (points es R) ++ r.end ∷ []) else []) none in
        subst (AreSplitUp es) (sym empty) (record { start = 0; end = 0; follow = refl; cut = tt })

    go : (q : Option (Range ℕ)) → LiesIn own n q → AreSplitUp es (split_ranges (points es R) q)
    go None h = subst (λ o. AreSplitUp es (neighbours (points es (range_or_all o n)))) (sym h) (record { start = 0; end = n; follow = all_follow (is_among es) n; cut = all_cut es (rows 0 n) (omega arith) })
    go (Some r) h = within r h.0 h.1 (nat_le r.start r.end) refl
