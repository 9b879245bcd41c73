-- The ranges of splits lie within the rows.
use Rattle.std.proofs.Common.{◌≡◌, ℕ, ◌<◌, ◌≤◌, Bool, true, false, ◌&&◌, ◌||◌, nat_lt, List, [], ◌∷◌, ◌++◌, filter, if◌then◌else◌, Option, Some, None, refl, arith}
use Rattle.std.proofs.lemmas.Bool.Decides.{nat_tests}
use Rattle.std.specs.declared.ops.Range.{Range}
use Rattle.scan_values.specs.StrictSorted.{is_rising}
use Rattle.scan_values.specs.declared.selection.Selection.{Selection}
use Rattle.scan_values.specs.declared.selection.Selection.TheVariants.{All, IncludeByIndex, ExcludeByIndex}
use Rattle.scan_values.proofs.Rising.{Above, Above-rest, is_rising-rest}
use Rattle.scan_layout.specs.Edges.{is_inside}
use Rattle.scan_core.specs.RowRanges.{is_past, AreRanges, UpTo}
use Rattle.scan_core.specs.SplitRanges.{neighbours, inside, last_from, cut_at, split_ranges, common, span_of}
use Rattle.scan_core.proofs.Picking.{AreBelow, filter_below, filter_rising, above_rising, span_ends}

-- numbers that never fall, up to at most another
abbrev pub Climb : ℕ → ℕ → List ℕ → Type 0
Climb n x [] = x ≤ n
Climb n x (y ∷ ys) = (x ≤ y) × Climb n y ys

climb_top : (n x : ℕ) (ys : List ℕ) → Climb n x ys → x ≤ n
climb_top n x [] c = c
climb_top n x (y ∷ ys) c = let rest = climb_top n y ys c.1 in omega (arith, rest, c.0)

neighbours_within : (n x : ℕ) (ys : List ℕ) → Climb n x ys → AreRanges n (neighbours (x ∷ ys))
neighbours_within n x [] c = tt
neighbours_within n x (y ∷ ys) c = ((c.0, climb_top n y ys c.1), neighbours_within n y ys c.1)

rising_climb : (n x : ℕ) (ys : List ℕ) → is_rising (x ∷ ys) ≡ true → last_from x ys ≤ n → Climb n x ys
rising_climb n x [] h l = l
rising_climb n x (y ∷ ys) h l = let up = (Above-rest x (y ∷ ys) h).0 in (omega (arith, up), rising_climb n y ys (is_rising-rest x (y ∷ ys) h) l)

all_within : (n : ℕ) (bs : List ℕ) → is_rising bs ≡ true → UpTo n bs → AreRanges n (neighbours bs)
all_within n [] h l = tt
all_within n (x ∷ xs) h l = neighbours_within n x xs (rising_climb n x xs h l)

climb_between : (n e x : ℕ) (ys : List ℕ) → is_rising (x ∷ ys) ≡ true → x ≤ e → AreBelow e ys → e ≤ n → Climb n x (ys ++ e ∷ [])
climb_between n e x [] h l a m = (l, m)
climb_between n e x (y ∷ ys) h l a m =
    let up = (Above-rest x (y ∷ ys) h).0 in
    let low = a.0 in
    (omega (arith, up), climb_between n e y ys (is_rising-rest x (y ∷ ys) h) (omega (arith, low)) a.1 m)

and_left : (a b : Bool) → (a && b) ≡ true → a ≡ true
and_left true b h = refl
and_left false b h = h

pub and_right : (a b : Bool) → (a && b) ≡ true → b ≡ true
and_right true b h = h
and_right false b h = cc

pub filter_over : (s e : ℕ) (xs : List ℕ) → Above s (filter (is_inside s e) xs)
filter_over s e [] = tt
filter_over s e (x ∷ xs) = go (is_inside s e x) refl (filter_over s e xs)
  where
    go : (b : Bool) → is_inside s e x ≡ b → Above s (filter (is_inside s e) xs) → Above s (filter (is_inside s e) (x ∷ xs))
    go true k rest = let up : s < x = grind (arith, nat_tests, and_left (nat_lt s x) (nat_lt x e) k) in rw k (up, rest)
    go false k rest = rw k rest

cut_within : (n : ℕ) (bs : List ℕ) (r : Range ℕ) → is_rising bs ≡ true → r.end ≤ n → AreRanges n (cut_at bs r)
cut_within n bs r h l = go (nat_lt r.start r.end) refl
  where
    go : (b : Bool) → nat_lt r.start r.end ≡ b → AreRanges n (if b then neighbours (r.start ∷ inside r bs ++ r.end ∷ []) else [])
    go false e = tt
    go true e =
        let some : r.start < r.end = grind (arith, nat_tests, e) in
        let up : is_rising (r.start ∷ inside r bs) ≡ true = above_rising r.start (inside r bs) (filter_over r.start r.end bs) (filter_rising (is_inside r.start r.end) bs h) in
        let low : AreBelow r.end (inside r bs) = filter_below r.end (is_inside r.start r.end) bs (λ x k. grind (arith, nat_tests, and_right (nat_lt r.start x) (nat_lt x r.end) k)) in
        neighbours_within n r.start (inside r bs ++ r.end ∷ []) (climb_between n r.end r.start (inside r bs) up (omega (arith, some)) low l)

-- a range ends by a row; no range is all rows
abbrev pub EndsBy : ℕ → Option (Range ℕ) → Type 0
EndsBy n None = Unit {0}
EndsBy n (Some r) = r.end ≤ n

pub common_ends : (n : ℕ) (a b : Option (Range ℕ)) → EndsBy n a → EndsBy n b → EndsBy n (common a b)
common_ends n None b p q = q
common_ends n (Some a) None p q = p
common_ends n (Some a) (Some b) p q = let P : a.end ≤ n = p in grind (arith, P)

pub past_ends : (n : ℕ) (r : Option (Range ℕ)) → is_past r n ≡ false → EndsBy n r
past_ends n None h = tt
past_ends n (Some r) h = let p : nat_lt n r.end ≡ false = or_right (nat_lt r.end r.start) (nat_lt n r.end) h in grind (arith, nat_tests, p)
  where
    or_right : (a b : Bool) → (a || b) ≡ false → b ≡ false
    or_right true b h = cc
    or_right false b h = h

span_within_rows : (n : ℕ) (s : Selection) → EndsBy n (span_of s n)
span_within_rows n All = tt
span_within_rows n (IncludeByIndex []) = tt
span_within_rows n (IncludeByIndex (x ∷ xs)) = span_ends n (filter (λ i. nat_lt i n) (x ∷ xs)) (filter_below n (λ i. nat_lt i n) (x ∷ xs) (λ y k. grind (arith, nat_tests, k)))
span_within_rows n (ExcludeByIndex xs) = tt

-- the ranges of splits at boundaries within what is reached of the rows
pub reached_within : (n : ℕ) (bs : List ℕ) (own asked : Option (Range ℕ)) (s : Selection) → is_rising bs ≡ true → UpTo n bs → is_past own n ≡ false → is_past asked n ≡ false → AreRanges n (split_ranges bs (common (common own asked) (span_of s n)))
reached_within n bs own asked s h l p q = go (common (common own asked) (span_of s n)) (common_ends n (common own asked) (span_of s n) (common_ends n own asked (past_ends n own p) (past_ends n asked q)) (span_within_rows n s))
  where
    go : (r : Option (Range ℕ)) → EndsBy n r → AreRanges n (split_ranges bs r)
    go None e = all_within n bs h l
    go (Some r) e = cut_within n bs r h e
