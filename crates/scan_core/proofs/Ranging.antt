-- Rising boundaries, and the ranges between neighbours.
use Rattle.std.proofs.Common.{◌≡◌, ℕ, zero, suc, ◌+◌, ◌-◌, ◌<◌, ◌≤◌, Bool, true, false, ◌&&◌, nat_lt, nat_le, cond, List, [], ◌∷◌, ◌++◌, length, get_or, take, drop, filter, ◌==◌, Some, refl, ap, sym, subst, ◌∙◌, arith}
use Rattle.std.proofs.lemmas.Bool.Decides.{nat_tests}
use Rattle.std.proofs.lemmas.List.{append-nil}
use Rattle.std.proofs.lemmas.List.Sums.{count_by-le-length}
use Rattle.std.specs.declared.ops.Range.{Range}
use Rattle.scan_values.specs.StrictSorted.{is_rising, rank}
use Rattle.scan_values.specs.declared.selection.Selection.TheVariants.{IncludeByIndex}
use Rattle.scan_values.proofs.Rising.{Above, Above-rest, is_rising-rest, rank-cons}
use Rattle.scan_layout.specs.Edges.{is_inside}
use Rattle.scan_core.specs.SplitRanges.{rows, neighbours, last_from, spanned, span_of}

-- ---- the ranges between neighbours

dropped_one : (xs : List ℕ) (k : ℕ) → length xs ≤ suc k → neighbours (drop k xs) ≡ []
dropped_one [] zero l = refl
dropped_one [] (suc k) l = refl
dropped_one (x ∷ []) zero l = refl
dropped_one (x ∷ y ∷ ys) zero l = absurd (omega arith)
dropped_one (x ∷ xs) (suc k) l = dropped_one xs k (omega arith)

pub neighbours_end : (xs : List ℕ) (i : ℕ) → 0 < i → length xs ≤ i → neighbours (drop (i - 1) xs) ≡ []
neighbours_end xs zero p l = absurd (omega arith)
neighbours_end xs (suc k) p l = let back : k ≡ suc k - 1 = omega arith in subst (λ j. neighbours (drop j xs) ≡ []) back (dropped_one xs k l)

-- ---- the numbers inside a range
-- the first i numbers pass a test, and no others
abbrev pub Point : (ℕ → Bool) → List ℕ → ℕ → Type 0
Point p [] zero = Unit {0}
Point p [] (suc i) = ⊥
Point p (x ∷ xs) zero = (p x ≡ false) × Point p xs zero
Point p (x ∷ xs) (suc i) = (p x ≡ true) × Point p xs i

pub point_of : (p : ℕ → Bool) (xs : List ℕ) (i : ℕ) → i ≤ length xs → ((k d : ℕ) → k < i → p (get_or xs k d) ≡ true) → ((k d : ℕ) → i ≤ k → k < length xs → p (get_or xs k d) ≡ false) → Point p xs i
point_of p [] zero l these past = tt
point_of p [] (suc i) l these past = absurd (omega arith)
point_of p (x ∷ xs) zero l these past = (past 0 x (omega arith) (omega arith), point_of p xs zero (omega arith) (λ k d m. absurd (omega arith)) (λ k d a m. past (suc k) d (omega arith) (omega arith)))
point_of p (x ∷ xs) (suc i) l these past = (these 0 x (omega arith), point_of p xs i (omega arith) (λ k d m. these (suc k) d (omega arith)) (λ k d a m. past (suc k) d (omega arith) (omega arith)))

at_most : (lo x : ℕ) → nat_le x lo ≡ true → nat_lt lo x ≡ false
at_most lo x h = grind (arith, nat_tests)

above : (lo x : ℕ) → nat_le x lo ≡ false → nat_lt lo x ≡ true
above lo x h = grind (arith, nat_tests)

and_no : (a b : Bool) → b ≡ false → (a && b) ≡ false
and_no true b h = h
and_no false b h = refl

-- of the numbers below hi those after the ones up to lo
pub inside_is : (lo hi : ℕ) (xs : List ℕ) (f e : ℕ) → Point (λ x. nat_lt x hi) xs e → Point (λ x. nat_le x lo) (take e xs) f → drop f (take e xs) ≡ filter (is_inside lo hi) xs
inside_is lo hi [] zero zero p q = refl
inside_is lo hi [] (suc f) zero p q = absurd q
inside_is lo hi [] f (suc e) p q = absurd p
inside_is lo hi (x ∷ xs) zero zero p q =
    let past : (nat_lt lo x && nat_lt x hi) ≡ false = and_no (nat_lt lo x) (nat_lt x hi) p.0 in
    let rest : [] ≡ filter (is_inside lo hi) xs = inside_is lo hi xs zero zero p.1 tt in
    rw past rest
inside_is lo hi (x ∷ xs) (suc f) zero p q = absurd q
inside_is lo hi (x ∷ xs) zero (suc e) p q =
    let rest : take e xs ≡ filter (is_inside lo hi) xs = inside_is lo hi xs zero e p.1 q.1 in
    rw (above lo x q.0, p.0) (ap (λ ys. x ∷ ys) rest)
inside_is lo hi (x ∷ xs) (suc f) (suc e) p q =
    let rest : drop f (take e xs) ≡ filter (is_inside lo hi) xs = inside_is lo hi xs f e p.1 q.1 in
    rw (at_most lo x q.0) rest

take_none : (k : ℕ) → take {A = ℕ} k [] ≡ []
take_none zero = refl
take_none (suc k) = refl

take_all : (xs : List ℕ) → take (length xs) xs ≡ xs
take_all [] = refl
take_all (x ∷ xs) = ap (λ ys. x ∷ ys) (take_all xs)

pub taken_all : (xs : List ℕ) (f : ℕ) → take (length xs - f) (drop f xs) ≡ drop f xs
taken_all [] zero = take_none (0 - 0)
taken_all [] (suc f) = take_none (0 - suc f)
taken_all (x ∷ xs) zero = let whole : suc (length xs) ≡ suc (length xs) - 0 = omega arith in subst (λ k. take k (x ∷ xs) ≡ x ∷ xs) whole (ap (λ ys. x ∷ ys) (take_all xs))
taken_all (x ∷ xs) (suc f) = let less : length xs - f ≡ suc (length xs) - suc f = omega arith in subst (λ k. take k (drop f xs) ≡ drop f xs) less (taken_all xs f)

pub rising_take : (xs : List ℕ) (e : ℕ) → is_rising xs ≡ true → is_rising (take e xs) ≡ true
rising_take xs zero h = refl
rising_take [] (suc e) h = refl
rising_take (x ∷ []) (suc zero) h = refl
rising_take (x ∷ []) (suc (suc e)) h = refl
rising_take (x ∷ y ∷ ys) (suc zero) h = refl
rising_take (x ∷ y ∷ ys) (suc (suc e)) h =
    let rest : is_rising (y ∷ take e ys) ≡ true = rising_take (y ∷ ys) (suc e) (is_rising-rest x (y ∷ ys) h) in
    and_both (nat_lt x y) (is_rising (y ∷ ys)) (is_rising (y ∷ take e ys)) h rest
  where
    and_both : (a b c : Bool) → (a && b) ≡ true → c ≡ true → (a && c) ≡ true
    and_both true b c h k = k
    and_both false b c h k = h

-- ---- the span of numbers
-- none of rising numbers is below another where the first is not
none_below : (n x : ℕ) (ys : List ℕ) → n ≤ x → Above x ys → filter (λ i. nat_lt i n) ys ≡ []
none_below n x [] l a = refl
none_below n x (y ∷ ys) l a = let past : nat_lt y n ≡ false = grind (arith, nat_tests, a.0) in rw past (none_below n x ys l a.1)

pub rank_none : (n x : ℕ) (ys : List ℕ) → n ≤ x → Above x ys → rank n ys ≡ 0
rank_none n x [] l a = refl
rank_none n x (y ∷ ys) l a =
    let past : nat_lt y n ≡ false = grind (arith, nat_tests, a.0) in
    let rest = rank_none n x ys l a.1 in
    rank-cons n y ys ∙ ap (λ b. cond b 1 0 + rank n ys) past ∙ omega (arith, rest)

taken_none : (k : ℕ) (ys : List ℕ) → k ≡ 0 → [] ≡ take k ys
taken_none zero ys h = refl
taken_none (suc k) ys h = absurd (omega arith)

pub more_rank : (n x : ℕ) (xs : List ℕ) → nat_lt x n ≡ true → rank n (x ∷ xs) ≡ suc (rank n xs)
more_rank n x xs e = rank-cons n x xs ∙ ap (λ b. cond b 1 0 + rank n xs) e ∙ omega arith

pub same_rank : (n x : ℕ) (xs : List ℕ) → nat_lt x n ≡ false → rank n (x ∷ xs) ≡ rank n xs
same_rank n x xs e = rank-cons n x xs ∙ ap (λ b. cond b 1 0 + rank n xs) e ∙ omega arith

-- those of rising numbers that are below another are the first ones
pub below_are : (n : ℕ) (xs : List ℕ) → is_rising xs ≡ true → filter (λ i. nat_lt i n) xs ≡ take (rank n xs) xs
below_are n [] h = refl
below_are n (x ∷ xs) h = first (nat_lt x n) refl (below_are n xs (is_rising-rest x xs h))
  where
    first : (b : Bool) → nat_lt x n ≡ b → filter (λ i. nat_lt i n) xs ≡ take (rank n xs) xs → filter (λ i. nat_lt i n) (x ∷ xs) ≡ take (rank n (x ∷ xs)) (x ∷ xs)
    first true e rest =
        let more : suc (rank n xs) ≡ rank n (x ∷ xs) = sym (more_rank n x xs e) in
        let kept : filter (λ i. nat_lt i n) (x ∷ xs) ≡ take (suc (rank n xs)) (x ∷ xs) = rw e (ap (λ ys. x ∷ ys) rest) in
        subst (λ k. filter (λ i. nat_lt i n) (x ∷ xs) ≡ take k (x ∷ xs)) more kept
    first false e rest =
        let past : n ≤ x = grind (arith, nat_tests, e) in
        let gone : filter (λ i. nat_lt i n) (x ∷ xs) ≡ [] = rw e (none_below n x xs past (Above-rest x xs h)) in
        let none : rank n (x ∷ xs) ≡ 0 = same_rank n x xs e ∙ rank_none n x xs past (Above-rest x xs h) in
        gone ∙ taken_none (rank n (x ∷ xs)) (x ∷ xs) none

pub last_of_first : (x : ℕ) (xs : List ℕ) (k : ℕ) → k ≤ length xs → last_from x (take k xs) ≡ get_or (x ∷ xs) k 0
last_of_first x xs zero l = refl
last_of_first x [] (suc k) l = absurd (omega arith)
last_of_first x (y ∷ ys) (suc k) l = last_of_first y ys k (omega arith)

pub span_some : (n : ℕ) (xs : List ℕ) (k : ℕ) → is_rising xs ≡ true → k ≡ rank n xs → 0 < k → Some (rows (get_or xs 0 0) (get_or xs (k - 1) 0 + 1)) ≡ span_of (IncludeByIndex xs) n
span_some n [] k r e p = absurd (omega arith)
span_some n (x ∷ xs) zero r e p = absurd (omega arith)
span_some n (x ∷ xs) (suc k) r e p =
    let these : filter (λ i. nat_lt i n) (x ∷ xs) ≡ x ∷ take k xs = below_are n (x ∷ xs) r ∙ ap (λ m. take m (x ∷ xs)) (sym e) in
    let short : rank n (x ∷ xs) ≤ length (x ∷ xs) = count_by-le-length (λ y. nat_lt y n) (x ∷ xs) in
    let last : last_from x (take k xs) ≡ get_or (x ∷ xs) k 0 = last_of_first x xs k (omega (arith, e, short)) in
    let back : k ≡ suc k - 1 = omega arith in
    let whole : Some (rows x (get_or (x ∷ xs) k 0 + 1)) ≡ span_of (IncludeByIndex (x ∷ xs)) n = ap (λ z. Some (rows x (z + 1))) (sym last) ∙ ap (λ ys. Some (spanned ys)) (sym these) in
    subst (λ j. Some (rows x (get_or (x ∷ xs) j 0 + 1)) ≡ span_of (IncludeByIndex (x ∷ xs)) n) back whole

pub span_empty : (n : ℕ) (xs : List ℕ) → is_rising xs ≡ true → 0 < length xs → rank n xs ≡ 0 → Some (rows 0 0) ≡ span_of (IncludeByIndex xs) n
span_empty n [] r p e = absurd (omega arith)
span_empty n (x ∷ xs) r p e = ap (λ ys. Some (spanned ys)) (sym (below_are n (x ∷ xs) r ∙ ap (λ m. take m (x ∷ xs)) e))

-- a number at a rank that is not the first is below
pub below_at : (n : ℕ) (xs : List ℕ) (k : ℕ) → is_rising xs ≡ true → suc k ≤ rank n xs → get_or xs k 0 < n
below_at n [] k r l = absurd (omega arith)
below_at n (x ∷ xs) zero r l = go (nat_lt x n) refl
  where
    go : (b : Bool) → nat_lt x n ≡ b → x < n
    go true e = grind (arith, nat_tests, e)
    go false e =
        let past : n ≤ x = grind (arith, nat_tests, e) in
        let none : rank n (x ∷ xs) ≡ 0 = same_rank n x xs e ∙ rank_none n x xs past (Above-rest x xs r) in
        absurd (omega (arith, l, none))
below_at n (x ∷ xs) (suc k) r l = go (nat_lt x n) refl (below_at n xs k (is_rising-rest x xs r))
  where
    go : (b : Bool) → nat_lt x n ≡ b → (suc k ≤ rank n xs → get_or xs k 0 < n) → get_or xs k 0 < n
    go true e rest = let more = more_rank n x xs e in rest (omega (arith, l, more))
    go false e rest =
        let past : n ≤ x = grind (arith, nat_tests, e) in
        let none : rank n (x ∷ xs) ≡ 0 = same_rank n x xs e ∙ rank_none n x xs past (Above-rest x xs r) in
        absurd (omega (arith, l, none))

pub last_fits : (n : ℕ) (xs ys : List ℕ) (k : ℕ) → is_rising xs ≡ true → ys ≡ xs → k ≡ rank n xs → (k ≡ 0 → ⊥) → get_or ys (k - 1) 0 < n
last_fits n xs ys zero r e h f = absurd (f refl)
last_fits n xs ys (suc k) r e h f =
    let back : k ≡ suc k - 1 = omega arith in
    let below : get_or xs k 0 < n = below_at n xs k r (omega (arith, h)) in
    subst (λ zs. get_or zs (suc k - 1) 0 < n) (sym e) (subst (λ j. get_or xs j 0 < n) back below)

pub span_last : (n : ℕ) (xs ys : List ℕ) (k : ℕ) → is_rising xs ≡ true → ys ≡ xs → k ≡ rank n xs → (k ≡ 0 → ⊥) → Some (rows (get_or ys 0 0) (get_or ys (k - 1) 0 + 1)) ≡ span_of (IncludeByIndex xs) n
span_last n xs ys zero r e h f = absurd (f refl)
span_last n xs ys (suc k) r e h f = subst (λ zs. Some (rows (get_or zs 0 0) (get_or zs (suc k - 1) 0 + 1)) ≡ span_of (IncludeByIndex xs) n) (sym e) (span_some n xs (suc k) r h (omega arith))

pub neighbours_done : (made : List (Range ℕ)) (xs : List ℕ) (i : ℕ) → 0 < i → length xs ≤ i → made ++ neighbours (drop (i - 1) xs) ≡ neighbours xs → made ≡ neighbours xs
neighbours_done made xs i p l h = sym (append-nil made) ∙ ap (λ z. made ++ z) (sym (neighbours_end xs i p l)) ∙ h

pub some_are : (b : Bool) (xs ys : List ℕ) → b ≡ (length xs == 0) → b ≡ false → xs ≡ ys → 0 < length ys
some_are b [] [] h f e = cc
some_are b [] (y ∷ ys) h f e = omega arith
some_are b (x ∷ xs) [] h f e = cc
some_are b (x ∷ xs) (y ∷ ys) h f e = omega arith
