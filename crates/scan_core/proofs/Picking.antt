-- What a selection names of a range's rows.
use Rattle.std.proofs.Common.{◌≡◌, ℕ, zero, suc, ◌+◌, ◌-◌, ◌<◌, ◌≤◌, Bool, true, false, ◌&&◌, nat_lt, nat_le, List, [], ◌∷◌, length, get_or, take, drop, filter, refl, ap, sym, subst, ◌∙◌, arith}
use Rattle.std.proofs.lemmas.Bool.Decides.{nat_tests}
use Rattle.std.proofs.lemmas.List.Sums.{count_by-le-length}
use Rattle.std.specs.declared.ops.Range.{Range}
use Rattle.scan_values.specs.StrictSorted.{is_rising, rank}
use Rattle.scan_values.proofs.Rising.{Above, Above-rest, is_rising-rest}
use Rattle.scan_values.specs.declared.selection.Selection.{Selection}
use Rattle.scan_values.specs.declared.selection.Selection.TheVariants.{All, IncludeByIndex, ExcludeByIndex}
use Rattle.scan_core.specs.Given.{Rises}
use Rattle.scan_core.specs.RowRanges.{is_in, narrowed, IsRange}
use Rattle.scan_core.specs.SplitRanges.{rows, last_from, spanned}
use Rattle.scan_core.proofs.Ranging.{below_at, last_of_first, more_rank, same_rank, rank_none}

-- ---- sublists of rising numbers
pub above_rising : (x : ℕ) (ys : List ℕ) → Above x ys → is_rising ys ≡ true → is_rising (x ∷ ys) ≡ true
above_rising x [] a h = refl
above_rising x (y ∷ ys) a h = let less : nat_lt x y ≡ true = grind (arith, nat_tests, a.0) in rw less h

filter_above : (p : ℕ → Bool) (x : ℕ) (ys : List ℕ) → Above x ys → Above x (filter p ys)
filter_above p x [] a = tt
filter_above p x (y ∷ ys) a = go (p y) refl (filter_above p x ys a.1)
  where
    go : (b : Bool) → p y ≡ b → Above x (filter p ys) → Above x (filter p (y ∷ ys))
    go true e rest = rw e (a.0, rest)
    go false e rest = rw e rest

pub filter_rising : (p : ℕ → Bool) (xs : List ℕ) → is_rising xs ≡ true → is_rising (filter p xs) ≡ true
filter_rising p [] h = refl
filter_rising p (x ∷ xs) h = go (p x) refl (filter_rising p xs (is_rising-rest x xs h))
  where
    go : (b : Bool) → p x ≡ b → is_rising (filter p xs) ≡ true → is_rising (filter p (x ∷ xs)) ≡ true
    go true e rest = rw e (above_rising x (filter p xs) (filter_above p x xs (Above-rest x xs h)) rest)
    go false e rest = rw e rest

-- ---- the numbers in a range are those between two ranks
dropped_none : (k : ℕ) → drop {A = ℕ} k [] ≡ []
dropped_none zero = refl
dropped_none (suc k) = refl

and_no : (b : Bool) → (b && false) ≡ false
and_no true = refl
and_no false = refl

none_past : (s e x : ℕ) (ys : List ℕ) → e ≤ x → Above x ys → filter (λ i. nat_le s i && nat_lt i e) ys ≡ []
none_past s e x [] l a = refl
none_past s e x (y ∷ ys) l a =
    let past : nat_lt y e ≡ false = grind (arith, nat_tests, a.0) in
    rw (past, and_no (nat_le s y)) (none_past s e x ys l a.1)

pub picks_are : (s e : ℕ) (xs : List ℕ) → is_rising xs ≡ true → filter (λ i. nat_le s i && nat_lt i e) xs ≡ drop (rank s xs) (take (rank e xs) xs)
picks_are s e [] h = refl
picks_are s e (x ∷ xs) h = first (nat_lt x e) refl (nat_lt x s) refl (picks_are s e xs (is_rising-rest x xs h))
  where
    In : ℕ → Bool
    In i = nat_le s i && nat_lt i e

    Want : ℕ → ℕ → Type 0
    Want f l = filter (λ i. nat_le s i && nat_lt i e) (x ∷ xs) ≡ drop f (take l (x ∷ xs))

    first : (b : Bool) → nat_lt x e ≡ b → (c : Bool) → nat_lt x s ≡ c → filter (λ i. nat_le s i && nat_lt i e) xs ≡ drop (rank s xs) (take (rank e xs) xs) → filter (λ i. nat_le s i && nat_lt i e) (x ∷ xs) ≡ drop (rank s (x ∷ xs)) (take (rank e (x ∷ xs)) (x ∷ xs))
    first true b true c rest =
        let out : nat_le s x ≡ false = grind (arith, nat_tests, c) in
        let lo : suc (rank s xs) ≡ rank s (x ∷ xs) = sym (more_rank s x xs c) in
        let hi : suc (rank e xs) ≡ rank e (x ∷ xs) = sym (more_rank e x xs b) in
        let here : Want (suc (rank s xs)) (suc (rank e xs)) = rw out rest in
        subst (λ f. Want f (rank e (x ∷ xs))) lo (subst (λ l. Want (suc (rank s xs)) l) hi here)
    first true b false c rest =
        let into : nat_le s x ≡ true = grind (arith, nat_tests, c) in
        let low : s ≤ x = grind (arith, nat_tests, c) in
        let none : rank s xs ≡ 0 = rank_none s x xs low (Above-rest x xs h) in
        let lo : 0 ≡ rank s (x ∷ xs) = sym (same_rank s x xs c ∙ none) in
        let hi : suc (rank e xs) ≡ rank e (x ∷ xs) = sym (more_rank e x xs b) in
        let tail : filter (λ i. nat_le s i && nat_lt i e) xs ≡ take (rank e xs) xs = subst (λ k. filter (λ i. nat_le s i && nat_lt i e) xs ≡ drop k (take (rank e xs) xs)) none rest in
        let here : Want 0 (suc (rank e xs)) = rw (into, b) (ap (λ ys. x ∷ ys) tail) in
        subst (λ f. Want f (rank e (x ∷ xs))) lo (subst (λ l. Want 0 l) hi here)
    first false b c d rest =
        let past : e ≤ x = grind (arith, nat_tests, b) in
        let none : rank e xs ≡ 0 = rank_none e x xs past (Above-rest x xs h) in
        let hi : 0 ≡ rank e (x ∷ xs) = sym (same_rank e x xs b ∙ none) in
        let gone : filter (λ i. nat_le s i && nat_lt i e) (x ∷ xs) ≡ [] = none_from past in
        let here : Want (rank s (x ∷ xs)) 0 = gone ∙ sym (dropped_none (rank s (x ∷ xs))) in
        subst (λ l. Want (rank s (x ∷ xs)) l) hi here
      where
        none_from : e ≤ x → filter (λ i. nat_le s i && nat_lt i e) (x ∷ xs) ≡ []
        none_from l = rw (b, and_no (nat_le s x)) (none_past s e x xs l (Above-rest x xs h))

drop_past : (xs : List ℕ) (k : ℕ) → length xs ≤ k → drop k xs ≡ []
drop_past [] k l = dropped_none k
drop_past (x ∷ xs) zero l = absurd (omega arith)
drop_past (x ∷ xs) (suc k) l = drop_past xs k (omega arith)

take_short : (xs : List ℕ) (k : ℕ) → length (take k xs) ≤ k
take_short xs zero = omega arith
take_short [] (suc k) = omega arith
take_short (x ∷ xs) (suc k) = let rest = take_short xs k in omega (arith, rest)

span_between : (xs : List ℕ) (f e : ℕ) → f < e → e ≤ length xs → spanned (drop f (take e xs)) ≡ rows (get_or xs f 0) (get_or xs (e - 1) 0 + 1)
span_between xs f zero p l = absurd (omega arith)
span_between [] f (suc e) p l = absurd (omega arith)
span_between (x ∷ xs) zero (suc e) p l =
    let back : e ≡ suc e - 1 = omega arith in
    subst (λ j. rows x (last_from x (take e xs) + 1) ≡ rows x (get_or (x ∷ xs) j 0 + 1)) back (ap (λ z. rows x (z + 1)) (last_of_first x xs e (omega arith)))
span_between (x ∷ xs) (suc f) (suc zero) p l = absurd (omega arith)
span_between (x ∷ xs) (suc f) (suc (suc e)) p l =
    let back : e ≡ suc e - 1 = omega arith in
    let on : suc e ≡ suc (suc e) - 1 = omega arith in
    let rest : spanned (drop f (take (suc e) xs)) ≡ rows (get_or xs f 0) (get_or xs e 0 + 1) = subst (λ j. spanned (drop f (take (suc e) xs)) ≡ rows (get_or xs f 0) (get_or xs j 0 + 1)) (sym back) (span_between xs f (suc e) (omega arith) (omega arith)) in
    subst (λ j. spanned (drop f (take (suc e) xs)) ≡ rows (get_or xs f 0) (get_or (x ∷ xs) j 0 + 1)) on rest

-- ---- the span of the picks, by two ranks
pub no_picks : (r : Range ℕ) (xs ys : List ℕ) (f e : ℕ) → is_rising xs ≡ true → f ≡ rank r.start xs → e ≡ rank r.end xs → e ≤ f → rows 0 0 ≡ spanned (filter (is_in r) xs)
no_picks r xs ys f e h p q l =
    let short = take_short xs (rank r.end xs) in
    ap spanned (sym (picks_are r.start r.end xs h ∙ drop_past (take (rank r.end xs) xs) (rank r.start xs) (omega (arith, short, p, q))))

pub some_picks : (r : Range ℕ) (xs ys : List ℕ) (f e : ℕ) → is_rising xs ≡ true → ys ≡ xs → f ≡ rank r.start xs → e ≡ rank r.end xs → f < e → rows (get_or ys f 0) (get_or ys (e - 1) 0 + 1) ≡ spanned (filter (is_in r) xs)
some_picks r xs ys f e h i p q l =
    let long : rank r.end xs ≤ length xs = count_by-le-length (λ y. nat_lt y r.end) xs in
    let span : spanned (drop (rank r.start xs) (take (rank r.end xs) xs)) ≡ rows (get_or xs (rank r.start xs) 0) (get_or xs (rank r.end xs - 1) 0 + 1) = span_between xs (rank r.start xs) (rank r.end xs) (omega (arith, p, q)) long in
    let these : rows (get_or xs (rank r.start xs) 0) (get_or xs (rank r.end xs - 1) 0 + 1) ≡ spanned (filter (is_in r) xs) = sym span ∙ ap spanned (sym (picks_are r.start r.end xs h)) in
    let ended = subst (λ j. rows (get_or xs (rank r.start xs) 0) (get_or xs (j - 1) 0 + 1) ≡ spanned (filter (is_in r) xs)) (sym q) these in
    let begun = subst (λ j. rows (get_or xs j 0) (get_or xs (e - 1) 0 + 1) ≡ spanned (filter (is_in r) xs)) (sym p) ended in
    subst (λ zs. rows (get_or zs f 0) (get_or zs (e - 1) 0 + 1) ≡ spanned (filter (is_in r) xs)) (sym i) begun

pub last_pick : (n : ℕ) (xs ys : List ℕ) (f e : ℕ) → is_rising xs ≡ true → ys ≡ xs → e ≡ rank n xs → f < e → get_or ys (e - 1) 0 < n
last_pick n xs ys f zero h i q l = absurd (omega arith)
last_pick n xs ys f (suc e) h i q l =
    let back : e ≡ suc e - 1 = omega arith in
    subst (λ zs. get_or zs (suc e - 1) 0 < n) (sym i) (subst (λ j. get_or xs j 0 < n) back (below_at n xs e h (omega (arith, q))))

-- ---- what is picked of a range of rows is one of them
pub last_above : (x : ℕ) (ys : List ℕ) → is_rising (x ∷ ys) ≡ true → x ≤ last_from x ys
last_above x [] h = omega arith
last_above x (y ∷ ys) h = let up = (Above-rest x (y ∷ ys) h).0 in let rest = last_above y ys (is_rising-rest x (y ∷ ys) h) in omega (arith, up, rest)

-- each is below a number
abbrev pub AreBelow : ℕ → List ℕ → Type 0
AreBelow n [] = Unit {0}
AreBelow n (x ∷ xs) = (x < n) × AreBelow n xs

pub last_below : (n x : ℕ) (ys : List ℕ) → x < n → AreBelow n ys → last_from x ys < n
last_below n x [] h a = h
last_below n x (y ∷ ys) h a = last_below n y ys a.0 a.1

pub filter_below : (n : ℕ) (p : ℕ → Bool) (xs : List ℕ) → ((x : ℕ) → p x ≡ true → x < n) → AreBelow n (filter p xs)
filter_below n p [] h = tt
filter_below n p (x ∷ xs) h = go (p x) refl (filter_below n p xs h)
  where
    go : (b : Bool) → p x ≡ b → AreBelow n (filter p xs) → AreBelow n (filter p (x ∷ xs))
    go true e rest = rw e (h x e, rest)
    go false e rest = rw e rest

in_below : (s e x : ℕ) → (nat_le s x && nat_lt x e) ≡ true → x < e
in_below s e x h = grind (arith, nat_tests, and_right (nat_le s x) (nat_lt x e) h)
  where
    and_right : (a b : Bool) → (a && b) ≡ true → b ≡ true
    and_right true b h = h
    and_right false b h = cc

pub span_ordered : (ys : List ℕ) → is_rising ys ≡ true → (spanned ys).start ≤ (spanned ys).end
span_ordered [] h = omega arith
span_ordered (y ∷ ys) h = let up = last_above y ys h in omega (arith, up)

pub span_ends : (n : ℕ) (ys : List ℕ) → AreBelow n ys → (spanned ys).end ≤ n
span_ends n [] a = omega arith
span_ends n (y ∷ ys) a = let low = last_below n y ys a.0 a.1 in omega (arith, low)

pub picks_within : (n : ℕ) (r q : Range ℕ) (xs : List ℕ) → is_rising xs ≡ true → q ≡ spanned (filter (is_in r) xs) → IsRange n r → IsRange n q
picks_within n r q xs h e i =
    let up : is_rising (filter (is_in r) xs) ≡ true = filter_rising (is_in r) xs h in
    let low : (spanned (filter (is_in r) xs)).end ≤ r.end = span_ends r.end (filter (is_in r) xs) (filter_below r.end (is_in r) xs (λ x k. in_below r.start r.end x k)) in
    let whole : IsRange n (spanned (filter (is_in r) xs)) = (span_ordered (filter (is_in r) xs) up, omega (arith, low, i.1)) in
    subst (IsRange n) (sym e) whole

pub narrowed_within : (n : ℕ) (s : Selection) (r : Range ℕ) → Rises s → IsRange n r → IsRange n (narrowed s r)
narrowed_within n All r h i = i
narrowed_within n (IncludeByIndex xs) r h i = picks_within n r (spanned (filter (is_in r) xs)) xs h refl i
narrowed_within n (ExcludeByIndex xs) r h i = i
