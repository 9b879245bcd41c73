-- The picked rows of ranges that are cut at edges, group by group.
use Rattle.std.proofs.Common.{◌≡◌, ◌<◌, ◌≤◌, ◌+◌, ◌-◌, ℕ, zero, suc, Bool, true, false, nat_le, List, [], ◌∷◌, ◌++◌, filter, flat_map, map, refl, sym, ap, subst, ◌∙◌, arith}
use Rattle.std.specs.Prelude.{◌==◌, ◌||◌, if◌then◌else◌}
use Rattle.std.specs.List.{range_with_len}
use Rattle.std.specs.declared.ops.Range.{Range}
use Rattle.std.proofs.lemmas.Bool.Decides.{nat_tests}
use Rattle.std.proofs.lemmas.List.Sums.{sum_by-cons}
use Rattle.scan_values.specs.Selections.{is_among, numbers}
use Rattle.scan_layout.specs.PickGroups.{grouped, join_first, split_of}
use Rattle.scan_core.specs.SplitRanges.{Follow}
use Rattle.scan_file.specs.Parts.{is_some_row}

-- ---- how many edges are up to a row
count-cons : (r e : ℕ) (es : List ℕ) → split_of (e ∷ es) r ≡ (if nat_le e r then 1 else 0) + split_of es r
count-cons r e es = sum_by-cons (λ x. if nat_le x r then 1 else 0) e es

pub more : (a b : ℕ) (es : List ℕ) → a ≤ b → split_of es a ≤ split_of es b
more a b [] h = omega arith
more a b (e ∷ es) h = rw (count-cons a e es, count-cons b e es) (go (nat_le e a) (nat_le e b) refl refl (more a b es h))
  where
    go : (x y : Bool) → nat_le e a ≡ x → nat_le e b ≡ y → split_of es a ≤ split_of es b → (if x then 1 else 0) + split_of es a ≤ (if y then 1 else 0) + split_of es b
    go false y p q ih = omega arith
    go true true p q ih = omega arith
    go true false p q ih = absurd (grind (arith, nat_tests))

-- an edge between two rows
pub past_edge : (a b g : ℕ) (es : List ℕ) → is_among es g ≡ true → a < g → g ≤ b → split_of es a < split_of es b
past_edge a b g [] h l m = cc
past_edge a b g (e ∷ es) h l m = rw (count-cons a e es, count-cons b e es) (go (e == g) refl h (λ k. past_edge a b g es k l m) (more a b es (omega (arith, l, m))))
  where
    go : (t : Bool) → (e == g) ≡ t → (t || is_among es g) ≡ true → (is_among es g ≡ true → split_of es a < split_of es b) → split_of es a ≤ split_of es b
        → (if nat_le e a then 1 else 0) + split_of es a < (if nat_le e b then 1 else 0) + split_of es b
    go true t k on le =
        let is : e ≡ g = grind (arith, nat_tests, t) in
        let out : nat_le e a ≡ false = grind (arith, nat_tests, is, l) in
        let in_ : nat_le e b ≡ true = grind (arith, nat_tests, is, m) in
        rw (out, in_) (omega (arith, le))
    go false t k on le = by (nat_le e a) (nat_le e b) refl refl
      where
        by : (x y : Bool) → nat_le e a ≡ x → nat_le e b ≡ y → (if x then 1 else 0) + split_of es a < (if y then 1 else 0) + split_of es b
        by false false p q = let s = on k in omega (arith, s)
        by false true p q = let s = on k in omega (arith, s)
        by true true p q = let s = on k in omega (arith, s)
        by true false p q = absurd (grind (arith, nat_tests, l, m))

-- no edge stands inside of a range
abbrev pub Clear : List ℕ → Range ℕ → Type 0
Clear es r = (p : ℕ) → r.start < p → p < r.end → is_among es p ≡ false

or_false : (a b : Bool) → (a || b) ≡ false → (a ≡ false) × (b ≡ false)
or_false true b h = cc
or_false false b h = (refl, h)

-- the rows of a clear range are of one split
same_split : (es : List ℕ) (r : Range ℕ) (i : ℕ) → Clear es r → r.start ≤ i → i < r.end → split_of es i ≡ split_of es r.start
same_split [] r i c l m = refl
same_split (e ∷ es) r i c l m =
    let rest = same_split es r i (λ p q s. (or_false (e == p) (is_among es p) (c p q s)).1) l m in
    rw (count-cons i e es, count-cons r.start e es) (go (nat_le e i) (nat_le e r.start) refl refl rest)
  where
    go : (x y : Bool) → nat_le e i ≡ x → nat_le e r.start ≡ y → split_of es i ≡ split_of es r.start → (if x then 1 else 0) + split_of es i ≡ (if y then 1 else 0) + split_of es r.start
    go true true p q h = omega (arith, h)
    go false false p q h = omega (arith, h)
    go false true p q h = absurd (grind (arith, nat_tests, l))
    go true false p q h =
        let up : r.start < e = grind (arith, nat_tests, q) in
        let low : e < r.end = grind (arith, nat_tests, p, m) in
        let none : (e == e) ≡ false = (or_false (e == e) (is_among es e) (c e up low)).0 in
        absurd (grind (arith, nat_tests, none))

-- ---- groups
-- each of them has this split
abbrev pub AreIn : (ℕ → ℕ) → ℕ → List ℕ → Type 0
AreIn f c [] = Unit {0}
AreIn f c (x ∷ xs) = (f x ≡ c) × AreIn f c xs

-- groups whose first row is of another split
abbrev pub LeaveOff : (ℕ → ℕ) → ℕ → List (List ℕ) → Type 0
LeaveOff f c [] = Unit {0}
LeaveOff f c ([] ∷ gs) = ⊥
LeaveOff f c ((y ∷ ys) ∷ gs) = (c == f y) ≡ false

joined : (f : ℕ → ℕ) (c x : ℕ) (gs : List (List ℕ)) → f x ≡ c → LeaveOff f c gs → join_first f x gs ≡ (x ∷ []) ∷ gs
joined f c x [] e h = refl
joined f c x ([] ∷ gs) e h = absurd h
joined f c x ((y ∷ ys) ∷ gs) e h = ap (λ b. if b then (x ∷ y ∷ ys) ∷ gs else (x ∷ []) ∷ (y ∷ ys) ∷ gs) (ap (λ n. n == f y) e ∙ h)

same_test : (a b c : ℕ) → a ≡ c → b ≡ c → (a == b) ≡ true
same_test a b c p q = grind (arith, nat_tests, p, q)

one_group : (f : ℕ → ℕ) (c x : ℕ) (xs rest : List ℕ) → AreIn f c (x ∷ xs) → LeaveOff f c (grouped f rest) → grouped f ((x ∷ xs) ++ rest) ≡ (x ∷ xs) ∷ grouped f rest
one_group f c x [] rest h k = joined f c x (grouped f rest) h.0 k
one_group f c x (y ∷ ys) rest h k =
    ap (join_first f x) (one_group f c y ys rest h.1 k)
    ∙ ap (λ b. if b then (x ∷ y ∷ ys) ∷ grouped f rest else (x ∷ []) ∷ (y ∷ ys) ∷ grouped f rest) (same_test (f x) (f y) c h.0 h.1.0)

-- ---- ranges that are cut at edges
-- each is clear, and ends at an edge where another stands behind it
abbrev pub AreCut : List ℕ → List (Range ℕ) → Type 0
AreCut es [] = Unit {0}
AreCut es (r ∷ []) = Clear es r
AreCut es (r ∷ q ∷ qs) = Clear es r × (is_among es r.end ≡ true) × AreCut es (q ∷ qs)

module _ (p : ℕ → Bool) (es : List ℕ) where
  -- the rows of a range that pass
  abbrev pub passing : Range ℕ → List ℕ
  passing r = filter p (numbers r.start r.end)

  abbrev pub some_passing : List (Range ℕ) → List (Range ℕ)
  some_passing rs = filter (λ r. is_some_row (passing r)) rs

  passing_in : (c a n : ℕ) → ((i : ℕ) → a ≤ i → i < a + n → split_of es i ≡ c) → AreIn (split_of es) c (filter p (range_with_len a n))
  passing_in c a zero h = tt
  passing_in c a (suc n) h = go (p a) (passing_in c (a + 1) n (λ i l m. h i (omega (arith, l)) (omega (arith, m))))
    where
      go : (b : Bool) → AreIn (split_of es) c (filter p (range_with_len (a + 1) n)) → AreIn (split_of es) c (if b then a ∷ filter p (range_with_len (a + 1) n) else filter p (range_with_len (a + 1) n))
      go true rest = (h a (omega arith) (omega arith), rest)
      go false rest = rest

  pub range_in : (r : Range ℕ) → Clear es r → AreIn (split_of es) (split_of es r.start) (passing r)
  range_in r c = passing_in (split_of es r.start) r.start (r.end - r.start) (λ i l m. same_split es r i c l (omega (arith, l, m)))

  -- the first that passes stands at the start or behind it
  first_from : (a n y : ℕ) (ys : List ℕ) → filter p (range_with_len a n) ≡ y ∷ ys → a ≤ y
  first_from a zero y ys e = cc
  first_from a (suc n) y ys e = go (p a) (λ k. first_from (a + 1) n y ys k) e
    where
      go : (b : Bool) → (filter p (range_with_len (a + 1) n) ≡ y ∷ ys → a + 1 ≤ y) → (if b then a ∷ filter p (range_with_len (a + 1) n) else filter p (range_with_len (a + 1) n)) ≡ y ∷ ys → a ≤ y
      go true on k = let e : a ≡ y = cc in omega (arith, e)
      go false on k = let l = on k in omega (arith, l)

  -- the groups of ranges from a row on, which is past an edge
  leave_off : (c a b : ℕ) (rs : List (Range ℕ)) → Follow a b rs → ((y : ℕ) → a ≤ y → (c == split_of es y) ≡ false) → LeaveOff (split_of es) c (map passing (some_passing rs))
  leave_off c a b [] h k = tt
  leave_off c a b (r ∷ rs) h k = go (passing r) refl (leave_off c r.end b rs h.2 (λ y l. k y (omega (arith, l, h.0, h.1))))
    where
      go : (is : List ℕ) → passing r ≡ is → LeaveOff (split_of es) c (map passing (some_passing rs)) → LeaveOff (split_of es) c (map passing (if is_some_row is then r ∷ some_passing rs else some_passing rs))
      go [] e rest = rest
      go (y ∷ ys) e rest =
          subst (λ zs. LeaveOff (split_of es) c (zs ∷ map passing (some_passing rs))) (sym e) (k y (let l = first_from r.start (r.end - r.start) y ys e in omega (arith, l, h.0)))

  less_differs : (a b : ℕ) → a < b → (a == b) ≡ false
  less_differs a b h = grind (arith, nat_tests)

  -- the groups of the rows that pass are those of the ranges
  pub groups_are : (a b : ℕ) (rs : List (Range ℕ)) → Follow a b rs → AreCut es rs → grouped (split_of es) (flat_map passing rs) ≡ map passing (some_passing rs)
  groups_are a b [] h k = refl
  groups_are a b (r ∷ []) h k = go (passing r) refl (range_in r k)
    where
      go : (is : List ℕ) → passing r ≡ is → AreIn (split_of es) (split_of es r.start) is → grouped (split_of es) (is ++ []) ≡ map passing (if is_some_row is then r ∷ [] else [])
      go [] e i = refl
      go (x ∷ xs) e i = one_group (split_of es) (split_of es r.start) x xs [] i tt ∙ ap (λ ys. ys ∷ []) (sym e)
  groups_are a b (r ∷ q ∷ qs) h k = go (passing r) refl (range_in r k.0) (groups_are r.end b (q ∷ qs) h.2 k.2)
      (leave_off (split_of es r.start) r.end b (q ∷ qs) h.2 (λ y l. less_differs (split_of es r.start) (split_of es y) (past_edge r.start y r.end es k.1 h.1 l)))
    where
      go : (is : List ℕ) → passing r ≡ is → AreIn (split_of es) (split_of es r.start) is → grouped (split_of es) (flat_map passing (q ∷ qs)) ≡ map passing (some_passing (q ∷ qs)) → LeaveOff (split_of es) (split_of es r.start) (map passing (some_passing (q ∷ qs)))
          → grouped (split_of es) (is ++ flat_map passing (q ∷ qs)) ≡ map passing (if is_some_row is then r ∷ some_passing (q ∷ qs) else some_passing (q ∷ qs))
      go [] e i rest off = rest
      go (x ∷ xs) e i rest off =
          one_group (split_of es) (split_of es r.start) x xs (flat_map passing (q ∷ qs)) i (subst (LeaveOff (split_of es) (split_of es r.start)) (sym rest) off)
          ∙ (λ z. sym e z ∷ rest z)
