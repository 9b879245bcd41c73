-- Lists of which two places are exchanged, and of which places were exchanged time and again.
use Rattle.std.proofs.Common.{◌≡◌, ◌≢◌, ◌⊎◌, ℕ, zero, suc, ◌+◌, ◌<◌, ◌≤◌, List, [], ◌∷◌, ◌++◌, length, map, get_or, set, take, min, true, false, cond, eqb, All, sum_by, swap, IsPermutation, inl, inr, refl, sym, ap, ◌∙◌, subst, arith}
use Rattle.std.specs.List.{range_with_len}
use Rattle.std.specs.List.Sorted.{SwapsInRange}
use Rattle.std.proofs.lemmas.Bool.{cases_eq}
use Rattle.std.proofs.lemmas.Bool.Decides.{nat_tests}
use Rattle.std.proofs.lemmas.List.{get_or-set_same, get_or-set_other, get_or-take, length-take, length-map, same_lists, length-set}
use Rattle.std.proofs.lemmas.List.Edits.{length-swap, swap_is}
use Rattle.std.proofs.lemmas.List.FromFn.{length-range_with_len, get_or-range_with_len}
use Rattle.std.proofs.lemmas.List.Sorted.{IsPermutation-refl, IsPermutation-sym, IsPermutation-trans, sum_by-IsPermutation}
use Rattle.scan_drive.specs.Line.{exchanged, restored, exchange, placed_by}

-- ---- places
pub exchange_first : (i j : ℕ) → exchange i j i ≡ j
exchange_first i j = let e : eqb i i ≡ true = grind (arith, nat_tests) in ap (λ b. cond b j (cond (eqb i j) i i)) e

pub exchange_second : (i j : ℕ) → exchange i j j ≡ i
exchange_second i j = go (cases_eq j i)
  where
    go : (j ≡ i) ⊎ (j ≢ i) → exchange i j j ≡ i
    go (inl e) = let b : eqb j i ≡ true = grind (arith, nat_tests) in ap (λ z. cond z j (cond (eqb j j) i j)) b ∙ e
    go (inr n) =
        let a : eqb j i ≡ false = grind (arith, nat_tests) in
        let b : eqb j j ≡ true = grind (arith, nat_tests) in
        ap (λ z. cond z j (cond (eqb j j) i j)) a ∙ ap (λ z. cond z i j) b

pub exchange_other : (i j k : ℕ) → k ≢ i → k ≢ j → exchange i j k ≡ k
exchange_other i j k n m =
    let a : eqb k i ≡ false = grind (arith, nat_tests) in
    let b : eqb k j ≡ false = grind (arith, nat_tests) in
    ap (λ z. cond z j (cond (eqb k j) i k)) a ∙ ap (λ z. cond z i k) b

-- a place is one of the two, or another
pub data Which (i j k : ℕ) : Type 0 where
  first : k ≡ i → Which i j k
  second : k ≡ j → Which i j k
  other : k ≢ i → k ≢ j → Which i j k

pub which : (i j k : ℕ) → Which i j k
which i j k = go (cases_eq k i) (cases_eq k j)
  where
    go : (k ≡ i) ⊎ (k ≢ i) → (k ≡ j) ⊎ (k ≢ j) → Which i j k
    go (inl e) m = Which.first e
    go (inr n) (inl e) = Which.second e
    go (inr n) (inr m) = Which.other n m

pub exchange_twice : (i j k : ℕ) → exchange i j (exchange i j k) ≡ k
exchange_twice i j k = go (which i j k)
  where
    go : Which i j k → exchange i j (exchange i j k) ≡ k
    go (Which.first e) = ap (λ z. exchange i j (exchange i j z)) e ∙ ap (exchange i j) (exchange_first i j) ∙ exchange_second i j ∙ sym e
    go (Which.second e) = ap (λ z. exchange i j (exchange i j z)) e ∙ ap (exchange i j) (exchange_second i j) ∙ exchange_first i j ∙ sym e
    go (Which.other n m) = ap (exchange i j) (exchange_other i j k n m) ∙ exchange_other i j k n m

pub exchange_below : (n i j k : ℕ) → i < n → j < n → k < n → exchange i j k < n
exchange_below n i j k p q r = go (which i j k)
  where
    go : Which i j k → exchange i j k < n
    go (Which.first e) = let z : exchange i j k ≡ j = ap (exchange i j) e ∙ exchange_first i j in omega arith
    go (Which.second e) = let z : exchange i j k ≡ i = ap (exchange i j) e ∙ exchange_second i j in omega arith
    go (Which.other a b) = let z = exchange_other i j k a b in omega arith

-- places below both stay
pub exchange_before : (m i j k : ℕ) → m ≤ i → m ≤ j → k < m → exchange i j k ≡ k
exchange_before m i j k p q lt = exchange_other i j k (λ e. omega arith) (λ e. omega arith)

-- and so do those behind both
pub exchange_behind : (m i j k : ℕ) → i < m → j < m → m ≤ k → exchange i j k ≡ k
exchange_behind m i j k p q le = exchange_other i j k (λ e. omega arith) (λ e. omega arith)

-- a place at or behind both comes from one
pub exchange_from : (m i j k : ℕ) → m ≤ i → m ≤ j → m ≤ k → m ≤ exchange i j k
exchange_from m i j k p q le = go (which i j k)
  where
    go : Which i j k → m ≤ exchange i j k
    go (Which.first e) = let z : exchange i j k ≡ j = ap (exchange i j) e ∙ exchange_first i j in omega arith
    go (Which.second e) = let z : exchange i j k ≡ i = ap (exchange i j) e ∙ exchange_second i j in omega arith
    go (Which.other a b) = let z = exchange_other i j k a b in omega arith

-- ---- one exchange
module _ {X : Type 0} where
  -- what stands at a place after an exchange
  pub swap_at : (xs : List X) (i j k : ℕ) (d : X) → i < length xs → j < length xs → get_or (swap xs i j) k d ≡ get_or xs (exchange i j k) d
  swap_at xs i j k d p q = ap (λ ys. get_or ys k d) (sym (swap_is xs i j d p q)) ∙ go (which i j k)
    where
      mid : List X
      mid = set xs i (get_or xs j d)

      long : length mid ≡ length xs
      long = length-set xs i (get_or xs j d)

      last : (k : ℕ) → k ≡ j → get_or (set mid j (get_or xs i d)) k d ≡ get_or xs i d
      last k e = ap (λ z. get_or (set mid j (get_or xs i d)) z d) e ∙ get_or-set_same mid j (get_or xs i d) d (omega (arith, long))

      at_first : k ≡ i → (k ≡ j) ⊎ (k ≢ j) → get_or (set mid j (get_or xs i d)) k d ≡ get_or xs j d
      at_first e (inl f) = let z : i ≡ j = sym e ∙ f in last k f ∙ ap (λ n. get_or xs n d) z
      at_first e (inr n) = get_or-set_other mid j k (get_or xs i d) d n ∙ ap (λ z. get_or mid z d) e ∙ get_or-set_same xs i (get_or xs j d) d p

      go : Which i j k → get_or (set mid j (get_or xs i d)) k d ≡ get_or xs (exchange i j k) d
      go (Which.first e) = at_first e (cases_eq k j) ∙ ap (λ n. get_or xs n d) (sym (ap (exchange i j) e ∙ exchange_first i j))
      go (Which.second e) = last k e ∙ ap (λ n. get_or xs n d) (sym (ap (exchange i j) e ∙ exchange_second i j))
      go (Which.other n m) = get_or-set_other mid j k (get_or xs i d) d m ∙ get_or-set_other xs i k (get_or xs j d) d n ∙ ap (λ z. get_or xs z d) (sym (exchange_other i j k n m))

  -- two exchanges of the same places change nothing
  pub swap_twice : (xs : List X) (i j : ℕ) → i < length xs → j < length xs → swap (swap xs i j) i j ≡ xs
  swap_twice xs i j p q = same_lists (swap (swap xs i j) i j) xs (length-swap (swap xs i j) i j ∙ l) (λ k d lt.
      swap_at (swap xs i j) i j k d (omega (arith, l)) (omega (arith, l)) ∙ swap_at xs i j (exchange i j k) d p q ∙ ap (λ n. get_or xs n d) (exchange_twice i j k))
    where
      l : length (swap xs i j) ≡ length xs
      l = length-swap xs i j

  -- what holds of each element still does
  pub all_swapped : (P : X → Type 0) (xs : List X) (i j : ℕ) → i < length xs → j < length xs → All P xs → All P (swap xs i j)
  all_swapped P xs i j p q h k d lt =
      let l = length-swap xs i j in
      subst P (sym (swap_at xs i j k d p q)) (h (exchange i j k) d (exchange_below (length xs) i j k p q (omega arith)))

  pub permutation_swap : (xs : List X) (i j : ℕ) → i < length xs → j < length xs → IsPermutation xs (swap xs i j)
  permutation_swap xs i j p q = record { moves = (i, j) ∷ []; below = (p, q, tt); is = refl }

  pub sum_by_swapped : (f : X → ℕ) (xs : List X) (i j : ℕ) → i < length xs → j < length xs → sum_by f (swap xs i j) ≡ sum_by f xs
  sum_by_swapped f xs i j p q = sum_by-IsPermutation f xs (swap xs i j) (permutation_swap xs i j p q)

module _ {X Y : Type 0} (f : X → Y) where
  at_map : (xs : List X) (k : ℕ) (d : Y) (x : X) → k < length xs → get_or (map f xs) k d ≡ f (get_or xs k x)
  at_map [] k d x lt = absurd (omega arith)
  at_map (y ∷ xs) zero d x lt = refl
  at_map (y ∷ xs) (suc k) d x lt = at_map xs k d x (omega arith)

  pub map_swapped : (xs : List X) (i j : ℕ) → i < length xs → j < length xs → map f (swap xs i j) ≡ swap (map f xs) i j
  map_swapped [] i j p q = absurd (omega arith)
  map_swapped (y ∷ ys) i j p q = same_lists (map f (swap xs i j)) (swap (map f xs) i j) (length-map (swap xs i j) f ∙ l ∙ sym (length-swap (map f xs) i j ∙ m)) (λ k d lt.
      let at : k < length (swap xs i j) = (let z = length-map (swap xs i j) f in omega arith) in
      let back : k < length xs = omega (arith, l) in
      at_map (swap xs i j) k d y at ∙ ap f (swap_at xs i j k y p q)
      ∙ sym (swap_at (map f xs) i j k d (omega (arith, m)) (omega (arith, m)) ∙ at_map xs (exchange i j k) d y (exchange_below (length xs) i j k p q back)))
    where
      xs : List X
      xs = y ∷ ys

      l : length (swap xs i j) ≡ length xs
      l = length-swap xs i j

      m : length (map f xs) ≡ length xs
      m = length-map xs f

-- the numbers of all places, where two are exchanged
pub numbers_permute : (n i j : ℕ) → i < n → j < n → IsPermutation (map (exchange i j) (range_with_len 0 n)) (range_with_len 0 n)
numbers_permute n i j p q = subst (λ xs. IsPermutation xs (range_with_len 0 n)) swapped (IsPermutation-sym (range_with_len 0 n) (swap (range_with_len 0 n) i j) (permutation_swap (range_with_len 0 n) i j pl ql))
  where
    long : length (range_with_len 0 n) ≡ n
    long = length-range_with_len 0 n

    pl : i < length (range_with_len 0 n)
    pl = omega (arith, long, p)

    ql : j < length (range_with_len 0 n)
    ql = omega (arith, long, q)

    number : (k d : ℕ) → k < n → get_or (range_with_len 0 n) k d ≡ k
    number k d lt = get_or-range_with_len 0 n k d lt ∙ (let z : 0 + k ≡ k = omega arith in z)

    swapped : swap (range_with_len 0 n) i j ≡ map (exchange i j) (range_with_len 0 n)
    swapped = same_lists (swap (range_with_len 0 n) i j) (map (exchange i j) (range_with_len 0 n)) (length-swap (range_with_len 0 n) i j ∙ sym (length-map (range_with_len 0 n) (exchange i j))) (λ k d lt.
        let l : length (swap (range_with_len 0 n) i j) ≡ length (range_with_len 0 n) = length-swap (range_with_len 0 n) i j in
        let below : k < n = omega (arith, l, long, lt) in
        let there : k < length (range_with_len 0 n) = omega (arith, l, lt) in
        swap_at (range_with_len 0 n) i j k d pl ql ∙ number (exchange i j k) d (exchange_below n i j k p q below)
        ∙ sym (at_map (exchange i j) (range_with_len 0 n) k d d there ∙ ap (exchange i j) (number k d below)))

-- ---- exchanges, one after the other
pub placed_below : (n : ℕ) (ss : List (ℕ × ℕ)) (k : ℕ) → SwapsInRange n ss → k < n → placed_by ss k < n
placed_below n [] k r lt = lt
placed_below n (s ∷ ss) k r lt = exchange_below n s.0 s.1 (placed_by ss k) r.0 r.1 (placed_below n ss k r.2 lt)

pub placed_behind : (m : ℕ) (ss : List (ℕ × ℕ)) (k : ℕ) → SwapsInRange m ss → m ≤ k → placed_by ss k ≡ k
placed_behind m [] k r le = refl
placed_behind m (s ∷ ss) k r le = ap (exchange s.0 s.1) (placed_behind m ss k r.2 le) ∙ exchange_behind m s.0 s.1 k r.0 r.1 le

-- exchanges of the first places are exchanges of more
pub range_more : (m n : ℕ) (ss : List (ℕ × ℕ)) → m ≤ n → SwapsInRange m ss → SwapsInRange n ss
range_more m n [] le r = tt
range_more m n (s ∷ ss) le r = (let z : s.0 < m = r.0 in omega arith, let z : s.1 < m = r.1 in omega arith, range_more m n ss le r.2)

module _ {X : Type 0} where
  pub length_exchanged : (ss : List (ℕ × ℕ)) (xs : List X) → length (exchanged ss xs) ≡ length xs
  length_exchanged [] xs = refl
  length_exchanged (s ∷ ss) xs = length_exchanged ss (swap xs s.0 s.1) ∙ length-swap xs s.0 s.1

  pub length_restored : (ss : List (ℕ × ℕ)) (xs : List X) → length (restored ss xs) ≡ length xs
  length_restored [] xs = refl
  length_restored (s ∷ ss) xs = length-swap (restored ss xs) s.0 s.1 ∙ length_restored ss xs

  -- an exchange more
  pub exchanged_snoc : (ss : List (ℕ × ℕ)) (s : ℕ × ℕ) (xs : List X) → exchanged (ss ++ s ∷ []) xs ≡ swap (exchanged ss xs) s.0 s.1
  exchanged_snoc [] s xs = refl
  exchanged_snoc (t ∷ ss) s xs = exchanged_snoc ss s (swap xs t.0 t.1)

  -- the last one is undone first
  pub restored_snoc : (ss : List (ℕ × ℕ)) (s : ℕ × ℕ) (xs : List X) → restored (ss ++ s ∷ []) xs ≡ restored ss (swap xs s.0 s.1)
  restored_snoc [] s xs = refl
  restored_snoc (t ∷ ss) s xs = ap (λ ys. swap ys t.0 t.1) (restored_snoc ss s xs)

  -- what stands at a place after exchanges
  pub exchanged_at : (ss : List (ℕ × ℕ)) (xs : List X) (k : ℕ) (d : X) → SwapsInRange (length xs) ss → get_or (exchanged ss xs) k d ≡ get_or xs (placed_by ss k) d
  exchanged_at [] xs k d r = refl
  exchanged_at (s ∷ ss) xs k d r =
      exchanged_at ss (swap xs s.0 s.1) k d (subst (λ n. SwapsInRange n ss) (sym (length-swap xs s.0 s.1)) r.2) ∙ swap_at xs s.0 s.1 (placed_by ss k) d r.0 r.1

  pub exchanged_restored : (ss : List (ℕ × ℕ)) (xs : List X) → SwapsInRange (length xs) ss → exchanged ss (restored ss xs) ≡ xs
  exchanged_restored [] xs r = refl
  exchanged_restored (s ∷ ss) xs r =
      let l : length (restored ss xs) ≡ length xs = length_restored ss xs in
      let a = r.0 in
      let b = r.1 in
      ap (exchanged ss) (swap_twice (restored ss xs) s.0 s.1 (omega arith) (omega arith)) ∙ exchanged_restored ss xs r.2

  pub permutation_exchanged : (ss : List (ℕ × ℕ)) (xs : List X) → SwapsInRange (length xs) ss → IsPermutation xs (exchanged ss xs)
  permutation_exchanged [] xs r = IsPermutation-refl xs
  permutation_exchanged (s ∷ ss) xs r =
      IsPermutation-trans xs (swap xs s.0 s.1) (exchanged ss (swap xs s.0 s.1)) (permutation_swap xs s.0 s.1 r.0 r.1)
      (permutation_exchanged ss (swap xs s.0 s.1) (subst (λ n. SwapsInRange n ss) (sym (length-swap xs s.0 s.1)) r.2))

  pub all_exchanged : (P : X → Type 0) (ss : List (ℕ × ℕ)) (xs : List X) → SwapsInRange (length xs) ss → All P xs → All P (exchanged ss xs)
  all_exchanged P [] xs r h = h
  all_exchanged P (s ∷ ss) xs r h = all_exchanged P ss (swap xs s.0 s.1) (subst (λ n. SwapsInRange n ss) (sym (length-swap xs s.0 s.1)) r.2) (all_swapped P xs s.0 s.1 r.0 r.1 h)

  pub all_restored : (P : X → Type 0) (ss : List (ℕ × ℕ)) (xs : List X) → SwapsInRange (length xs) ss → All P xs → All P (restored ss xs)
  all_restored P [] xs r h = h
  all_restored P (s ∷ ss) xs r h =
      let l = length_restored ss xs in
      let a = r.0 in
      let b = r.1 in
      all_swapped P (restored ss xs) s.0 s.1 (omega arith) (omega arith) (all_restored P ss xs r.2 h)

module _ {X Y : Type 0} (f : X → Y) where
  pub map_exchanged : (ss : List (ℕ × ℕ)) (xs : List X) → SwapsInRange (length xs) ss → map f (exchanged ss xs) ≡ exchanged ss (map f xs)
  map_exchanged [] xs r = refl
  map_exchanged (s ∷ ss) xs r =
      map_exchanged ss (swap xs s.0 s.1) (subst (λ n. SwapsInRange n ss) (sym (length-swap xs s.0 s.1)) r.2) ∙ ap (exchanged ss) (map_swapped f xs s.0 s.1 r.0 r.1)

-- ---- relations of two lists that one exchange in both keeps
module _ {X Y : Type 0} (R : List X → List Y → Type 0) (n : ℕ)
    (keeps : (a : List X) (b : List Y) (i j : ℕ) → length a ≡ n → length b ≡ n → i < n → j < n → R a b → R (swap a i j) (swap b i j)) where
  -- it holds after exchanges in both
  pub exchanges : (ss : List (ℕ × ℕ)) (a : List X) (b : List Y) → SwapsInRange n ss → length a ≡ n → length b ≡ n → R a b → R (exchanged ss a) (exchanged ss b)
  exchanges [] a b r l m h = h
  exchanges (s ∷ ss) a b r l m h =
      exchanges ss (swap a s.0 s.1) (swap b s.0 s.1) r.2 (length-swap a s.0 s.1 ∙ l) (length-swap b s.0 s.1 ∙ m) (keeps a b s.0 s.1 l m r.0 r.1 h)

  -- where it holds over a list whose places were exchanged, it holds over that list once the exchanges are undone
  pub restores : (ss : List (ℕ × ℕ)) (a : List X) (b : List Y) → SwapsInRange n ss → length a ≡ n → length b ≡ n → R (exchanged ss a) b → R a (restored ss b)
  restores [] a b r l m h = h
  restores (s ∷ ss) a b r l m h =
      let lt : s.0 < length a = (let z : s.0 < n = r.0 in omega arith) in
      let mt : s.1 < length a = (let z : s.1 < n = r.1 in omega arith) in
      subst (λ z. R z (restored (s ∷ ss) b)) (swap_twice a s.0 s.1 lt mt)
      (keeps (swap a s.0 s.1) (restored ss b) s.0 s.1 (length-swap a s.0 s.1 ∙ l) (length_restored ss b ∙ m) r.0 r.1
      (restores ss (swap a s.0 s.1) b r.2 (length-swap a s.0 s.1 ∙ l) m h))

-- ---- what holds of the elements at a place
module _ {X : Type 0} (P : X → Type 0) where
  pub at_swapped : (xs : List X) (i j k : ℕ) (d : X) → i < length xs → j < length xs → P (get_or xs (exchange i j k) d) → P (get_or (swap xs i j) k d)
  at_swapped xs i j k d p q h = subst P (sym (swap_at xs i j k d p q)) h

module _ {X Y : Type 0} (P : X → Y → Type 0) where
  pub both_swapped : (xs : List X) (ys : List Y) (i j k : ℕ) (d : X) (e : Y) → i < length xs → j < length xs → i < length ys → j < length ys
      → P (get_or xs (exchange i j k) d) (get_or ys (exchange i j k) e) → P (get_or (swap xs i j) k d) (get_or (swap ys i j) k e)
  both_swapped xs ys i j k d e p q r s h =
      subst (λ x. P x (get_or (swap ys i j) k e)) (sym (swap_at xs i j k d p q)) (subst (P (get_or xs (exchange i j k) d)) (sym (swap_at ys i j k e r s)) h)

-- the other way
module _ {X : Type 0} (P : X → Type 0) where
  pub at_exchanged : (xs : List X) (i j k : ℕ) (d : X) → i < length xs → j < length xs → P (get_or xs k d) → P (get_or (swap xs i j) (exchange i j k) d)
  at_exchanged xs i j k d p q h = at_swapped P xs i j (exchange i j k) d p q (subst (λ n. P (get_or xs n d)) (sym (exchange_twice i j k)) h)

module _ {X Y : Type 0} (P : X → Y → Type 0) where
  pub both_exchanged : (xs : List X) (ys : List Y) (i j k : ℕ) (d : X) (e : Y) → i < length xs → j < length xs → i < length ys → j < length ys
      → P (get_or xs k d) (get_or ys k e) → P (get_or (swap xs i j) (exchange i j k) d) (get_or (swap ys i j) (exchange i j k) e)
  both_exchanged xs ys i j k d e p q r s h =
      both_swapped P xs ys i j (exchange i j k) d e p q r s (subst (λ n. P (get_or xs n d) (get_or ys n e)) (sym (exchange_twice i j k)) h)

-- ---- the places before both
module _ {X : Type 0} where
  pub take_swapped : (n : ℕ) (xs : List X) (i j : ℕ) → n ≤ i → n ≤ j → i < length xs → j < length xs → take n (swap xs i j) ≡ take n xs
  take_swapped n xs i j a b p q = same_lists (take n (swap xs i j)) (take n xs) (length-take n (swap xs i j) ∙ ap (min n) (length-swap xs i j) ∙ sym (length-take n xs)) (λ k d lt.
      let l : length (take n (swap xs i j)) ≡ min n (length (swap xs i j)) = length-take n (swap xs i j) in
      let below : k < n = omega arith in
      get_or-take n (swap xs i j) k d below ∙ swap_at xs i j k d p q ∙ ap (λ m. get_or xs m d) (exchange_before n i j k a b below) ∙ sym (get_or-take n xs k d below))
