-- The answer of a scan of files that stand at other places, by the files.
use Rattle.std.proofs.Common.{◌≡◌, ◌⊎◌, ℕ, zero, suc, ◌+◌, ◌<◌, ◌≤◌, List, [], ◌∷◌, ◌++◌, length, map, take, get_or, Bool, true, false, not, ◌&&◌, ◌||◌, eqb, All, Option, IsPermutation, inl, inr, refl, sym, ap, ◌∙◌, subst, arith}
use Rattle.std.specs.List.{flat_map, range_with_len}
use Rattle.std.specs.List.Sorted.{SwapsInRange}
use Rattle.std.proofs.lemmas.Bool.Decides.{nat_tests}
use Rattle.std.proofs.lemmas.List.{length-map, map-append, take_all, same_lists}
use Rattle.std.proofs.lemmas.List.FromFn.{length-range_with_len, get_or-range_with_len}
use Rattle.std.proofs.lemmas.List.Sorted.{IsPermutation-sym, IsPermutation-map}
use Rattle.scan_values.specs.Selections.{is_among}
use Rattle.scan_splits.specs.Wanted.{no_repeats}
use Rattle.scan_drive.specs.Chunks.{given, HasRow, Fits}
use Rattle.scan_drive.specs.Drivings.{GivesBefore}
use Rattle.scan_drive.specs.Files.{Group, grouped, Told, told_at, untold, part_groups, answer, answer_from, count}
use Rattle.scan_drive.specs.Grants.{AreFronts, AreSome, AreGiven}
use Rattle.scan_drive.specs.Line.{exchange, exchanged, placed_by, relabelled, renamed, answer_in, GivesSome}
use Rattle.scan_drive.specs.declared.delivery.Chunk.{Chunk}
use Rattle.scan_drive.proofs.Handing.{le_or_lt, among_head, among_later}
use Rattle.scan_drive.proofs.Exchanging.{exchange_twice, exchanged_at, length_exchanged, placed_below, placed_behind, permutation_exchanged}
use Rattle.scan_drive.proofs.ExchangedGroups.{relabel_append, relabel_grouped, relabel_part}
use Rattle.scan_drive.proofs.Same.{joined_alike, same_any, given_same, rows_limited}

-- ---- numbers of files
pub placed_once : (ss : List (ℕ × ℕ)) (x y : ℕ) → placed_by ss x ≡ placed_by ss y → x ≡ y
placed_once [] x y e = e
placed_once (s ∷ ss) x y e = placed_once ss x y (sym (exchange_twice s.0 s.1 (placed_by ss x)) ∙ ap (exchange s.0 s.1) e ∙ exchange_twice s.0 s.1 (placed_by ss y))

-- the order list has the file of each place
pub order_at : (ss : List (ℕ × ℕ)) (n k d : ℕ) → SwapsInRange n ss → k < n → get_or (exchanged ss (range_with_len 0 n)) k d ≡ placed_by ss k
order_at ss n k d r lt =
    exchanged_at ss (range_with_len 0 n) k d (subst (λ m. SwapsInRange m ss) (sym (length-range_with_len 0 n)) r)
    ∙ get_or-range_with_len 0 n (placed_by ss k) d (placed_below n ss k r lt)
    ∙ (let z : 0 + placed_by ss k ≡ placed_by ss k = omega arith in z)

at_range : (f : ℕ → ℕ) (a n k d : ℕ) → k < n → get_or (map f (range_with_len a n)) k d ≡ f (a + k)
at_range f a zero k d lt = absurd (omega arith)
at_range f a (suc n) zero d lt = ap f (let z : a ≡ a + 0 = omega arith in z)
at_range f a (suc n) (suc k) d lt = at_range f (a + 1) n k d (omega arith) ∙ ap f (let z : a + 1 + k ≡ a + suc k = omega arith in z)

pub order_is : (ss : List (ℕ × ℕ)) (n : ℕ) → SwapsInRange n ss → exchanged ss (range_with_len 0 n) ≡ map (placed_by ss) (range_with_len 0 n)
order_is ss n r =
    same_lists (exchanged ss (range_with_len 0 n)) (map (placed_by ss) (range_with_len 0 n)) (length_exchanged ss (range_with_len 0 n) ∙ sym (length-map (range_with_len 0 n) (placed_by ss))) (λ k d lt.
    let long : length (exchanged ss (range_with_len 0 n)) ≡ n = length_exchanged ss (range_with_len 0 n) ∙ length-range_with_len 0 n in
    let below : k < n = omega arith in
    order_at ss n k d r below ∙ sym (at_range (placed_by ss) 0 n k d below ∙ ap (placed_by ss) (let z : 0 + k ≡ k = omega arith in z)))

pub order_permutes : (ss : List (ℕ × ℕ)) (n : ℕ) → SwapsInRange n ss → IsPermutation (map (placed_by ss) (range_with_len 0 n)) (range_with_len 0 n)
order_permutes ss n r =
    subst (λ xs. IsPermutation xs (range_with_len 0 n)) (order_is ss n r)
    (IsPermutation-sym (range_with_len 0 n) (exchanged ss (range_with_len 0 n)) (permutation_exchanged ss (range_with_len 0 n) (subst (λ m. SwapsInRange m ss) (sym (length-range_with_len 0 n)) r)))

-- ---- groups by place, and by file
module _ {I : Type 0} where
  nothing : (place n : ℕ) → [] ≡ answer_from {I = I} place (take n [])
  nothing place zero = refl
  nothing place (suc n) = refl

  -- the groups of the first files, by their places
  answer_by : (tale : ℕ → Told I) (place n : ℕ) (ts : List (Told I)) → ((k : ℕ) → told_at ts k ≡ tale (place + k)) → answer_from place (take n ts) ≡ flat_map (λ k. part_groups k (tale k)) (range_with_len place n)
  answer_by tale place zero ts h = refl
  answer_by tale place (suc n) [] h =
      let z : place + 0 ≡ place = omega arith in
      let e : untold ≡ tale place = h 0 ∙ ap tale z in
      let later = answer_by tale (place + 1) n [] (λ k. h (suc k) ∙ ap tale (let y : place + suc k ≡ place + 1 + k = omega arith in y)) in
      nothing (place + 1) n ∙ later ∙ ap (λ t. part_groups place t ++ flat_map (λ k. part_groups k (tale k)) (range_with_len (place + 1) n)) e
  answer_by tale place (suc n) (t ∷ ts) h =
      let z : place + 0 ≡ place = omega arith in
      let e : t ≡ tale place = h 0 ∙ ap tale z in
      let later = answer_by tale (place + 1) n ts (λ k. h (suc k) ∙ ap tale (let y : place + suc k ≡ place + 1 + k = omega arith in y)) in
      λ i. part_groups place (e i) ++ later i

  pub answer_places : (tale : List (Told I)) (n : ℕ) → answer (take n tale) ≡ answer_in (range_with_len 0 n) tale
  answer_places tale n = answer_by (told_at tale) 0 n tale (λ k. ap (told_at tale) (let z : k ≡ 0 + k = omega arith in z))

  relabel_places : (f : ℕ → ℕ) (tale tale' : List (Told I)) (ks : List ℕ) → ((k : ℕ) → told_at tale' k ≡ told_at tale (f k)) → map (relabelled f) (answer_in ks tale') ≡ answer_in (map f ks) tale
  relabel_places f tale tale' [] h = refl
  relabel_places f tale tale' (k ∷ ks) h =
      let here : map (relabelled f) (part_groups k (told_at tale' k)) ≡ part_groups (f k) (told_at tale (f k)) = relabel_part f k (told_at tale' k).part (told_at tale' k).store ∙ ap (part_groups (f k)) (h k) in
      let later = relabel_places f tale tale' ks h in
      relabel_append f (part_groups k (told_at tale' k)) (answer_in ks tale') ∙ (λ i. here i ++ later i)

  module _ (ss : List (ℕ × ℕ)) (tale : List (Told I)) (r : SwapsInRange (length tale) ss) where
    -- what the first places have, by the files there
    pub relabel_front : (n : ℕ) → map (relabelled (placed_by ss)) (answer (take n (exchanged ss tale))) ≡ answer_in (map (placed_by ss) (range_with_len 0 n)) tale
    relabel_front n =
        ap (map (relabelled (placed_by ss))) (answer_places (exchanged ss tale) n)
        ∙ relabel_places (placed_by ss) tale (exchanged ss tale) (range_with_len 0 n) (λ k. exchanged_at ss tale k untold r)

    pub answer_relabel : map (relabelled (placed_by ss)) (answer (exchanged ss tale)) ≡ answer_in (map (placed_by ss) (range_with_len 0 (length tale))) tale
    answer_relabel =
        let l = length_exchanged ss tale in
        ap (λ ts. map (relabelled (placed_by ss)) (answer ts)) (sym (take_all (length tale) (exchanged ss tale) (omega arith))) ∙ relabel_front (length tale)

    -- the groups of all places, by the files there, are those of the files
    pub answer_alike : IsPermutation (map (relabelled (placed_by ss)) (answer (exchanged ss tale))) (answer tale)
    answer_alike =
        let places = range_with_len 0 (length tale) in
        let here : answer_in places tale ≡ answer tale = sym (answer_places tale (length tale)) ∙ ap answer (take_all (length tale) tale (omega arith)) in
        subst (λ gs. IsPermutation gs (answer tale)) (sym answer_relabel) (subst (IsPermutation (answer_in (map (placed_by ss) places) tale)) here
        (joined_alike (λ k. part_groups k (told_at tale k)) (map (placed_by ss) places) places (order_permutes ss (length tale) r)))

-- ---- groups by the files of their places
module _ {I : Type 0} (f : ℕ → ℕ) where
  pub count_relabel : (gs : List (Group I)) → count (map (relabelled f) gs) ≡ count gs
  count_relabel [] = refl
  count_relabel (g ∷ gs) = ap (λ n. length g.1 + n) (count_relabel gs)

  fronts_relabel : (gs ws : List (Group I)) → AreFronts gs ws → AreFronts (map (relabelled f) gs) (map (relabelled f) ws)
  fronts_relabel [] [] h = tt
  fronts_relabel [] (w ∷ ws) h = absurd h
  fronts_relabel (g ∷ gs) [] h = absurd h
  fronts_relabel (g ∷ gs) (w ∷ ws) h = (record { file = ap f h.0.file; most = h.0.most; rows = h.0.rows }, fronts_relabel gs ws h.1)

  -- the first rows of some of them
  some_relabel : (limit : Option ℕ) (all gs : List (Group I)) → AreSome limit all gs → AreSome limit (map (relabelled f) all) (map (relabelled f) gs)
  some_relabel limit all gs h = record {
    whole = map (relabelled f) h.whole;
    others = map (relabelled f) h.others;
    among = subst (λ xs. IsPermutation xs (map (relabelled f) all)) (map-append (relabelled f) h.whole h.others) (IsPermutation-map (relabelled f) (h.whole ++ h.others) all h.among);
    fronts = fronts_relabel gs h.whole h.fronts;
    rows = count_relabel gs ∙ h.rows ∙ rows_limited limit all (map (relabelled f) all) (sym (count_relabel all));
    free = λ none. IsPermutation-map (relabelled f) gs all (h.free none);
  }

-- ---- chunks
module _ {R I : Type 0} (items : R → List I) (f : ℕ → ℕ) where
  pub given_renamed : (chunks : List (Chunk R)) → given items (map (renamed f) chunks) ≡ map (relabelled f) (given items chunks)
  given_renamed [] = refl
  given_renamed (c ∷ cs) =
      let here = sym (relabel_grouped f c.file (items c.rows)) in
      let later = given_renamed cs in
      (λ i. here i ++ later i) ∙ sym (relabel_append f (grouped c.file (items c.rows)) (given items cs))

  pub rows_renamed : (chunks : List (Chunk R)) → All (HasRow items) chunks → All (HasRow items) (map (renamed f) chunks)
  rows_renamed [] h k d lt = absurd (omega arith)
  rows_renamed (c ∷ cs) h zero d lt = h 0 c (omega arith)
  rows_renamed (c ∷ cs) h (suc k) d lt = rows_renamed cs (λ n x nt. h (suc n) x (omega arith)) k d (omega arith)

-- ---- what is given of places in no order, by the files
module _ {R I : Type 0} (items : R → List I) (limit : Option ℕ) (tale : List (Told I)) where
  pub given_placed : (ss : List (ℕ × ℕ)) (chunks : List (Chunk R)) → SwapsInRange (length tale) ss → AreGiven false limit (answer (exchanged ss tale)) (given items chunks) → AreGiven false limit (answer tale) (given items (map (renamed (placed_by ss)) chunks))
  given_placed ss chunks r h =
      subst (AreGiven false limit (answer tale)) (sym (given_renamed items (placed_by ss) chunks))
      (given_same false limit (map (relabelled (placed_by ss)) (answer (exchanged ss tale))) (answer tale) (map (relabelled (placed_by ss)) (given items chunks)) (answer_alike ss tale r)
      (some_relabel (placed_by ss) limit (answer (exchanged ss tale)) (given items chunks) h))

-- ---- so many files up to a place
among_cases : (x : ℕ) (xs : List ℕ) (y : ℕ) → is_among (x ∷ xs) y ≡ true → (x ≡ y) ⊎ (is_among xs y ≡ true)
among_cases x xs y h = go (eqb x y) refl h
  where
    go : (b : Bool) → eqb x y ≡ b → (b || is_among xs y) ≡ true → (x ≡ y) ⊎ (is_among xs y ≡ true)
    go true e h = inl (grind (arith, nat_tests))
    go false e h = inr h

-- each of the numbers of a range is in it
map_range_within : (P : ℕ → Type 0) (f : ℕ → ℕ) (a n : ℕ) → ((k : ℕ) → a ≤ k → k < a + n → P (f k)) → (p : ℕ) → is_among (map f (range_with_len a n)) p ≡ true → P p
map_range_within P f a zero h p on = absurd cc
map_range_within P f a (suc n) h p on = go (among_cases (f a) (map f (range_with_len (a + 1) n)) p on) (map_range_within P f (a + 1) n (λ k le lt. h k (omega arith) (omega arith)) p)
  where
    go : (f a ≡ p) ⊎ (is_among (map f (range_with_len (a + 1) n)) p ≡ true) → (is_among (map f (range_with_len (a + 1) n)) p ≡ true → P p) → P p
    go (inl e) later = subst P e (h a (omega arith) (omega arith))
    go (inr m) later = later m

map_range_once : (f : ℕ → ℕ) (a n : ℕ) → ((x y : ℕ) → f x ≡ f y → x ≡ y) → no_repeats (map f (range_with_len a n)) ≡ true
map_range_once f a zero h = refl
map_range_once f a (suc n) h = go (is_among (map f (range_with_len (a + 1) n)) (f a)) refl (map_range_once f (a + 1) n h)
  where
    go : (b : Bool) → is_among (map f (range_with_len (a + 1) n)) (f a) ≡ b → no_repeats (map f (range_with_len (a + 1) n)) ≡ true → (not b && no_repeats (map f (range_with_len (a + 1) n))) ≡ true
    go true e later = absurd (map_range_within (λ p. p ≡ f a → ⊥) f (a + 1) n (λ k le lt same. (let z : k ≡ a = h k a same in omega arith)) (f a) e refl)
    go false e later = later

map_within : (P Q : ℕ → Type 0) (f : ℕ → ℕ) (ps : List ℕ) → ((p : ℕ) → P p → Q (f p)) → ((p : ℕ) → is_among ps p ≡ true → P p) → (q : ℕ) → is_among (map f ps) q ≡ true → Q q
map_within P Q f [] h g q m = absurd cc
map_within P Q f (p ∷ ps) h g q m = go (among_cases (f p) (map f ps) q m) (map_within P Q f ps h (λ r n. g r (among_later p r ps n)) q)
  where
    go : (f p ≡ q) ⊎ (is_among (map f ps) q ≡ true) → (is_among (map f ps) q ≡ true → Q q) → Q q
    go (inl e) ih = subst Q e (h p (g p (among_head p ps)))
    go (inr later) ih = ih later

map_once : (f : ℕ → ℕ) (ps : List ℕ) → ((x y : ℕ) → f x ≡ f y → x ≡ y) → no_repeats ps ≡ true → no_repeats (map f ps) ≡ true
map_once f [] h o = refl
map_once f (p ∷ ps) h o = go (is_among ps p) refl (is_among (map f ps) (f p)) refl (map_once f ps h)
  where
    apart : is_among ps p ≡ false → (q : ℕ) → is_among ps q ≡ true → f q ≡ f p → ⊥
    apart off q m e = let bad = sym off ∙ sym (ap (is_among ps) (h q p e)) ∙ m in absurd cc

    go : (b : Bool) → is_among ps p ≡ b → (c : Bool) → is_among (map f ps) (f p) ≡ c → (no_repeats ps ≡ true → no_repeats (map f ps) ≡ true) → no_repeats (map f (p ∷ ps)) ≡ true
    go true e c i ih = let bad = sym o ∙ ap (λ b. not b && no_repeats ps) e in absurd cc
    go false e true i ih = absurd (map_within (λ q. f q ≡ f p → ⊥) (λ q. q ≡ f p → ⊥) f ps (λ q g. g) (apart e) (f p) i refl)
    go false e false i ih = ap (λ b. not b && no_repeats (map f ps)) i ∙ ih (sym (ap (λ b. not b && no_repeats ps) e) ∙ o)

module _ {R I : Type 0} (items : R → List I) (limit : Option ℕ) (tale : List (Told I)) (log : List (ℕ × ℕ)) (m k n : ℕ) where
  abbrev f : ℕ → ℕ
  f = placed_by log

  near : SwapsInRange m log → m ≤ k → n ≤ k → (q : ℕ) → q < 0 + n → f q ≤ k
  near w past le q lt = go (le_or_lt m q)
    where
      go : (m ≤ q) ⊎ (q < m) → f q ≤ k
      go (inl behind) = let z = placed_behind m log q w behind in omega (arith, z, lt, le)
      go (inr before) = let z = placed_below m log q w before in omega (arith, z, past)

  pub gives_some : (b : Bool) → SwapsInRange (length tale) log → SwapsInRange m log → m ≤ k → n ≤ k → GivesBefore items b limit (exchanged log tale) n → GivesSome items limit tale k n
  gives_some b r w past le g = record {
    places = map f (range_with_len 0 n);
    once = map_range_once f 0 n (placed_once log);
    within = map_range_within (λ p. p ≤ k) f 0 n (λ q from lt. near w past le q lt);
    as_many = length-map (range_with_len 0 n) f ∙ length-range_with_len 0 n;
    chunks = map (renamed f) g.chunks;
    more = map (relabelled f) g.more;
    groups = subst (λ gs. IsPermutation gs (answer_in (map f (range_with_len 0 n)) tale ++ map (relabelled f) g.more)) (sym (given_renamed items f g.chunks))
        (subst (IsPermutation (map (relabelled f) (given items g.chunks)))
        (relabel_append f (answer (take n (exchanged log tale))) g.more ∙ ap (λ gs. gs ++ map (relabelled f) g.more) (relabel_front log tale r n))
        (IsPermutation-map (relabelled f) (given items g.chunks) (answer (take n (exchanged log tale)) ++ g.more) (same_any b (given items g.chunks) (answer (take n (exchanged log tale)) ++ g.more) g.groups)));
    room = subst (λ c. Fits c limit) (sym (ap count (given_renamed items f g.chunks) ∙ count_relabel f (given items g.chunks))) g.room;
  }

  -- of so many of the places up to one, by the files there
  pub some_placed : SwapsInRange (length tale) log → SwapsInRange m log → m ≤ k → GivesSome items limit (exchanged log tale) k n → GivesSome items limit tale k n
  some_placed r w past g = record {
    places = map f g.places;
    once = map_once f g.places (placed_once log) g.once;
    within = map_within (λ p. p ≤ k) (λ p. p ≤ k) f g.places up_to g.within;
    as_many = length-map g.places f ∙ g.as_many;
    chunks = map (renamed f) g.chunks;
    more = map (relabelled f) g.more;
    groups = subst (λ gs. IsPermutation gs (answer_in (map f g.places) tale ++ map (relabelled f) g.more)) (sym (given_renamed items f g.chunks))
        (subst (IsPermutation (map (relabelled f) (given items g.chunks)))
        (relabel_append f (answer_in g.places (exchanged log tale)) g.more ∙ ap (λ gs. gs ++ map (relabelled f) g.more) (relabel_places f tale (exchanged log tale) g.places (λ j. exchanged_at log tale j untold r)))
        (IsPermutation-map (relabelled f) (given items g.chunks) (answer_in g.places (exchanged log tale) ++ g.more) g.groups));
    room = subst (λ c. Fits c limit) (sym (ap count (given_renamed items f g.chunks) ∙ count_relabel f (given items g.chunks))) g.room;
  }
    where
      up_to : (p : ℕ) → p ≤ k → f p ≤ k
      up_to p le = go (le_or_lt m p)
        where
          go : (m ≤ p) ⊎ (p < m) → f p ≤ k
          go (inl behind) = let z = placed_behind m log p w behind in omega (arith, z, le)
          go (inr before) = let z = placed_below m log p w before in omega (arith, z, past)
