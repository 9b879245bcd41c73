-- The rows whose values were read.
use Rattle.std.proofs.Common.{◌≡◌, ◌≤◌, ◌<◌, ◌+◌, ◌-◌, ◌==◌, ◌&&◌, min, ℕ, zero, suc, Bool, true, false, cond, List, [], ◌∷◌, ◌++◌, length, map, filter, take, count_by, Option, None, Some, refl, sym, ap, subst, ◌∙◌, arith, IsPermutation}
use Rattle.std.proofs.lemmas.Bool.Decides.{nat_tests}
use Rattle.std.proofs.lemmas.List.{take-map}
use Rattle.std.proofs.lemmas.List.Sums.{sum_by-cons}
use Rattle.std.proofs.lemmas.List.Sorted.{IsPermutation-refl, IsPermutation-trans, IsPermutation-cons, IsPermutation-append_left, IsPermutation-append_comm, length_permutation, sum_by-IsPermutation}
use Rattle.std.specs.List.{list_all, range_with_len}
use Rattle.std.specs.declared.ops.Range.{Range}
use Rattle.scan_values.specs.Arrays.{ArrayData}
use Rattle.scan_values.specs.Marked.{Marked}
use Rattle.scan_values.specs.Selections.{numbers, picked_rows, selects}
use Rattle.scan_values.specs.Val.{Val, is_clean, is_clean-marked, marked}
use Rattle.scan_values.specs.declared.selection.Selection.{Selection}
use Rattle.scan_segments.specs.Source.{Store}
use Rattle.scan_streams.specs.Grants.{HasRoom}
use Rattle.scan_streams.specs.Splits.{reach}
use Rattle.scan_streams.specs.Streams.{StreamData}
use Rattle.scan_readers.specs.Readers.{ReaderState, value_of}
use Rattle.scan_readers.specs.RowIdxData.{numbered_state}
use Rattle.scan_core.specs.BuilderData.{BuilderData, IsBuilder, conjuncts_in}
use Rattle.scan_core.specs.Given.{Rises, SplitsGiveWhatIsAsked, asked_rows, asked_values, passes, values_of}
use Rattle.scan_core.specs.Prepared.{IsPrepared}
use Rattle.scan_core.specs.RowRanges.{is_past}
use Rattle.scan_core.specs.ScanData.{ScanData, IsScan, splits_of}
use Rattle.scan_core.specs.SplitRanges.{common}
use Rattle.scan_core.specs.Streaming.{IsStreamOf, StreamsGiveTheFirstRows, first_of}
use Rattle.scan_collect.specs.Laws.{GivesRows, PicksFirst, count_within, rows_asked, up_to}
use Rattle.scan_collect.specs.Reads.{IsFresh, IsReadOf, values_given}
use Rattle.scan_collect.specs.Rows.{GivesFirst}
use Rattle.scan_collect.proofs.Alike.{along_permutation}
use Rattle.scan_collect.proofs.Joining.{length_first}
use Rattle.scan_collect.proofs.Meaning.{scan_gives}

-- ---- the rows of values in another order
module _ (value : ℕ → Marked) where
  -- whatever rows the first are the values of, the second are those of the same in another order
  abbrev Follows : List Marked → List Marked → Type 0
  Follows xs ys = (rows : List ℕ) → xs ≡ map value rows → (others : List ℕ) × IsPermutation rows others × (ys ≡ map value others)

  follows_same : (xs : List Marked) → Follows xs xs
  follows_same xs = λ rows e. (rows, IsPermutation-refl rows, e)

  follows_under : (x : Marked) (xs ys : List Marked) → Follows xs ys → (rows : List ℕ) → x ∷ xs ≡ map value rows → (others : List ℕ) × IsPermutation rows others × (x ∷ ys ≡ map value others)
  follows_under x xs ys h [] e = absurd cc
  follows_under x xs ys h (r ∷ rs) e =
      let all : x ∷ xs ≡ value r ∷ map value rs = e in
      let first : x ≡ value r = cc in
      let rest : xs ≡ map value rs = cc in
      let k = h rs rest in
      (r ∷ k.0, IsPermutation-cons r rs k.0 k.1, ap (λ (z : Marked). z ∷ ys) first ∙ ap (λ (zs : List Marked). value r ∷ zs) k.2)

  follows_turned : (x y : Marked) (xs : List Marked) (rows : List ℕ) → x ∷ y ∷ xs ≡ map value rows → (others : List ℕ) × IsPermutation rows others × (y ∷ x ∷ xs ≡ map value others)
  follows_turned x y xs [] e = absurd cc
  follows_turned x y xs (r ∷ []) e =
      let all : x ∷ y ∷ xs ≡ value r ∷ [] = e in
      let bad : y ∷ xs ≡ [] = cc in
      absurd cc
  follows_turned x y xs (r ∷ q ∷ rs) e =
      let all : x ∷ y ∷ xs ≡ value r ∷ value q ∷ map value rs = e in
      let first : x ≡ value r = cc in
      let second : y ≡ value q = cc in
      let rest : xs ≡ map value rs = cc in (
        q ∷ r ∷ rs,
        IsPermutation-append_left rs (r ∷ q ∷ []) (q ∷ r ∷ []) (IsPermutation-append_comm (r ∷ []) (q ∷ [])),
        ap (λ (z : Marked). z ∷ x ∷ xs) second ∙ ap (λ (z : Marked). value q ∷ z ∷ xs) first ∙ ap (λ (zs : List Marked). value q ∷ value r ∷ zs) rest,
      )

  follows_on : (xs ys zs : List Marked) → Follows xs ys → Follows ys zs → Follows xs zs
  follows_on xs ys zs h k = λ rows e.
      let a = h rows e in
      let b = k a.0 a.2 in
      (b.0, IsPermutation-trans rows a.0 b.0 a.1 b.1, b.2)

  follows : (xs ys : List Marked) → IsPermutation xs ys → Follows xs ys
  follows = along_permutation Follows follows_same follows_under follows_turned follows_on

  -- ---- the first of them
  first_values : (limit : Option ℕ) (rows : List ℕ) → first_of limit (map value rows) ≡ map value (up_to limit rows)
  first_values None rows = refl
  first_values (Some n) rows = take-map value n rows

  -- the rows of which these are the first values
  record Picked (ordered : Bool) (limit : Option ℕ) (asked : List ℕ) (given : List Marked) : Type 0 where
    pub rows : List ℕ
    pub first : PicksFirst ordered limit asked rows
    pub values : given ≡ map value rows

  picked : (ordered : Bool) (limit : Option ℕ) (asked : List ℕ) (given : List Marked) → GivesFirst ordered limit (map value asked) given → Picked ordered limit asked given
  picked true limit asked given h = record { rows = up_to limit asked; first = refl; values = h ∙ first_values limit asked }
  picked false limit asked given h =
      let k = follows (map value asked) h.0 h.1 asked refl in
      record { rows = up_to limit k.0; first = (k.0, k.1, refl); values = h.2 ∙ ap (first_of limit) k.2 ∙ first_values limit k.0 }

-- ---- how many they are
length_up_to : (limit : Option ℕ) (rows : List ℕ) → length (up_to limit rows) ≡ count_within limit (length rows)
length_up_to None rows = refl
length_up_to (Some n) rows = length_first n rows

picks_count : (ordered : Bool) (limit : Option ℕ) (asked rows : List ℕ) → PicksFirst ordered limit asked rows → length rows ≡ count_within limit (length asked)
picks_count true limit asked rows h = ap length h ∙ length_up_to limit asked
picks_count false limit asked rows h = ap length h.2 ∙ length_up_to limit h.0 ∙ ap (count_within limit) (length_permutation asked h.0 h.1)

-- ---- how often each is there
abbrev flag : Bool → ℕ
flag b = cond b 1 0

module _ (p : ℕ → Bool) where
  counts : (x : ℕ) (xs : List ℕ) → count_by p (x ∷ xs) ≡ flag (p x) + count_by p xs
  counts x xs = sum_by-cons (λ y. cond (p y) 1 0) x xs

  fewer_kept : (q : ℕ → Bool) (xs : List ℕ) → count_by p (filter q xs) ≤ count_by p xs
  fewer_kept q [] = omega arith
  fewer_kept q (x ∷ xs) = go (q x) (fewer_kept q xs)
    where
      go : (b : Bool) → count_by p (filter q xs) ≤ count_by p xs → count_by p (cond b (x ∷ filter q xs) (filter q xs)) ≤ count_by p (x ∷ xs)
      go true l =
          let here = counts x (filter q xs) in
          let there = counts x xs in
          omega (arith, l, here, there)
      go false l =
          let there = counts x xs in
          omega (arith, l, there)

  fewer_taken : (n : ℕ) (xs : List ℕ) → count_by p (take n xs) ≤ count_by p xs
  fewer_taken zero [] = omega arith
  fewer_taken zero (x ∷ xs) = let none : count_by p (take zero (x ∷ xs)) ≡ 0 = refl in omega (arith, none)
  fewer_taken (suc n) [] = omega arith
  fewer_taken (suc n) (x ∷ xs) =
      let rest = fewer_taken n xs in
      let here = counts x (take n xs) in
      let there = counts x xs in
      omega (arith, rest, here, there)

  fewer_up_to : (limit : Option ℕ) (xs : List ℕ) → count_by p (up_to limit xs) ≤ count_by p xs
  fewer_up_to None xs = omega arith
  fewer_up_to (Some n) xs = fewer_taken n xs

  picks_fewer : (ordered : Bool) (limit : Option ℕ) (asked rows : List ℕ) → PicksFirst ordered limit asked rows → count_by p rows ≤ count_by p asked
  picks_fewer true limit asked rows h = subst (λ (ks : List ℕ). count_by p ks ≤ count_by p asked) (sym h) (fewer_up_to limit asked)
  picks_fewer false limit asked rows h =
      let few : count_by p rows ≤ count_by p h.0 = subst (λ (ks : List ℕ). count_by p ks ≤ count_by p h.0) (sym h.2) (fewer_up_to limit h.0) in
      let same : count_by p h.0 ≡ count_by p asked = sum_by-IsPermutation (λ y. cond (p y) 1 0) asked h.0 h.1 in
      omega (arith, few, same)

-- a number stands once among rising ones
one_step : (k a : ℕ) (rest : List ℕ) → (k < a + 1 → count_by (λ i. i == k) rest ≡ 0) × (count_by (λ i. i == k) rest ≤ 1)
    → (k < a → count_by (λ i. i == k) (a ∷ rest) ≡ 0) × (count_by (λ i. i == k) (a ∷ rest) ≤ 1)
one_step k a rest h = go (a == k) refl
  where
    go : (b : Bool) → (a == k) ≡ b → (k < a → count_by (λ i. i == k) (a ∷ rest) ≡ 0) × (count_by (λ i. i == k) (a ∷ rest) ≤ 1)
    go true e =
        let same : a ≡ k = grind (arith, nat_tests, e) in
        let none = h.0 (omega (arith, same)) in
        let all : count_by (λ i. i == k) (a ∷ rest) ≡ flag (a == k) + count_by (λ i. i == k) rest = counts (λ i. i == k) a rest in
        let one : flag (a == k) ≡ 1 = ap flag e in
        (λ l. absurd (omega (arith, l, same)), omega (arith, none, all, one))
    go false e =
        let all : count_by (λ i. i == k) (a ∷ rest) ≡ flag (a == k) + count_by (λ i. i == k) rest = counts (λ i. i == k) a rest in
        let none : flag (a == k) ≡ 0 = ap flag e in
        let few = h.1 in
        (λ l. let zero_rest = h.0 (omega (arith, l)) in omega (arith, all, none, zero_rest), omega (arith, all, none, few))

one_of : (k a n : ℕ) → (k < a → count_by (λ i. i == k) (range_with_len a n) ≡ 0) × (count_by (λ i. i == k) (range_with_len a n) ≤ 1)
one_of k a zero = (λ l. refl, omega arith)
one_of k a (suc n) = one_step k a (range_with_len (a + 1) n) (one_of k (a + 1) n)

picked_once : (k : ℕ) (o : Option (Range ℕ)) (s : Selection) (n : ℕ) → count_by (λ i. i == k) (picked_rows o s n) ≤ 1
picked_once k None s n =
    let few : count_by (λ i. i == k) (filter (selects s) (numbers 0 n)) ≤ count_by (λ i. i == k) (numbers 0 n) = fewer_kept (λ i. i == k) (selects s) (numbers 0 n) in
    let one : count_by (λ i. i == k) (numbers 0 n) ≤ 1 = (one_of k 0 (n - 0)).1 in
    omega (arith, few, one)
picked_once k (Some r) s n =
    let all = numbers r.start (min r.end n) in
    let few : count_by (λ i. i == k) (filter (selects s) all) ≤ count_by (λ i. i == k) all = fewer_kept (λ i. i == k) (selects s) all in
    let one : count_by (λ i. i == k) all ≤ 1 = (one_of k r.start (min r.end n - r.start)).1 in
    omega (arith, few, one)

-- ---- none is damaged
both_true : (a b : Bool) → a ≡ true → b ≡ true → (a && b) ≡ true
both_true true b h k = k
both_true false b h k = absurd cc

clean_marked : (vs : List Val) (ms : List Marked) → list_all is_clean ms ≡ true → list_all is_clean (map marked vs ++ ms) ≡ true
clean_marked [] ms h = h
clean_marked (v ∷ vs) ms h = both_true (is_clean (marked v)) (list_all is_clean (map marked vs ++ ms)) (is_clean-marked v) (clean_marked vs ms h)

clean_given : (arrays : List ArrayData) → list_all is_clean (values_given arrays) ≡ true
clean_given [] = refl
clean_given (a ∷ arrays) = clean_marked a.items (values_given arrays) (clean_given arrays)

-- ---- the law
module _ {R M : Type 0} (state : ReaderState) (b : BuilderData R M) (r : Option (Range ℕ)) (store : Store) where
  asked_once : (k : ℕ) → count_by (λ i. i == k) (rows_asked state b r store) ≤ 1
  asked_once k =
      let all = asked_rows b state.rows r in
      let few : count_by (λ i. i == k) (rows_asked state b r store) ≤ count_by (λ i. i == k) all = fewer_kept (λ i. i == k) (passes (numbered_state b.offset state) (conjuncts_in b.filter) store) all in
      let one : count_by (λ i. i == k) all ≤ 1 = picked_once k (common b.range r) b.selection state.rows in
      omega (arith, few, one)

  gives_rows : (arrays : List ArrayData) → GivesFirst b.ordered b.limit (asked_values state b r store) (values_given arrays)
      → GivesRows b.ordered b.limit (rows_asked state b r store) (value_of (numbered_state b.offset state) b.projection store) (values_given arrays)
  gives_rows arrays h =
      let asked = rows_asked state b r store in
      let v = value_of (numbered_state b.offset state) b.projection store in
      let k : Picked v b.ordered b.limit asked (values_given arrays) = picked v b.ordered b.limit asked (values_given arrays) h in
      record {
        rows = k.rows;
        first = k.first;
        once = λ i. let few = picks_fewer (λ j. j == i) b.ordered b.limit asked k.rows k.first in let one = asked_once i in omega (arith, few, one);
        count = picks_count b.ordered b.limit asked k.rows k.first;
        values = k.values;
        clean = clean_given arrays;
      }

pub reads_give : {R M : Type 0} → StreamsGiveTheFirstRows M → SplitsGiveWhatIsAsked R M
    → (state : ReaderState) (b : BuilderData R M) (s : ScanData M) (r : Option (Range ℕ)) (t : StreamData M) (store : Store) (arrays : List ArrayData)
    → IsBuilder state b.projection b.filter b.natural → Rises b.selection → IsPrepared state b s → IsScan s → is_past r state.rows ≡ false
    → IsStreamOf s r t → HasRoom (t.feed).seat (reach (t.feed).splits) → (IsFresh store t.feed → IsReadOf store t.feed (values_given arrays))
    → GivesRows b.ordered b.limit (rows_asked state b r store) (value_of (numbered_state b.offset state) b.projection store) (values_given arrays)
reads_give streams splits state b s r t store arrays builder rises is scan past made room read =
    let given = values_given arrays in
    let of_scan : GivesFirst s.ordered s.limit (values_of (splits_of s r) store) given = scan_gives s r t store given streams made room read in
    let of_rows : GivesFirst s.ordered s.limit (asked_values state b r store) given = subst (λ (xs : List Marked). GivesFirst s.ordered s.limit xs given) (splits state b s r builder rises is scan past store) of_scan in
    let of_builder : GivesFirst b.ordered b.limit (asked_values state b r store) given = subst (λ (z : Bool × Option ℕ). GivesFirst z.0 z.1 (asked_values state b r store) given) (λ i. (is.ordered i, is.limit i)) of_rows in
    gives_rows state b r store arrays of_builder

-- ---- worked rows
pub turned : IsPermutation {X = ℕ} (3 ∷ 5 ∷ 8 ∷ []) (8 ∷ 5 ∷ 3 ∷ [])
turned = record { moves = (0, 2) ∷ []; below = (omega arith, omega arith, tt); is = refl }
