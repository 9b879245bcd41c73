-- What a limit that is taken before anything is read leaves of the values.
use Rattle.std.proofs.Common.{◌≡◌, ◌≤◌, ◌<◌, ◌+◌, ◌-◌, ◌==◌, ◌++◌, ℕ, zero, suc, Bool, true, false, cond, not, List, [], ◌∷◌, length, map, take, flat_map, nat_le, if◌then◌else◌, Option, Some, None, refl, ap, sym, subst, ◌∙◌, arith}
use Rattle.std.proofs.lemmas.Bool.Decides.{nat_tests}
use Rattle.std.proofs.lemmas.List.{append-nil, take-append-le, take-map, length-map}
use Rattle.std.proofs.lemmas.List.Sums.{length-filter}
use Rattle.std.proofs.lemmas.List.Concat.{flat_map-cons}
use Rattle.std.proofs.Math.Seq.{take-append-add}
use Rattle.std.specs.declared.ops.Range.{Range}
use Rattle.scan_values.specs.Marked.{Marked}
use Rattle.scan_values.specs.Masks.{limited}
use Rattle.scan_values.specs.Selections.{numbers, row_count, row_mask, selects}
use Rattle.scan_values.specs.declared.selection.Selection.{Selection}
use Rattle.scan_segments.specs.Source.{Store}
use Rattle.scan_plans.specs.Futures.{FutureData, items_of}
use Rattle.scan_plans.specs.Meaning.{true_rows, value_at}
use Rattle.scan_plans.specs.PlanData.{PlanData}
use Rattle.scan_streams.specs.Plans.{PlansData, is_some_plan, split_data}
use Rattle.scan_streams.specs.Queues.{at_most, queued}
use Rattle.scan_core.specs.Given.{values_of}
use Rattle.scan_core.specs.RowRanges.{narrowed}
use Rattle.scan_core.specs.ScanData.{ScanData, array_of, scan_ranges, split_of}
use Rattle.scan_core.proofs.Giving.{mask_rows}
use Rattle.scan_core.proofs.Streaming.{first_rows-none}
use Rattle.scan_core.specs.Streaming.{split_rows, cut_to, first_rows, all_rows, rows_within, limit_if, limit_before, first_of, values_in, StreamsGiveTheFirstRows}

take_none : {A : Type 0} (n : ℕ) → take {A = A} n [] ≡ []
take_none zero = refl
take_none (suc n) = refl

-- ---- the true rows of a mask
limited_rows : (n k : ℕ) (bits : List Bool) → true_rows k (limited n bits) ≡ take n (true_rows k bits)
limited_rows n k [] = sym (take_none n)
limited_rows n k (false ∷ bits) = limited_rows n (k + 1) bits
limited_rows zero k (true ∷ bits) = limited_rows zero (k + 1) bits
limited_rows (suc n) k (true ∷ bits) = ap (λ is. k ∷ is) (limited_rows n (k + 1) bits)

count_picked : (s : Selection) (r : Range ℕ) → length (true_rows r.start (row_mask s r)) ≡ row_count s r
count_picked s r = ap length (mask_rows (selects s) r.start (r.end - r.start)) ∙ length-filter (selects s) (numbers r.start r.end)

-- ---- splits without conjuncts give the values at the true rows
plain_items : (p : PlansData) (k : ℕ) (bits : List Bool) (store : Store) → p.conjuncts ≡ [] → items_of (split_data p k bits) store ≡ map (value_at (p.projection).tree store) (true_rows k bits)
plain_items p k bits store e = rw e refl

module _ {M : Type 0} (s : ScanData M) (store : Store) where
  all_same : (rs : List (Range ℕ)) → values_in (queued s.plans s.selection (all_rows (map (narrowed s.selection) rs))) store ≡ values_of (map (split_of s) rs) store
  all_same [] = refl
  all_same (r ∷ rs) =
      flat_map-cons (λ f. items_of f store) (array_of s r) (queued s.plans s.selection (all_rows (map (narrowed s.selection) rs)))
      ∙ ap (λ vs. items_of (array_of s r) store ++ vs) (all_same rs)
      ∙ sym (flat_map-cons (λ f. items_of f.future store) (split_of s r) (map (split_of s) rs))

  -- the first so many values, where a split has some of them or is followed by others
  last_split : (n : ℕ) (xs rest : List Marked) → n ≤ length xs → take n xs ++ [] ≡ take n (xs ++ rest)
  last_split n xs rest l = append-nil (take n xs) ∙ sym (take-append-le n xs rest l)

  next_split : (n : ℕ) (xs rest : List Marked) → length xs ≤ n → xs ++ take (n - length xs) rest ≡ take n (xs ++ rest)
  next_split n xs rest l =
      let sum : length xs + (n - length xs) ≡ n = omega (arith, l) in
      sym (take-append-add xs rest (n - length xs)) ∙ ap (λ k. take k (xs ++ rest)) sum

  module _ (plain : (s.plans).conjuncts ≡ []) where
    abbrev rows_of_split : ℕ → List Bool → List Marked
    rows_of_split k bits = map (value_at ((s.plans).projection).tree store) (true_rows k bits)

    split_is : (r : Range ℕ) → items_of (array_of s r) store ≡ rows_of_split (narrowed s.selection r).start (row_mask s.selection (narrowed s.selection r))
    split_is r = plain_items s.plans (narrowed s.selection r).start (row_mask s.selection (narrowed s.selection r)) store plain

    split_long : (r : Range ℕ) → length (items_of (array_of s r) store) ≡ row_count s.selection (narrowed s.selection r)
    split_long r =
        let picked = narrowed s.selection r in
        ap length (split_is r) ∙ length-map (true_rows picked.start (row_mask s.selection picked)) (value_at ((s.plans).projection).tree store) ∙ count_picked s.selection picked

    cut_is : (n : ℕ) (r : Range ℕ) → items_of (split_data s.plans (narrowed s.selection r).start (limited n (row_mask s.selection (narrowed s.selection r)))) store ≡ take n (items_of (array_of s r) store)
    cut_is n r =
        let picked = narrowed s.selection r in
        let bits = row_mask s.selection picked in
        let v = value_at ((s.plans).projection).tree store in
        plain_items s.plans picked.start (limited n bits) store plain
        ∙ ap (map v) (limited_rows n picked.start bits)
        ∙ sym (take-map v n (true_rows picked.start bits))
        ∙ ap (take n) (sym (split_is r))

    abbrev First : ℕ → List (Range ℕ) → List Marked
    First n rs = values_in (queued s.plans s.selection (first_rows s.selection n (map (narrowed s.selection) rs))) store

    none_first : (n : ℕ) (rs : List (Range ℕ)) → n ≡ 0 → First n rs ≡ []
    none_first n rs e = ap (λ xs. values_in (queued s.plans s.selection xs) store) (first_rows-none s.selection n (map (narrowed s.selection) rs) e)

    first_same : (n : ℕ) (rs : List (Range ℕ)) → First n rs ≡ take n (values_of (map (split_of s) rs) store)
    first_same n [] = sym (take_none n)
    first_same n (r ∷ rs) = by_limit (n == 0) refl (first_same (n - row_count s.selection (narrowed s.selection r)) rs)
      where
        picked : Range ℕ
        picked = narrowed s.selection r

        count : ℕ
        count = row_count s.selection picked

        rest : List Marked
        rest = values_of (map (split_of s) rs) store

        parts : values_of (map (split_of s) (r ∷ rs)) store ≡ items_of (array_of s r) store ++ rest
        parts = flat_map-cons (λ f. items_of f.future store) (split_of s r) (map (split_of s) rs)

        cut : List FutureData
        cut = queued s.plans s.selection (first_rows s.selection (n - count) (map (narrowed s.selection) rs))

        by_count : (b : Bool) → nat_le count n ≡ b → First (n - count) rs ≡ take (n - count) rest
            → items_of (split_data s.plans picked.start (at_most (if b then None else Some n) (row_mask s.selection picked))) store ++ First (n - count) rs ≡ take n (items_of (array_of s r) store ++ rest)
        by_count true e h =
            let low : count ≤ n = grind (arith, nat_tests, e) in
            let long = split_long r in
            ap (λ vs. items_of (array_of s r) store ++ vs) h
            ∙ ap (λ k. items_of (array_of s r) store ++ take (n - k) rest) (sym long)
            ∙ next_split n (items_of (array_of s r) store) rest (omega (arith, low, long))
        by_count false e h =
            let high : n < count = grind (arith, nat_tests, e) in
            let long = split_long r in
            ap (λ vs. vs ++ First (n - count) rs) (cut_is n r)
            ∙ ap (λ vs. take n (items_of (array_of s r) store) ++ vs) (none_first (n - count) rs (omega (arith, high)))
            ∙ last_split n (items_of (array_of s r) store) rest (omega (arith, high, long))

        by_limit : (b : Bool) → (n == 0) ≡ b → First (n - count) rs ≡ take (n - count) rest
            → values_in (queued s.plans s.selection (if b then [] else split_rows picked (cut_to n count) ∷ first_rows s.selection (n - count) (map (narrowed s.selection) rs))) store ≡ take n (values_of (map (split_of s) (r ∷ rs)) store)
        by_limit true e h =
            let zero_is : n ≡ 0 = grind (arith, nat_tests, e) in
            rw zero_is refl
        by_limit false e h =
            flat_map-cons (λ f. items_of f store) (split_data s.plans picked.start (at_most (cut_to n count) (row_mask s.selection picked))) cut
            ∙ by_count (nat_le count n) refl h
            ∙ ap (take n) (sym parts)

module _ {M : Type 0} (s : ScanData M) (r : Option (Range ℕ)) (store : Store) where
  abbrev Law : Option ℕ → Type 0
  Law o = values_in (queued s.plans s.selection (rows_within s.selection o (map (narrowed s.selection) (scan_ranges s r)))) store ≡ first_of o (values_of (map (split_of s) (scan_ranges s r)) store)

  before : (limit : Option ℕ) (cs : List PlanData) → s.limit ≡ limit → (s.plans).conjuncts ≡ cs → limit_if (not (is_some_plan cs)) limit ≡ limit_before s
  before limit cs e f = sym (ap (λ z. limit_if (not (is_some_plan z)) s.limit) f ∙ ap (limit_if (not (is_some_plan cs))) e)

  by_filter : (limit : Option ℕ) (cs : List PlanData) → s.limit ≡ limit → (s.plans).conjuncts ≡ cs → Law (limit_before s)
  by_filter None [] e f = subst Law (before None [] e f) (all_same s store (scan_ranges s r))
  by_filter None (c ∷ cs) e f = subst Law (before None (c ∷ cs) e f) (all_same s store (scan_ranges s r))
  by_filter (Some n) [] e f = subst Law (before (Some n) [] e f) (first_same s store f n (scan_ranges s r))
  by_filter (Some n) (c ∷ cs) e f = subst Law (before (Some n) (c ∷ cs) e f) (all_same s store (scan_ranges s r))

pub streams_give : {M : Type 0} → StreamsGiveTheFirstRows M
streams_give {M} s r store = by_filter s r store s.limit (s.plans).conjuncts refl refl
