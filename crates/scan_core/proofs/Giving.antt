-- All splits of a scan together give the values that its builder asks for.
use Rattle.std.proofs.Common.{◌≡◌, ◌+◌, ◌-◌, ◌&&◌, ◌==◌, ℕ, zero, suc, Bool, true, false, cond, List, [], ◌∷◌, ◌++◌, map, filter, flat_map, IfSome, Option, Some, None, refl, sym, ap, subst, ◌∙◌, arith}
use Rattle.std.proofs.lemmas.Bool.Decides.{nat_tests}
use Rattle.std.proofs.lemmas.List.{map-append}
use Rattle.std.proofs.lemmas.List.Concat.{flat_map-cons}
use Rattle.std.proofs.lemmas.List.Elements.{filter-append}
use Rattle.std.specs.List.{range_with_len}
use Rattle.std.specs.declared.ops.Range.{Range}
use Rattle.scan_values.specs.Marked.{is_true}
use Rattle.scan_values.specs.Selections.{numbers, row_mask, selects, picked_rows}
use Rattle.scan_values.specs.declared.selection.Selection.{Selection}
use Rattle.scan_values.specs.declared.selection.Selection.TheVariants.{All, IncludeByIndex, ExcludeByIndex}
use Rattle.scan_segments.specs.Source.{Store}
use Rattle.scan_expr.specs.Bound.{Bound}
use Rattle.scan_plans.specs.Futures.{items_of}
use Rattle.scan_plans.specs.Meaning.{true_rows}
use Rattle.scan_readers.specs.Evaluations.{rows_true}
use Rattle.scan_readers.specs.Readers.{ReaderState, value_of}
use Rattle.scan_readers.specs.RowIdxData.{numbered_state}
use Rattle.scan_core.specs.Boundaries.{is_split}
use Rattle.scan_core.specs.BuilderData.{AreBoundaries, BuilderData, IsBuilder, asked_masks, chosen_points, conjuncts_in}
use Rattle.scan_core.specs.Given.{passes, asked_rows, values_of, Rises, SplitsGiveWhatIsAsked}
use Rattle.scan_core.specs.RowRanges.{is_past, narrowed, AreRanges, IsRange}
use Rattle.scan_core.specs.ScanData.{ScanData, scan_ranges, split_of}
use Rattle.scan_core.specs.SplitMeaning.{IsScanOf, in_turn, passed}
use Rattle.scan_core.specs.SplitRanges.{common, last_from, neighbours, rows, Follow}
use Rattle.scan_core.proofs.Cutting.{these_end, these_rise}
use Rattle.scan_core.proofs.Executing.{mask_reaches, scan_within}
use Rattle.scan_core.proofs.Following.{splits_of_all}
use Rattle.scan_core.proofs.Picking.{narrowed_within}
use Rattle.scan_core.proofs.Reaching.{EndsBy, common_ends, past_ends}
use Rattle.scan_core.proofs.Reading.{both_of, narrowed_rows, reached_rows}
use Rattle.scan_core.proofs.Written.{in_turn_as_written}

-- ---- the true rows of a mask
pub mask_rows : (p : ℕ → Bool) (a n : ℕ) → true_rows a (map p (range_with_len a n)) ≡ filter p (range_with_len a n)
mask_rows p a zero = refl
mask_rows p a (suc n) = ap (λ xs. cond (p a) (a ∷ xs) xs) (mask_rows p (a + 1) n)

filter_all : (xs : List ℕ) → filter (λ i. true) xs ≡ xs
filter_all [] = refl
filter_all (x ∷ xs) = ap (λ ys. x ∷ ys) (filter_all xs)

filter_twice : (p q : ℕ → Bool) (xs : List ℕ) → filter q (filter p xs) ≡ filter (λ i. p i && q i) xs
filter_twice p q [] = refl
filter_twice p q (x ∷ xs) = go (p x) (q x) refl (filter_twice p q xs)
  where
    go : (a b : Bool) → q x ≡ b → filter q (filter p xs) ≡ filter (λ i. p i && q i) xs → filter q (cond a (x ∷ filter p xs) (filter p xs)) ≡ cond (a && b) (x ∷ filter (λ i. p i && q i) xs) (filter (λ i. p i && q i) xs)
    go false b e rest = rest
    go true true e rest = rw e (ap (λ ys. x ∷ ys) rest)
    go true false e rest = rw e rest

module _ (s : ReaderState) (store : Store) where
  pub rows_kept : (c : Bound) (first : ℕ) (bits : List Bool) → true_rows first (rows_true s c store first bits) ≡ filter (λ i. is_true (value_of s c store i)) (true_rows first bits)
  rows_kept c first [] = refl
  rows_kept c first (false ∷ bits) = rows_kept c (first + 1) bits
  rows_kept c first (true ∷ bits) = ap (λ xs. cond (is_true (value_of s c store first)) (first ∷ xs) xs) (rows_kept c (first + 1) bits)

  pub rows_passed : (cs : List Bound) (first : ℕ) (bits : List Bool) → true_rows first (passed s cs store first bits) ≡ filter (passes s cs store) (true_rows first bits)
  rows_passed [] first bits = sym (filter_all (true_rows first bits))
  rows_passed (c ∷ cs) first bits =
      rows_passed cs first (rows_true s c store first bits)
      ∙ ap (filter (passes s cs store)) (rows_kept c first bits)
      ∙ filter_twice (λ i. is_true (value_of s c store i)) (passes s cs store) (true_rows first bits)

-- ---- a split, and all splits
module _ {M : Type 0} (state : ReaderState) (cs : List Bound) (e : Bound) (s : ScanData M) (plans : IsScanOf state (in_turn state cs) e s.plans) (all : s.rows ≡ state.rows) (rises : Rises s.selection) (store : Store) where
  split_values : (r : Range ℕ) → IsRange s.rows r → items_of (split_of s r).future store ≡ map (value_of state e store) (filter (passes state cs store) (filter (selects s.selection) (numbers r.start r.end)))
  split_values r i =
      let picked = narrowed s.selection r in
      let mask = row_mask s.selection picked in
      let within : IsRange s.rows picked = narrowed_within s.rows s.selection r rises i in
      let long = mask_reaches s.rows s.selection picked mask refl within in
      let low = within.1 in
      let means = in_turn_as_written state cs e s.plans picked.start mask plans (omega (arith, long, low, all)) in
      means.items store
      ∙ ap (map (value_of state e store)) (rows_passed state store cs picked.start mask)
      ∙ ap (λ is. map (value_of state e store) (filter (passes state cs store) is)) (mask_rows (selects s.selection) picked.start (picked.end - picked.start) ∙ narrowed_rows s.selection r rises)

  all_values : (rs : List (Range ℕ)) → AreRanges s.rows rs → values_of (map (split_of s) rs) store ≡ map (value_of state e store) (filter (passes state cs store) (flat_map (λ (t : Range ℕ). filter (selects s.selection) (numbers t.start t.end)) rs))
  all_values [] h = refl
  all_values (r ∷ rs) h =
      let here = filter (selects s.selection) (numbers r.start r.end) in
      let rest = flat_map (λ (t : Range ℕ). filter (selects s.selection) (numbers t.start t.end)) rs in
      let p = passes state cs store in
      let v = value_of state e store in
      let parts : map v (filter p (here ++ rest)) ≡ map v (filter p here) ++ map v (filter p rest) = ap (map v) (filter-append p here rest) ∙ map-append v (filter p here) (filter p rest) in
      flat_map-cons (λ f. items_of f.future store) (split_of s r) (map (split_of s) rs)
      ∙ ap (λ xs. xs ++ values_of (map (split_of s) rs) store) (split_values r h.0)
      ∙ ap (λ xs. map (value_of state e store) (filter (passes state cs store) here) ++ xs) (all_values rs h.1)
      ∙ sym parts
      ∙ ap (λ is. map (value_of state e store) (filter (passes state cs store) is)) (sym (flat_map-cons (λ (t : Range ℕ). filter (selects s.selection) (numbers t.start t.end)) r rs))

-- ---- boundaries of all rows
bounds_follow : (n : ℕ) (bs : List ℕ) → AreBoundaries 0 n bs → Follow 0 n (neighbours bs)
bounds_follow n [] h = absurd (no_ends h.ends)
  where
    no_ends : false ≡ true → ⊥
    no_ends e = cc
bounds_follow n (x ∷ xs) h =
    let ends = both_of (x == 0) (last_from x xs == n) h.ends in
    let first : x ≡ 0 = grind (arith, nat_tests, ends.0) in
    let last : last_from x xs ≡ n = grind (arith, nat_tests, ends.1) in
    subst (λ z. Follow 0 z (neighbours (x ∷ xs))) last (subst (λ z. Follow z (last_from x xs) (neighbours (x ∷ xs))) first (splits_of_all x xs h.rising))

some_range : (a : Range ℕ) (o : Option (Range ℕ)) → common (Some a) o ≡ None → ⊥
some_range a None e = cc
some_range a (Some c) e = cc

whole_follow : {R M : Type 0} (state : ReaderState) (b : BuilderData R M) (bs : List ℕ) (r : Option (Range ℕ)) → IsBuilder state b.projection b.filter b.natural
    → bs ≡ chosen_points state b.split_by (asked_masks b.projection b.filter) b.range b.natural → common b.range r ≡ None → Follow 0 state.rows (neighbours bs)
whole_follow {R} {M} state b bs r h e none = go b.range b.natural h.splits e none
  where
    go : (own : Option (Range ℕ)) (natural : Option (List ℕ)) → IfSome natural (AreBoundaries 0 state.rows) → bs ≡ chosen_points state b.split_by (asked_masks b.projection b.filter) own natural → common own r ≡ None → Follow 0 state.rows (neighbours bs)
    go own (Some ns) k p q = bounds_follow state.rows bs (subst (AreBoundaries 0 state.rows) (sym p) k)
    go None None k p q =
        let test = is_split b.split_by state (asked_masks b.projection b.filter) (rows 0 state.rows) in
        bounds_follow state.rows bs (record { rising = these_rise test (rows 0 state.rows) bs p; ends = these_end test (rows 0 state.rows) bs (omega arith) p })
    go (Some own) None k p q = absurd (some_range own r q)

pub splits_give : {R M : Type 0} → SplitsGiveWhatIsAsked R M
splits_give {R} {M} state b s r h rises p scan past store =
    let ns = numbered_state b.offset state in
    let cs = conjuncts_in b.filter in
    let up : Rises s.selection = subst Rises (sym p.selection) rises in
    let here : is_past r s.rows ≡ false = subst (λ n. is_past r n ≡ false) (sym p.rows) past in
    let values = all_values ns cs b.projection s p.plans p.rows up store (scan_ranges s r) (scan_within s r scan here) in
    let ends : EndsBy s.rows (common s.range r) = common_ends s.rows s.range r (past_ends s.rows s.range scan.range) (past_ends s.rows r here) in
    let follow = λ (k : common b.range r ≡ None). whole_follow state b s.boundaries r h p.boundaries k in
    let whole : common s.range r ≡ None → Follow 0 s.rows (neighbours s.boundaries) = λ k. subst (λ n. Follow 0 n (neighbours s.boundaries)) (sym p.rows) (follow (subst (λ o. common o r ≡ None) p.range k)) in
    let reached = reached_rows s.rows s.boundaries (common s.range r) s.selection scan.rising whole ends up in
    let asked : picked_rows (common s.range r) s.selection s.rows ≡ asked_rows b state.rows r = ap (λ o. picked_rows (common o r) s.selection s.rows) p.range ∙ ap (λ z. picked_rows (common b.range r) z s.rows) p.selection ∙ ap (picked_rows (common b.range r) b.selection) p.rows in
    values ∙ ap (λ is. map (value_of ns b.projection store) (filter (passes ns cs store) is)) (reached ∙ asked)
