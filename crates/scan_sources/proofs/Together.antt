-- The parts of a scan together give what it is asked for.
use Rattle.std.proofs.Common.{◌≡◌, ◌≤◌, ◌<◌, ◌+◌, ◌-◌, ◌||◌, ℕ, Bool, true, false, not, nat_le, nat_lt, List, [], ◌∷◌, ◌++◌, map, filter, flat_map, Option, Some, None, refl, ap, sym, subst, ◌∙◌, append-nil, arith}
use Rattle.std.specs.Prelude.{max, min}
use Rattle.std.proofs.lemmas.Bool.Decides.{nat_tests}
use Rattle.std.proofs.lemmas.List.{map-append}
use Rattle.std.proofs.lemmas.List.Concat.{flat_map-cons}
use Rattle.std.proofs.lemmas.List.Elements.{filter-append}
use Rattle.std.specs.declared.ops.Range.{Range}
use Rattle.scan_values.specs.Marked.{Marked}
use Rattle.scan_values.specs.Selections.{numbers, picked_rows, selects}
use Rattle.scan_values.specs.declared.selection.Selection.{Selection}
use Rattle.scan_segments.specs.Source.{Store}
use Rattle.scan_readers.specs.Readers.{ReaderState, value_of}
use Rattle.scan_readers.specs.RowIdxData.{numbered_state}
use Rattle.scan_streams.specs.Plans.{has_filter}
use Rattle.scan_core.specs.BuilderData.{BuilderData, IsBuilder, conjuncts_in}
use Rattle.scan_core.specs.Given.{Rises, asked_rows, asked_values, passes}
use Rattle.scan_core.specs.RowRanges.{is_past}
use Rattle.scan_core.specs.ScanData.{IsScan, ScanData}
use Rattle.scan_core.specs.SplitRanges.{Follow, common, rows}
use Rattle.scan_core.specs.Streaming.{first_of, limit_if, streamed, values_in}
use Rattle.scan_core.proofs.Reading.{no_numbers, numbers_join}
use Rattle.scan_sources.specs.Parts.{PartsGiveTheScan}
use Rattle.scan_sources.specs.Requests.{IsScanOfRequest, builder_of}
use Rattle.scan_sources.specs.Scans.{PartsGiveTheirRows}
use Rattle.scan_sources.specs.declared.request.BoundScanRequest.{BoundScanRequest}

-- ---- rows that are picked of two ranges, of which one follows the other
-- numbers from the later of two up to the earlier of two others, cut in between
cut_numbers : (low high x y z : ℕ) → x ≤ y → y ≤ z → numbers (max low x) (min z high) ≡ numbers (max low x) (min y high) ++ numbers (max low y) (min z high)
cut_numbers low high x y z first last = go (nat_le y low) (nat_le high y) refl refl
  where
    go : (a b : Bool) → nat_le y low ≡ a → nat_le high y ≡ b → numbers (max low x) (min z high) ≡ numbers (max low x) (min y high) ++ numbers (max low y) (min z high)
    go true b e f =
        let none = no_numbers (max low x) (min y high) (grind (arith, nat_tests, e, first)) in
        let same : max low x ≡ max low y = grind (arith, nat_tests, e, first) in
        ap (λ (n : ℕ). numbers n (min z high)) same ∙ ap (λ (ns : List ℕ). ns ++ numbers (max low y) (min z high)) (sym none)
    go false true e f =
        let none = no_numbers (max low y) (min z high) (grind (arith, nat_tests, f, last)) in
        let same : min z high ≡ min y high = grind (arith, nat_tests, f, last) in
        ap (numbers (max low x)) same ∙ sym (append-nil (numbers (max low x) (min y high))) ∙ ap (λ (ns : List ℕ). numbers (max low x) (min y high) ++ ns) (sym none)
    go false false e f =
        let upper : min y high ≡ y = grind (arith, nat_tests, f) in
        let lower : max low y ≡ y = grind (arith, nat_tests, e) in
        let below : max low x ≤ y = grind (arith, nat_tests, e, first) in
        let above : y ≤ min z high = grind (arith, nat_tests, f, last) in
        let parts = numbers_join (max low x) y (min z high) below above in
        subst (λ (n : ℕ). numbers (max low x) (min z high) ≡ numbers (max low x) n ++ numbers (max low y) (min z high)) (sym upper)
        (subst (λ (n : ℕ). numbers (max low x) (min z high) ≡ numbers (max low x) y ++ numbers n (min z high)) (sym lower) parts)

-- the same where there is no earlier number
from_zero : (high x y z : ℕ) → x ≤ y → y ≤ z → numbers x (min z high) ≡ numbers x (min y high) ++ numbers y (min z high)
from_zero high x y z first last =
    let none : (n : ℕ) → max 0 n ≡ n = λ n. grind arith in
    let P : ℕ → ℕ → Type 0 = λ a b. numbers a (min z high) ≡ numbers a (min y high) ++ numbers b (min z high) in
    subst (λ (a : ℕ). P a y) (none x) (subst (λ (b : ℕ). P (max 0 x) b) (none y) (cut_numbers 0 high x y z first last))

-- the earlier of three numbers
least : (a b c : ℕ) → min (min a b) c ≡ min b (min a c)
least a b c = grind arith

picked_parts : (o : Option (Range ℕ)) (s : Selection) (n x y z : ℕ) → x ≤ y → y ≤ z → picked_rows (common o (Some (rows x z))) s n ≡ picked_rows (common o (Some (rows x y))) s n ++ picked_rows (common o (Some (rows y z))) s n
picked_parts None s n x y z first last = ap (filter (selects s)) (from_zero n x y z first last) ∙ filter-append (selects s) (numbers x (min y n)) (numbers y (min z n))
picked_parts (Some r) s n x y z first last =
    let P : ℕ → ℕ → Type 0 = λ b d. numbers (max r.start x) d ≡ numbers (max r.start x) b ++ numbers (max r.start y) d in
    let cut : P (min (min r.end y) n) (min (min r.end z) n) = subst (λ (b : ℕ). P b (min (min r.end z) n)) (sym (least r.end y n)) (subst (λ (d : ℕ). P (min y (min r.end n)) d) (sym (least r.end z n)) (cut_numbers r.start (min r.end n) x y z first last)) in
    ap (filter (selects s)) cut ∙ filter-append (selects s) (numbers (max r.start x) (min (min r.end y) n)) (numbers (max r.start y) (min (min r.end z) n))

picked_none : (o : Option (Range ℕ)) (s : Selection) (n x : ℕ) → picked_rows (common o (Some (rows x x))) s n ≡ []
picked_none None s n x = ap (filter (selects s)) (no_numbers x (min x n) (grind arith))
picked_none (Some r) s n x = ap (filter (selects s)) (no_numbers (max r.start x) (min (min r.end x) n) (grind arith))

-- ---- their values
module _ {R M : Type 0} (state : ReaderState) (b : BuilderData R M) (store : Store) where
  abbrev of_rows : List ℕ → List Marked
  of_rows is = map (value_of (numbered_state b.offset state) b.projection store) (filter (passes (numbered_state b.offset state) (conjuncts_in b.filter) store) is)

  of_both : (is js : List ℕ) → of_rows (is ++ js) ≡ of_rows is ++ of_rows js
  of_both is js =
      let kept = passes (numbered_state b.offset state) (conjuncts_in b.filter) store in
      let value = value_of (numbered_state b.offset state) b.projection store in
      ap (map value) (filter-append kept is js) ∙ map-append value (filter kept is) (filter kept js)

  pub asked_parts : (x y z : ℕ) → x ≤ y → y ≤ z → asked_values state b (Some (rows x z)) store ≡ asked_values state b (Some (rows x y)) store ++ asked_values state b (Some (rows y z)) store
  asked_parts x y z first last =
      ap of_rows (picked_parts b.range b.selection state.rows x y z first last)
      ∙ of_both (asked_rows b state.rows (Some (rows x y))) (asked_rows b state.rows (Some (rows y z)))

  pub asked_none : (x : ℕ) → asked_values state b (Some (rows x x)) store ≡ []
  asked_none x = ap of_rows (picked_none b.range b.selection state.rows x)

-- ---- the parts of a scan
no_limit : (filtered : Bool) (values : List Marked) → first_of (limit_if (not filtered) None) values ≡ values
no_limit true values = refl
no_limit false values = refl

pub not_past : (r : Range ℕ) (n : ℕ) → r.start ≤ r.end → r.end ≤ n → is_past (Some r) n ≡ false
not_past r n low high = go (nat_lt r.end r.start) (nat_lt n r.end) refl refl
  where
    go : (a b : Bool) → nat_lt r.end r.start ≡ a → nat_lt n r.end ≡ b → (a || b) ≡ false
    go true b e f =
        let past : r.end < r.start = grind (arith, nat_tests, e) in
        absurd (omega (arith, low, past))
    go false true e f =
        let past : n < r.end = grind (arith, nat_tests, f) in
        absurd (omega (arith, high, past))
    go false false e f = refl

pub follow_up : (first last : ℕ) (rs : List (Range ℕ)) → Follow first last rs → first ≤ last
follow_up first last [] h = omega (arith, h)
follow_up first last (r ∷ rs) h =
    let here = h.0 in
    let some = h.1 in
    let rest = follow_up r.end last rs h.2 in
    omega (arith, here, some, rest)

module _ {M : Type 0} (law : PartsGiveTheirRows M) (state : ReaderState) (q : BoundScanRequest) (s : ScanData M) (builder : IsBuilder state q.projection q.filter None) (up : Rises q.selection) (is : IsScanOfRequest state q s) (scan : IsScan s) (store : Store) where
  abbrev part : Range ℕ → List Marked
  part r = values_in (streamed (record s { limit = None }) (Some r)) store

  one_part : (r : Range ℕ) → r.start ≤ r.end → r.end ≤ state.rows → part r ≡ asked_values state (builder_of q s.step) (Some r) store
  one_part r low high = law state q s r None builder up is scan (not_past r state.rows low high) store ∙ no_limit (has_filter s.plans) (asked_values state (builder_of q s.step) (Some r) store)

  all_parts : (first last : ℕ) (rs : List (Range ℕ)) → Follow first last rs → last ≤ state.rows → flat_map part rs ≡ asked_values state (builder_of q s.step) (Some (rows first last)) store
  all_parts first last [] h high =
      sym (asked_none state (builder_of q s.step) store first) ∙ ap (λ (n : ℕ). asked_values state (builder_of q s.step) (Some (rows first n)) store) h
  all_parts first last (r ∷ rs) h high =
      let asked : Range ℕ → List Marked = λ x. asked_values state (builder_of q s.step) (Some x) store in
      let some = h.1 in
      let up_to = follow_up r.end last rs h.2 in
      let low : r.start ≤ r.end = omega (arith, some) in
      let end : r.end ≤ state.rows = omega (arith, up_to, high) in
      let rest = all_parts r.end last rs h.2 high in
      let whole = asked_parts state (builder_of q s.step) store r.start r.end last low up_to in
      flat_map-cons part r rs
      ∙ ap (λ (vs : List Marked). vs ++ flat_map part rs) (one_part r low end)
      ∙ ap (λ (vs : List Marked). asked r ++ vs) rest
      ∙ sym whole
      ∙ ap (λ (n : ℕ). asked (rows n last)) h.0

pub parts_together : {M : Type 0} → PartsGiveTheirRows M → PartsGiveTheScan M
parts_together {M} law state q s first last rs builder up is scan follow high store = all_parts law state q s builder up is scan store first last rs follow high
