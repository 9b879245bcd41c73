-- Where nothing lacks, nothing changes when more arrives.
use Rattle.std.proofs.Common.{◌≡◌, ℕ, zero, suc, ◌+◌, ◌-◌, ◌<◌, ◌≤◌, ◌==◌, Bool, true, false, ◌||◌, ◌&&◌, List, [], ◌∷◌, ◌++◌, min, Option, Some, None, is_none, refl, ap, subst, ◌∙◌, sym, arith}
use Rattle.std.specs.Prelude.{if◌then◌else◌, option_and_then}
use Rattle.scan_values.specs.Marked.{Marked}
use Rattle.scan_segments.specs.Source.{Store}
use Rattle.scan_spelling.specs.Places.{Place}
use Rattle.scan_layout.specs.RowValue.{offset_of}
use Rattle.scan_layout.specs.Touched.{least_offset, greatest_offset, lesser, greater}
use Rattle.scan_plans.specs.Came.{Came, arrived, Extends, Holds}
use Rattle.scan_plans.specs.Knowing.{RunsWell, Reaches}
use Rattle.scan_plans.specs.Lists.{rows_on, least_row, offset_count, span_elements, is_whole, element_rows}
use Rattle.scan_plans.specs.Masks.{Filter, kept}
use Rattle.scan_plans.specs.Meaning.{true_rows}
use Rattle.scan_plans.specs.OffsetsData.{OffsetsData, offset_marked}
use Rattle.scan_plans.specs.PlanTree.{PlanTree, leaf, rows, evaluate, over, constant, lists, lengths, valid, numbers, by_lengths, PlanTrees, no_plans, plan}
use Rattle.scan_plans.specs.Wants.{offsets_wanted, knows_elements, wanted, all_wanted, names_id, Complete, is_bad, spoils}
use Rattle.scan_plans.proofs.Filtering.{kept_same}
use Rattle.scan_plans.proofs.Spans.{on_rows}
use Rattle.scan_plans.proofs.Transfer.{complete_left, complete_right, knows_here, offset_same, damage_on_same, overflow_on_same}

-- ---- what has arrived
pub holds_later : (here more : Came) → Extends here more → Holds (arrived more) here
holds_later here more x id bytes e = ap (option_and_then (λ b. b)) (x id bytes e)

pub complete_later : (ps : List Place) (here more : Came) → Extends here more → Complete ps here → Complete ps more
complete_later ps here more x c id = by (here id) refl (names_id id ps) (c id)
  where
    none : (o : Option (Option (List ℕ))) (bytes : Option (List ℕ)) (b : Bool) → o ≡ Some bytes → (b && is_none o) ≡ false
    none o bytes true e = rw e refl
    none o bytes false e = refl

    by : (o : Option (Option (List ℕ))) → here id ≡ o → (b : Bool) → (b && is_none o) ≡ false → (b && is_none (more id)) ≡ false
    by None e true h = absurd cc
    by None e false h = refl
    by (Some bytes) e b h = none (more id) bytes b (x id bytes e)

-- ---- what is no good
unnamed_good : (ps : List Place) (came : Came) (id : ℕ) → names_id id ps ≡ false → spoils ps came id ≡ false
unnamed_good [] came id h = refl
unnamed_good (p ∷ ps) came id h = by (p.id == id) h (λ k. unnamed_good ps came id k)
  where
    by : (b : Bool) → (b || names_id id ps) ≡ false → (names_id id ps ≡ false → spoils ps came id ≡ false) → ((b && is_bad p (came id)) || spoils ps came id) ≡ false
    by true k rest = absurd cc
    by false k rest = rest k

same_good : (ps : List Place) (came more : Came) (id : ℕ) → more id ≡ came id → spoils ps more id ≡ spoils ps came id
same_good [] came more id e = refl
same_good (p ∷ ps) came more id e = λ i. ((p.id == id) && is_bad p (e i)) || same_good ps came more id e i

pub good_later : (ps : List Place) (here more : Came) → Extends here more → Complete ps here → (id : ℕ) → spoils ps more id ≡ spoils ps here id
good_later ps here more x c id = by (here id) refl (names_id id ps) refl (c id)
  where
    by : (o : Option (Option (List ℕ))) → here id ≡ o → (b : Bool) → names_id id ps ≡ b → (b && is_none o) ≡ false → spoils ps more id ≡ spoils ps here id
    by None e true n h = absurd cc
    by None e false n h = unnamed_good ps more id n ∙ sym (unnamed_good ps here id n)
    by (Some bytes) e b n h = same_good ps here more id (x id bytes e ∙ sym e)

-- ---- the elements of lists
least_same : (most : ℕ) (f g : ℕ → Marked) (i n : ℕ) → ((j : ℕ) → i ≤ j → j < i + n → offset_of (f j) ≡ offset_of (g j)) → least_offset most f i n ≡ least_offset most g i n
least_same most f g i zero h = refl
least_same most f g i (suc n) h = λ k. lesser (h i (omega arith) (omega arith) k) (least_same most f g (i + 1) n (λ j low high. h j (omega (arith, low)) (omega (arith, high))) k)

greatest_same : (f g : ℕ → Marked) (i n : ℕ) → ((j : ℕ) → i ≤ j → j < i + n → offset_of (f j) ≡ offset_of (g j)) → greatest_offset f i n ≡ greatest_offset g i n
greatest_same f g i zero h = refl
greatest_same f g i (suc n) h = λ k. greater (h i (omega arith) (omega arith) k) (greatest_same f g (i + 1) n (λ j low high. h j (omega (arith, low)) (omega (arith, high))) k)

module _ (o : OffsetsData) (here : Came) (store : Store) (holds : Holds store here) where
  span_same : (is : List ℕ) → Complete (offsets_wanted o is) here → span_elements o store is ≡ span_elements o (arrived here) is
  span_same [] c = refl
  span_same (i ∷ is) c =
      let first = least_row i is in
      let n = offset_count i is in
      let at = λ (j : ℕ) (low : first ≤ j) (high : j < first + n). offset_same o here store j (i ∷ is) holds (on_rows first n j low high) c in
      let low : least_offset o.elements (offset_marked o store) first n ≡ least_offset o.elements (offset_marked o (arrived here)) first n = least_same o.elements (offset_marked o store) (offset_marked o (arrived here)) first n at in
      let high : greatest_offset (offset_marked o store) first n ≡ greatest_offset (offset_marked o (arrived here)) first n = greatest_same (offset_marked o store) (offset_marked o (arrived here)) first n at in
      λ k. rows_on (low k) (min o.elements (high k) - low k)

  pub elements_same : (is : List ℕ) → Complete (offsets_wanted o is) here → element_rows o store is ≡ element_rows o (arrived here) is
  elements_same is c = ap (λ js. if is_whole o is then rows_on 0 o.elements else js) (span_same is c)

-- ---- what rows of a plan want
module _ (here more : Came) (x : Extends here more) where
  mutual
    pub wanted_later : (p : PlanTree) (is : List ℕ) → Complete (wanted p here is) here → wanted p more is ≡ wanted p here is
    wanted_later (leaf d s gs) is c = refl
    wanted_later (rows d vs) is c = refl
    wanted_later (evaluate d e p) is c = wanted_later p is c
    wanted_later (over d e ps) is c = all_later ps is c
    wanted_later (constant d e) is c = refl
    wanted_later (lists d p o) is c =
        let first = complete_left (offsets_wanted o is) (if knows_elements o here is then wanted p here (element_rows o (arrived here) is) else []) here c in
        let known = knows_here o here is first in
        let past = knows_here o more is (complete_later (offsets_wanted o is) here more x first) in
        let rest : Complete (wanted p here (element_rows o (arrived here) is)) here = second (knows_elements o here is) known (complete_right (offsets_wanted o is) (if knows_elements o here is then wanted p here (element_rows o (arrived here) is) else []) here c) in
        let later : wanted p more (element_rows o (arrived more) is) ≡ wanted p here (element_rows o (arrived here) is) = ap (wanted p more) (elements_same o here (arrived more) (holds_later here more x) is first) ∙ wanted_later p (element_rows o (arrived here) is) rest in
        ap (λ b. offsets_wanted o is ++ (if b then wanted p more (element_rows o (arrived more) is) else [])) past
        ∙ ap (λ qs. offsets_wanted o is ++ qs) later
        ∙ ap (λ b. offsets_wanted o is ++ (if b then wanted p here (element_rows o (arrived here) is) else [])) (sym known)
      where
        second : (b : Bool) → b ≡ true → Complete (if b then wanted p here (element_rows o (arrived here) is) else []) here → Complete (wanted p here (element_rows o (arrived here) is)) here
        second true e w = w
        second false e w = absurd cc
    wanted_later (lengths o) is c = refl
    wanted_later (valid p v) is c =
        let first = wanted_later v is (complete_left (wanted v here is) (wanted p here is) here c) in
        let rest = wanted_later p is (complete_right (wanted v here is) (wanted p here is) here c) in
        λ i. first i ++ rest i
    wanted_later (numbers k) is c = refl
    wanted_later (by_lengths d e t f p) is c = wanted_later p is c

    pub all_later : (ps : PlanTrees) (is : List ℕ) → Complete (all_wanted ps here is) here → all_wanted ps more is ≡ all_wanted ps here is
    all_later no_plans is c = refl
    all_later (plan p ps) is c =
        let first = wanted_later p is (complete_left (wanted p here is) (all_wanted ps here is) here c) in
        let rest = all_later ps is (complete_right (wanted p here is) (all_wanted ps here is) here c) in
        λ i. first i ++ rest i

  -- ---- filters that ran
  runs_later : (bits : List Bool) (f : Filter) → RunsWell here bits f → RunsWell more bits f
  runs_later bits f r =
      let is = true_rows f.1 bits in
      let same = wanted_later f.0 is r.0 in (
        subst (λ ps. Complete ps more) (sym same) (complete_later (wanted f.0 here is) here more x r.0),
        overflow_on_same f.0 here (arrived more) is (holds_later here more x) r.0 ∙ r.1,
        λ id. ap (λ ps. spoils ps more id) same ∙ good_later (wanted f.0 here is) here more x r.0 id ∙ r.2 id,
        damage_on_same f.0 here (arrived more) is (holds_later here more x) r.0 ∙ r.3,
      )

  pub reach_later : (bits : List Bool) (fs : List Filter) (n : ℕ) (new : List Bool) → Reaches here bits fs n new → Reaches more bits fs n new
  reach_later bits fs zero new r = r
  reach_later bits [] (suc n) new r = absurd r
  reach_later bits (f ∷ fs) (suc n) new r =
      let same = kept_same f here (arrived more) bits (holds_later here more x) (r.0).0 in
      (runs_later bits f r.0, subst (λ (m : List Bool). Reaches more m fs n new) (sym same) (reach_later (kept f.0 (arrived here) f.1 bits) fs n new r.1))
